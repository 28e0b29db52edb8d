pub mod Congruence
pub mod Grids
pub mod Induction
pub mod Inverses
pub mod Parts
pub mod Sums
