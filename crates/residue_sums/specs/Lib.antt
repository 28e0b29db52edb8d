pub mod Grids
pub mod Inverses
pub mod Residues
pub mod Sums
pub mod Tables
