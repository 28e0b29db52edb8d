pub mod Families
pub mod Feasible
pub mod Numbers
pub mod Rules
pub mod Sides
pub mod Splits
pub mod Sublists
