pub mod Cuts
pub mod Held
pub mod Orders
pub mod PartitionedEquations
pub mod Settings
pub mod States
pub mod Trees
pub mod Values
