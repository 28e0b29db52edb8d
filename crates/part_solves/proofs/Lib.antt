pub mod Diagonals
pub mod LdlValues
pub mod LineSteps
pub mod LinesDone
pub mod PartedSums
pub mod SolvedValues
pub mod SylvesterSteps
