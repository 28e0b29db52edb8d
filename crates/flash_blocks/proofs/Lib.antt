pub mod Cuts
mod FirstRows
mod Pieces
pub mod Places
pub mod TableGrids
mod WorkedCuts
