pub mod BlockLists
pub mod OwnBlocks
pub mod OwnEquations
pub mod StatementSettings
pub mod StoredLeaves
