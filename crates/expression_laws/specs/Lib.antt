pub mod OwnBlocks
pub mod StatementSettings
pub mod StoredLeaves
