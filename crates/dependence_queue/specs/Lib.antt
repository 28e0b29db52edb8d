pub mod Chains
pub mod Conflicts
pub mod Edges
pub mod Indexes
pub mod Marks
pub mod Uses
