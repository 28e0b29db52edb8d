pub mod AnyTasks
pub mod FoundBlocks
pub mod Marks
pub mod Outcomes
pub mod Progress
