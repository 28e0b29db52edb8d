pub mod BlocksRead
pub mod ClassNeeds
pub mod EarlierTasks
pub mod Joined
pub mod NeedsFirst
pub mod TasksExist
pub mod TasksInOrder
pub mod TasksSorted
pub mod Terms
pub mod ValidFactors
pub mod WorkBlocks
mod WorkedTasks
