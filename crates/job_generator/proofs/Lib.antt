pub mod PlacesInOrder
pub mod NumbersDrawn
pub mod OperationsRead
pub mod ValidJobs
pub mod WritableJobs
mod WorkedJobs
pub mod GoodPivots
