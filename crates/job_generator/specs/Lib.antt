pub mod Draws
pub mod GeneratedOperations
pub mod GeneratedJobs
