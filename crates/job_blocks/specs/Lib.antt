pub mod BlockedJobs
pub mod FactorBlocks
pub mod Tables
