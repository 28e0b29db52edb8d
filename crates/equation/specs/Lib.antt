pub mod Candidates
pub mod Equations
pub mod Jobs
pub mod Kernels
pub mod Meanings
pub mod Pivots
pub mod Residuals
