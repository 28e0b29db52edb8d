pub mod SharedSums
pub mod TaskRuns
