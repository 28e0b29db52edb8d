pub mod BlockCounts
pub mod TableSteps
pub mod StatementFacts
pub mod TaskBlocks
pub mod AccessLaws
pub mod NumberedBlocks
pub mod GatherSteps
pub mod ReadSteps
