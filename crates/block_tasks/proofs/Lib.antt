pub mod TaskTests
pub mod SolveTasks
pub mod BlockViews
pub mod WorkViews
pub mod EffectValues
pub mod TermSums
pub mod LeftSums
pub mod RightSums
pub mod LuSums
pub mod LdlSums
pub mod StatementSizes
mod WorkedEffects
