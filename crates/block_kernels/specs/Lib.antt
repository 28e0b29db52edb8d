pub mod LaidBlocks
pub mod ReadGrids
pub mod BlockOpers
pub mod Ready
pub mod Outcomes
pub mod PivotLists
