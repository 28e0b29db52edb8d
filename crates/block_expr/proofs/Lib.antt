pub mod ExpandedEquations
pub mod ExpandedValues
pub mod NumberedTerms
pub mod PlacedTasks
pub mod SeenTrees
pub mod Sums
pub mod SimplifiedTrees
pub mod SimplifiedValues
pub mod SimplifiedSolves
pub mod SimplifiedStates
pub mod PlainSettings
pub mod NoZeroBlocks
pub mod ShapedTrees
pub mod EachBelow
mod WorkedTexts
