pub mod AllSplits
pub mod FewTasks
pub mod FlatMaps
pub mod NumberedFamilies
pub mod NumberedSets
pub mod Numbering
pub mod SameTasks
pub mod Subsets
pub mod Variants
pub mod Walks
mod WorkedRows
mod WorkedVariants
