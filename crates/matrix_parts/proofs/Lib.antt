pub mod Rects
pub mod Kept
pub mod RowSplits
mod Ends
mod PartSteps
pub mod Regions
pub mod Panels
mod RegionMemory
mod RegionSplits
mod RegionSharing
mod PanelSteps
pub mod Back
