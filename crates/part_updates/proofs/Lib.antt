pub mod ChangedAreas
pub mod PanelSums
pub mod PartProducts
pub mod ScaledPanels
