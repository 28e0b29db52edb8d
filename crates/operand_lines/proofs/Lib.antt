pub mod PanelPlaces
pub mod PartResidues
pub mod PartValues
