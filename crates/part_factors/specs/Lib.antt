pub mod BadPlaces
pub mod ColumnFactors
pub mod PanelRows
