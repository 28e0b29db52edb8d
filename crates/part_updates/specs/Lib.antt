pub mod Changes
pub mod ProductFactors
pub mod Tiles
