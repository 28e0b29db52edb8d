pub mod Rects
pub mod Lent
pub mod Opers
pub mod Regions
pub mod Panels
