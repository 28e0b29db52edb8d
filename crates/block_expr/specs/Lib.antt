pub mod Expanded
pub mod Places
pub mod Seen
pub mod Shapes
pub mod Simplified
pub mod Terms
pub mod Texts
