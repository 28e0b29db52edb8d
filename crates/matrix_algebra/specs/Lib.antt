pub mod Factors
pub mod Triangles
