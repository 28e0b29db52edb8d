pub mod FilledRows
pub mod HalfSums
pub mod Reciprocals
