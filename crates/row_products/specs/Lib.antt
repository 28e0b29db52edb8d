pub mod HalfSums
