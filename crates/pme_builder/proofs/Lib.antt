pub mod BlockStates
