pub mod Quarters
pub mod Trailing
pub mod LuInTwo
pub mod LdlInTwo
pub mod WholeMatrices
pub mod BlockEquations
