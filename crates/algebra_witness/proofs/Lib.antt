mod LowerSolve
mod LuSteps
mod Slices
