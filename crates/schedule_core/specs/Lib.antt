pub mod Courses
pub mod EventBlocks
pub mod HeldSteps
pub mod Machines
pub mod Schedules
pub mod StepAccesses
pub mod Turns
