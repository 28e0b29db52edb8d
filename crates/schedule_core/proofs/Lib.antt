pub mod EdgeCounts
pub mod EndedWrites
pub mod EventBlocks
pub mod EventTests
pub mod EndedSteps
pub mod HeldUses
pub mod FoundSteps
pub mod ReleasedSteps
pub mod ReplayFronts
pub mod RunningSteps
pub mod ScheduleTests
pub mod StepsInOrder
mod WorkedSchedules
pub mod TurnTests
pub mod MachineSteps
pub mod MachineOutcomes
