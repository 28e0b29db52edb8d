pub mod CanonicalSteps
pub mod Choices
pub mod ChosenVariants
pub mod Faults
pub mod IssuedSteps
pub mod LoopOrder
pub mod WorkedSteps
