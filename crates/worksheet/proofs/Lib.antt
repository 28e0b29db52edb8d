pub mod KeptItems
pub mod MadeRounds
pub mod MadeWorksheets
pub mod Rounds
mod WorkedWorksheets
