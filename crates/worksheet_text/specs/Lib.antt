pub mod SheetFaults
pub mod SheetReading
pub mod SheetTexts
pub mod SheetWords
