pub mod EachLine
pub mod ReadOperations
pub mod SheetPlaces
pub mod TaskSteps
mod WorkedSheets
