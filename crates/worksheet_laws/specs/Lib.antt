pub mod SheetLines
pub mod ShownPlaces
pub mod SpelledSheets
