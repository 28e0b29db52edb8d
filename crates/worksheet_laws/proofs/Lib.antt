pub mod BehindJobs
pub mod DimsAgain
pub mod DimsTaken
pub mod FirstFound
pub mod MadeAgain
pub mod MadeSheets
pub mod NamedOperations
pub mod PrintedComments
pub mod PrintedParts
pub mod PrintedSheets
pub mod RoundAgain
pub mod SheetAgain
pub mod SheetTaken
pub mod ShownLines
pub mod ShownVerdicts
pub mod TasksAgain
pub mod TasksTaken
pub mod ValidPlaces
mod WorkedTexts
mod WorkedVerdicts
