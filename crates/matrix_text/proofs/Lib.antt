pub mod EntryTexts
pub mod Found
pub mod MatrixRows
pub mod MatrixSpelling
pub mod PrintedLines
pub mod PrintedTexts
pub mod RowNumbers
pub mod Rows
pub mod WordLists
pub mod WrittenMatrix
mod WorkedTexts
