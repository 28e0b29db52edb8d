pub mod CommandWords
pub mod NumberWords
pub mod OneCommand
pub mod PmeWords
pub mod RunOptions
mod SheetWords
pub mod VariantWords
pub mod WordFronts
mod WorkedWords
