pub mod Binding
pub mod DecimalTexts
pub mod Digits
