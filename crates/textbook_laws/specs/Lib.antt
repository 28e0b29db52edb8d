pub mod Textbook
pub mod TwoParts
