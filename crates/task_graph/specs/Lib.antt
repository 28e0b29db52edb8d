pub mod Classes
pub mod Factors
pub mod Listing
pub mod Needs
pub mod Order
pub mod Reads
pub mod Tasks
