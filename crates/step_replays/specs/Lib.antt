pub mod Accesses
pub mod Replays
pub mod Fits
pub mod Fronts
