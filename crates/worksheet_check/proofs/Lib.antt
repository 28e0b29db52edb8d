pub mod FirstLines
pub mod FirstPlaces
pub mod FirstUpdates
pub mod Held
pub mod NoFindings
pub mod OrderedSets
pub mod RightUpdates
pub mod RightVerdicts
pub mod SameLines
pub mod Searches
pub mod ToldVerdicts
mod WorkedVerdicts
pub mod WrongPlaces
