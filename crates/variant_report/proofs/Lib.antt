mod BlockLines
mod PlacedTexts
mod SmallJobs
mod WorkedPmes
mod WorkedTexts
mod WorkedVerdicts
