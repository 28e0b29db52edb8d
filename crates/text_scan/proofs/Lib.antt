pub mod FaultTests
pub mod AllTokens
pub mod Comments
pub mod FirstBadBytes
pub mod FirstLines
pub mod LineFeeds
pub mod LineOrders
pub mod LinesLeft
pub mod NormalScans
pub mod NumberTexts
pub mod NumberWords
pub mod NumberedLines
pub mod Pieces
pub mod ScannedTokens
mod Steps
pub mod TokenParts
pub mod WordFronts
mod WorkedTokenization
