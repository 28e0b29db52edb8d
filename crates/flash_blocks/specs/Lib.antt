pub mod Blocks
pub mod Flashes
pub mod LentBlocks
