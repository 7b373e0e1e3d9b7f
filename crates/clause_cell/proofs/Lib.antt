pub mod Ranges
pub mod Exact
pub mod Packed
pub mod Joins
pub mod InBlocks
pub mod OneBlock
pub mod Steps
pub mod Starting
