pub mod Counts
pub mod Reads
