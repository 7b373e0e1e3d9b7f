pub mod Drops
pub mod Scans
