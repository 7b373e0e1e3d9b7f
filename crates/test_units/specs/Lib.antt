pub mod Doings
pub mod Samples
