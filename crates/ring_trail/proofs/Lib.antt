pub mod Values
pub mod Levels
pub mod Shape
pub mod Truths
pub mod Causes
