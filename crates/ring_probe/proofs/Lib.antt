pub mod Kept
pub mod Tried
pub mod Traced
pub mod Negated
