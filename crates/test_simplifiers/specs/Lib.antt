pub mod Numbers
pub mod Simplifiers
