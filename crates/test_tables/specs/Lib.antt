pub mod Books
pub mod Samples
