pub mod Kept
pub mod Books
pub mod Ended
pub mod Turns
