pub mod Draws
pub mod Models
pub mod Going
