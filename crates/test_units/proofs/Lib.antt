mod Burying
mod Counting
mod Drawing
mod Giving
pub mod Learning
mod Listing
pub mod Playing
mod Summing
mod Telling
mod Writing
