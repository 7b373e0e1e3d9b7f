mod Going
mod Running
mod Turning
pub mod Units
pub mod UnitCells
mod Numbered
pub mod Leaving
pub mod Telling
mod Resting
