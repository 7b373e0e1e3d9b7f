pub mod Forcing
pub mod Steps
pub mod Queue
pub mod Starting
pub mod Looking
pub mod Cleaning
pub mod Ending
