pub mod Standings
pub mod Waits
pub mod Taking
pub mod Ending
pub mod Filling
