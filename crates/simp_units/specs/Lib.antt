pub mod Ends
pub mod Begun
pub mod Demand
pub mod Progress
pub mod Tidied
