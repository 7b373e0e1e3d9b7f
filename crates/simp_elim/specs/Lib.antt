pub mod Resolution
pub mod Rule
pub mod Bounds
pub mod Ends
pub mod Occurring
pub mod Stages
