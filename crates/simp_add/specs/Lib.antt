pub mod Common
pub mod Rule
pub mod Ends
pub mod Alike
pub mod Counted
pub mod Shared
pub mod Stages
