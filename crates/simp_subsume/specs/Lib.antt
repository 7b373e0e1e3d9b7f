pub mod Related
pub mod Ends
pub mod Walked
pub mod Compared
pub mod Signed
