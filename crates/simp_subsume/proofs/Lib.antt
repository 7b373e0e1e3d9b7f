pub mod Fronts
pub mod Relating
pub mod Walking
pub mod Reducing
pub mod Growing
pub mod Replacing
pub mod Ending
pub mod Signing
