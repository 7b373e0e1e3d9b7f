pub mod Passes
pub mod Rounds
pub mod Left
pub mod Ruled
pub mod Again
