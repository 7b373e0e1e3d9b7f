pub mod Sample
pub mod Crowd
