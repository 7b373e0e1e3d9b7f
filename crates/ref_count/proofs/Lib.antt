pub mod Loaded
mod Waiting
