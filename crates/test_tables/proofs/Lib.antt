pub mod Gathering
mod Trying
