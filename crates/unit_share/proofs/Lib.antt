mod Codes
pub mod Numbered
mod Seeing
