mod Drawing
mod Keeping
mod Summing
mod Trading
