mod Rows
mod OneOutcome
mod Saturation
mod OnVariables
mod Numbers
mod Steps
mod Undecided
mod Late
pub mod Taken
