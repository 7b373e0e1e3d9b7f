pub mod InRounds
pub mod Rounds
