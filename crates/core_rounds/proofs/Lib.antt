pub mod Learned
pub mod Journals
pub mod OneRound
pub mod AllRounds
pub mod HintedRounds
