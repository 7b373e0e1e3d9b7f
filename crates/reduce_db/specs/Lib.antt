pub mod Moment
pub mod Lemmas
pub mod Choice
pub mod Ranking
pub mod Dropping
pub mod Reduction
