pub mod Journals
pub mod Tallies
pub mod Finishes
pub mod Checks
pub mod Lawful
pub mod CommandLine
pub mod StatusLemmas
pub mod LratSteps
pub mod Promised
pub mod Models
pub mod Satisfied
mod AnswerText
pub mod PlainNumbers
pub mod PlainTokens
pub mod PlainClauses
pub mod PlainReads
