pub mod Glues
pub mod ReductionRow
pub mod SteppingLemmas
pub mod VivificationRow
