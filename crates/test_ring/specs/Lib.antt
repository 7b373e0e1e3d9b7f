pub mod Glues
pub mod ReductionRow
pub mod Stepping
pub mod VivificationRow
