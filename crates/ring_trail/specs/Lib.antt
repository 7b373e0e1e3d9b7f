pub mod TrailData
pub mod Reasoned
pub mod Closed
pub mod Inside
