pub mod Ages
pub mod CommandFacts
pub mod EndCounts
pub mod Example
pub mod NextMark
pub mod Rows
