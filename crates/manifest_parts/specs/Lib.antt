pub mod Elements
pub mod Outcome
pub mod Parts
pub mod Values
