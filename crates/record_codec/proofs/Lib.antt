pub mod Blocks
pub mod Bounds
pub mod Changes
pub mod Records
pub mod Written
