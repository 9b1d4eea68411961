pub mod Kept
pub mod Parts
pub mod Run
pub mod Steps
pub mod Summary
