pub mod Begun
pub mod Copies
pub mod Parts
pub mod Wider
