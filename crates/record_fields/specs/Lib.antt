pub mod Fields
pub mod Parts
pub mod Places
pub mod Readers
pub mod Reads
pub mod Records
pub mod Spelled
pub mod Values
