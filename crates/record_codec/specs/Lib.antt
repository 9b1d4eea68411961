pub mod Changes
pub mod Codec
pub mod Records
pub mod Spelled
pub mod Values
