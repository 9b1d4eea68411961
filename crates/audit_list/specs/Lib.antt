pub mod Reads
pub mod Text
pub mod Words
