pub mod Laws
pub mod Readers
pub mod Spelled
pub mod Values
