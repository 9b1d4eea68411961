pub mod Laws
pub mod Marks
pub mod Stores
pub mod Stretches
pub mod Writes
