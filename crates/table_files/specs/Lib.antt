pub mod Freed
pub mod Held
pub mod Laws
