pub mod Laws
pub mod Releases
pub mod Weight
