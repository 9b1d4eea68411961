pub mod Lookups
pub mod Manifests
pub mod Hashes
pub mod Readings
pub mod Roots
