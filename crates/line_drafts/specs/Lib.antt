pub mod Added
pub mod Faults
pub mod Held
pub mod Works
