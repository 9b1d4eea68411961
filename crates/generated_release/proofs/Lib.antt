pub mod Apart
pub mod Manifests
pub mod Named
pub mod Publishable
pub mod Refusals
pub mod Repeats
pub mod Spelled
pub mod Written
