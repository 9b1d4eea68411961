pub mod Applications
pub mod Deployments
pub mod Elements
pub mod Held
