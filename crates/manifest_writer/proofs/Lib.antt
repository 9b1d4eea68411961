pub mod Children
pub mod Content
pub mod ReadApplications
pub mod ReadDeployments
pub mod ReadParts
pub mod Slashes
pub mod Told
pub mod Writable
