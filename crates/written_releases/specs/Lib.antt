pub mod Answered
pub mod Installable
pub mod TwoReleases
pub mod Written
