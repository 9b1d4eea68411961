pub mod Algorithm
pub mod Checker
pub mod Count
pub mod Difference
pub mod Digest
pub mod Hashers
pub mod Matches
pub mod Wrong
