pub mod ByPlace
pub mod Sums
