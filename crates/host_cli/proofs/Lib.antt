pub mod AllBut
pub mod Outcomes
