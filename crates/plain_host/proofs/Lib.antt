pub mod LastAnswer
pub mod Steps
pub mod Texts
