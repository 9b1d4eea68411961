pub mod Answers
pub mod Files
pub mod Folder
pub mod Found
pub mod Honesty
pub mod MemFolder
pub mod Told
