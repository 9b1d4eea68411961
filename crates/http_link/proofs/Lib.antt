pub mod Folders
pub mod Received
