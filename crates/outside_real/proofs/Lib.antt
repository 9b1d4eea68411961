pub mod DiskTells
pub mod FolderTells
pub mod ToldCall
