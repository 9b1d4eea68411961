pub mod Causes
pub mod Fetched
pub mod FolderSites
pub mod Given
pub mod LongFiles
pub mod Once
pub mod Stopped
