pub mod Command
pub mod Lines
pub mod Publication
pub mod Words
