pub mod Laws
pub mod MakesDurable
pub mod Pieces
pub mod ReadsAs
pub mod Recovers
pub mod Replay
pub mod Rooms
pub mod Texts
