pub mod Counts
pub mod Laws
pub mod Pieces
pub mod States
pub mod WireAsks
