pub mod Applications
pub mod Input
pub mod Lines
pub mod Numbers
pub mod Pieces
pub mod Spans
