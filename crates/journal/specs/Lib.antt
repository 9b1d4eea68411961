pub mod Format
pub mod Found
pub mod Laws
pub mod Layout
pub mod Log
pub mod Steps
