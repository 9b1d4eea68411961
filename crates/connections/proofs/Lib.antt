pub mod AcceptedOf
pub mod Ends
