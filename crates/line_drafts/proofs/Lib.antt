pub mod Course
pub mod Ends
pub mod KeptDrafts
pub mod Lines
pub mod Sealed
pub mod Whole
pub mod Works
