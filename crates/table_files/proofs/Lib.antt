pub mod ChangeItems
pub mod CleanItems
pub mod ContentSearch
pub mod FilteredLoops
pub mod HeldBlocks
pub mod LocalItems
pub mod RowItems
pub mod SameItems
