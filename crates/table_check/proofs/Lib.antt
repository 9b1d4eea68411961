pub mod BlockEnds
pub mod EqualLists
pub mod ShownOrder
pub mod ShownViews
