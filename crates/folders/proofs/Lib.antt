pub mod HonestAnswers
pub mod NameLists
pub mod NameOrder
pub mod PutFiles
pub mod SortedNames
