pub mod NamedViews
pub mod Searches
