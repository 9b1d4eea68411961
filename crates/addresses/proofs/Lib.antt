pub mod AddressLemmas
pub mod BaseLemmas
pub mod NameLemmas
pub mod ReferenceLemmas
