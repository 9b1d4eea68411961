pub mod KeyLemmas
pub mod PartsLemmas
pub mod PrintedLemmas
pub mod VersionLemmas
