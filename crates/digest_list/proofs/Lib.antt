pub mod DifferenceLemmas
pub mod HasherLemmas
pub mod MatchLemmas
pub mod TextLemmas
