mod FileWords
pub mod GoesOn
mod GroupWords
mod HexWords
pub mod InputLemmas
pub mod JoinedTexts
pub mod LongLines
pub mod Outcomes
mod ShowParts
mod UrlWords
mod WordLemmas
pub mod Wrote
