pub mod BlockContents
pub mod BlockPlaces
pub mod CutLemmas
pub mod DecimalLemmas
pub mod KeptBlocks
pub mod OutcomeLemmas
pub mod PutBytes
pub mod Spelled
