pub mod Books
pub mod MomentLemmas
pub mod NextAnswer
pub mod NextCall
pub mod OutsideLemmas
pub mod PieceLemmas
