-- What the calls of a basket do.
use Rattle.std.specs.Prelude.{◌≡◌, ◌≤◌, ℕ, Result, Err, OnOk}
use Rattle.outside.specs.Streams.{Rose}
use Rattle.links.specs.declared.basket.BasketFault.{BasketFault}
use Rattle.links.specs.declared.basket.BasketFault.TheVariants.{Failed, Memory}

-- a count of faults never falls; `Failed` comes only where it rose, and all else leaves it
pub record BasketCounts {T : Type 0} (old new : ℕ) (result : Result T BasketFault) : Type 0 where
  pub later : old ≤ new
  pub failed : result ≡ Err Failed → Rose old new
  pub quiet : OnOk result (new ≡ old)
  pub memory : result ≡ Err Memory → new ≡ old

-- calls may have made this of it that handed it at most so many bytes, those from before it was
-- emptied counted too
pub record Turns {B : Type 0} (turns_to : ℕ → B → B → Type 0) (most : ℕ) (old new : B) : Type 0
  where
    pub handed : ℕ
    pub within : handed ≤ most
    pub turns : turns_to handed old new
