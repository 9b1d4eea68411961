-- What the tables of a store keep, as far as jobs are concerned.
use Rattle.std.specs.Prelude.{ℕ, Bool}
use Rattle.machine.specs.Views.{ContentKey}

-- how often each block stands among those of the files that the tables name, how many these are,
-- and which contents the tables have
pub record Kept : Type 0 where
  pub standing : ℕ → ℕ
  pub count : ℕ
  pub has : ContentKey → Bool
