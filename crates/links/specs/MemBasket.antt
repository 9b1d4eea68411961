-- What a basket in memory shows, and which of its calls fail.
use Rattle.std.specs.Prelude.{◌≡◌, ◌≢◌, ℕ, ◌+◌, List, [], Bool, false, min, Result, Err, IsTrue}
use Rattle.outside.specs.FailingCalls.{fails_next}
use Rattle.links.specs.declared.basket.BasketFault.{BasketFault}
use Rattle.links.specs.declared.basket.BasketFault.TheVariants.{Failed}
use Rattle.links.specs.declared.mem_basket.MemBasket.{MemBasket}

-- what it has taken
abbrev pub basket_taken : MemBasket → List ℕ
basket_taken b = b.taken

abbrev pub basket_faults : MemBasket → ℕ
basket_faults b = b.failing.faults

-- how many calls of `take` there were
abbrev pub basket_calls : MemBasket → ℕ
basket_calls b = b.failing.calls

-- the numbers of the calls that are to fail
abbrev pub basket_failing : MemBasket → List ℕ
basket_failing b = b.failing.numbers

-- whether the next call is one of them
abbrev pub basket_fails : MemBasket → Bool
basket_fails b = fails_next b.failing

-- A call is counted. It answers `Failed` exactly where its number is in the list, and the count of
-- faults rises by one there, and else not.
pub record CountsTake {T : Type 0} (old new : MemBasket) (result : Result T BasketFault)
    : Type 0 where
  pub fails : IsTrue (basket_fails old) → result ≡ Err Failed
  pub works : basket_fails old ≡ false → result ≢ Err Failed
  pub calls : basket_calls new ≡ min (basket_calls old + 1) 0xffff_ffff_ffff_ffff
  pub failing : basket_failing new ≡ basket_failing old
  pub quiet : basket_fails old ≡ false → basket_faults new ≡ basket_faults old
  pub raised : IsTrue (basket_fails old)
      → basket_faults new ≡ min (basket_faults old + 1) 0xffff_ffff_ffff_ffff
  pub never : basket_failing old ≡ [] → basket_faults new ≡ basket_faults old
