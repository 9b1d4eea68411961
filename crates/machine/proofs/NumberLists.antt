-- Numbers that rise, with one more behind them and with some left out.
use Rattle.std.proofs.Common.{◌++◌, ◌+◌, ◌<◌, ℕ, Bool, List, [], ◌∷◌, arith}
use Rattle.std.specs.Prelude.{filter}
use Rattle.std.proofs.lemmas.List.Elements.{All-filter, All-push, All-weaker}
use Rattle.std.proofs.lemmas.List.Kept.{AllPairs-filter}
use Rattle.small_types.specs.declared.limits.TheConstants.{NUMBER_LIMIT}
use Rattle.machine.specs.Valid.{AreNumbers}
use Rattle.machine.proofs.Members.{pairs_push}

-- the next one behind them
pub push_numbers : (next : ℕ) (numbers : List ℕ) → AreNumbers next numbers → next < NUMBER_LIMIT
    → AreNumbers (next + 1) (numbers ++ next ∷ [])
push_numbers next numbers are room = record {
  rising = pairs_push (λ (m n : ℕ). m < n) numbers next are.below are.rising;
  below = All-push (λ (n : ℕ). n < next + 1) numbers next
      (All-weaker (λ (n : ℕ). n < next) (λ (n : ℕ). n < next + 1) (λ n less. omega (arith, less))
      numbers are.below)
      (omega arith);
  limit = omega (arith, room);
}

-- those that are kept
pub numbers_among : (keep : ℕ → Bool) (next : ℕ) (numbers : List ℕ) → AreNumbers next numbers
    → AreNumbers next (filter keep numbers)
numbers_among keep next numbers are = record {
  rising = AllPairs-filter (λ (m n : ℕ). m < n) keep numbers are.rising;
  below = All-filter keep (λ (n : ℕ). n < next) numbers are.below;
  limit = are.limit;
}
