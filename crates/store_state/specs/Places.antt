-- Indexes: the places of a list in the order of the keys that stand there.
use Rattle.std.specs.Prelude.{◌≡◌, ℕ, List, Option, Some, None, Contains, length, slice_get}
use Rattle.std.specs.List.{range_with_len}
use Rattle.std.specs.List.Sorted.{IsPermutation, IsSortedByKey}
use Rattle.std.specs.Option.{option_cmp}
use Rattle.std.specs.declared.cmp.Ordering.{Ordering}

-- the places are in the order of the keys there
abbrev pub AreSorted : {K : Type 0} → (K → K → Ordering) → List K → List ℕ → Type 0
AreSorted R keys places = IsSortedByKey (slice_get keys) (option_cmp R) places

-- the index has the place of each key, in the order of the keys
pub record ArePlaces {K : Type 0} (R : K → K → Ordering) (keys : List K) (places : List ℕ)
    : Type 0 where
  pub sorted : AreSorted R keys places
  pub same : IsPermutation (range_with_len 0 (length keys)) places

-- the key stands at the place, or it stands nowhere
abbrev pub IsPlaceOf : {K : Type 0} → List K → K → Option ℕ → Type 0
IsPlaceOf keys key None = ¬ Contains keys key
IsPlaceOf keys key (Some place) = slice_get keys place ≡ Some key
