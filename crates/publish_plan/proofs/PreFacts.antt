-- Names that are not below `.pre`.
use Rattle.std.proofs.Common.{◌≡◌, ℕ, true, false, List, ap}
use Rattle.std.proofs.lemmas.Bool.{both_ways}
use Rattle.small_types.specs.Name.{IsBelowPre}
use Rattle.manifests.specs.Applications.{is_pre, is_below_pre}

pub not_below_pre : (name : List ℕ) → is_below_pre name ≡ false → IsBelowPre name → ⊥
unfolding is_below_pre
not_below_pre name above below = both_ways (is_below_pre name) above (ap is_pre below)
