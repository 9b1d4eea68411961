-- Sums that go no further than a number, one element after another.
use Rattle.std.proofs.Common.{◌≡◌, ◌∙◌, ◌+◌, ◌<◌, sym, ap, ℕ, List, ◌∷◌, min, length, get_or, drop, arith}
use Rattle.std.specs.Prelude.{sum_by}
use Rattle.std.proofs.lemmas.List.{drop_more}
use Rattle.std.proofs.lemmas.List.Sums.{sum_by-cons}

pub cut_step : {X : Type 0} (w : X → ℕ) (xs : List X) (i : ℕ) (x : X)
    (total own next all limit : ℕ) → x ≡ get_or xs i x → i < length xs → own ≡ min (w x) limit
    → next ≡ min (total + own) limit → min (total + sum_by w (drop i xs)) limit ≡ all
    → min (next + sum_by w (drop (i + 1) xs)) limit ≡ all
cut_step {X} w xs i x total own next all limit is within weighed added before =
    let first : drop i xs ≡ x ∷ drop (i + 1) xs =
    drop_more xs i x within ∙ ap (λ (y : X). y ∷ drop (i + 1) xs) (sym is) in
    let parts = ap (λ (ys : List X). sum_by w ys) first in
    omega (arith, parts, sum_by-cons w x (drop (i + 1) xs), weighed, added, before)
