-- Sums that go no further than a number.
use Rattle.std.proofs.Common.{◌≡◌, ◌+◌, ◌∙◌, ◌<◌, ◌∷◌, ℕ, List, min, length, get_or, drop, arith, sym, ap}
use Rattle.std.specs.Prelude.{flat_map, sum_by}
use Rattle.std.proofs.lemmas.List.{drop_more}
use Rattle.std.proofs.lemmas.List.Sums.{sum_by-append}

-- two more parts, where the first is cut off
cut_twice : (total part rest all limit : ℕ) → min (total + (part + rest)) limit ≡ all → min (min (total + part) limit + rest) limit ≡ all
cut_twice total part rest all limit is = omega (arith, is)

-- the sum over what one list after another gives
pub cut_more : {X Y : Type 0} (f : Y → ℕ) (g : X → List Y) (xs : List X) (i : ℕ) (x : X) (given : List Y) (total next all limit : ℕ) → given ≡ g x → x ≡ get_or xs i x → i < length xs → next ≡ min (total + sum_by f given) limit → min (total + sum_by f (flat_map g (drop i xs))) limit ≡ all → min (next + sum_by f (flat_map g (drop (i + 1) xs))) limit ≡ all
cut_more f g xs i x given total next all limit gives is within added before =
    let rest = flat_map g (drop (i + 1) xs) in
    let first : drop i xs ≡ x ∷ drop (i + 1) xs = drop_more xs i x within ∙ ap (λ y. y ∷ drop (i + 1) xs) (sym is) in
    let parts : sum_by f (flat_map g (drop i xs)) ≡ sum_by f given + sum_by f rest =
    ap (λ ys. sum_by f (flat_map g ys)) first ∙ sum_by-append f (g x) rest ∙ ap (λ ys. sum_by f ys + sum_by f rest) (sym gives) in
    let joined : min (total + (sum_by f given + sum_by f rest)) limit ≡ all = ap (λ n. min (total + n) limit) (sym parts) ∙ before in
    ap (λ n. min (n + sum_by f rest) limit) added ∙ cut_twice total (sum_by f given) (sum_by f rest) all limit joined
