-- Loops over lists, a step further.
use Rattle.std.proofs.Common.{◌≡◌, ◌∙◌, ◌+◌, ◌<◌, ◌++◌, ◌||◌, refl, sym, ap, append_assoc, ℕ, suc, Bool, true, false, List, ◌∷◌, drop, drop-cons, get_or, length, arith}
use Rattle.std.specs.Prelude.{flat_map}
use Rattle.std.specs.List.{list_any}

module _ {X : Type 0} (xs : List X) (i : ℕ) (x : X) (within : i < length xs)
    (is : x ≡ get_or xs i x) where
  left : drop i xs ≡ x ∷ drop (i + 1) xs
  left =
      let next : suc i ≡ i + 1 = omega arith in
      drop-cons xs i x within
      ∙ ap (λ (k : ℕ). get_or xs i x ∷ drop k xs) next
      ∙ ap (λ (y : X). y ∷ drop (i + 1) xs) (sym is)

  pub any_step : (p : X → Bool) (before after whole : Bool) → after ≡ (before || p x)
      → (before || list_any p (drop i xs)) ≡ whole
      → (after || list_any p (drop (i + 1) xs)) ≡ whole
  any_step p before after whole added was =
      ap (λ (b : Bool). b || list_any p (drop (i + 1) xs)) added
      ∙ by before (p x) (list_any p (drop (i + 1) xs))
      ∙ ap (λ (ys : List X). before || list_any p ys) (sym left) ∙ was
    where
      by : (a b c : Bool) → ((a || b) || c) ≡ (a || (b || c))
      by true b c = refl
      by false b c = refl

  pub flat_step : {Z : Type 0} (f : X → List Z) (before after whole : List Z)
      → after ≡ before ++ f x → before ++ flat_map f (drop i xs) ≡ whole
      → after ++ flat_map f (drop (i + 1) xs) ≡ whole
  flat_step {Z} f before after whole added was =
      ap (λ (zs : List Z). zs ++ flat_map f (drop (i + 1) xs)) added
      ∙ append_assoc before (f x) (flat_map f (drop (i + 1) xs))
      ∙ ap (λ (ys : List X). before ++ flat_map f ys) (sym left) ∙ was
