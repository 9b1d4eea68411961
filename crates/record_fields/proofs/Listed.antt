-- Items that are written one behind another.
use Rattle.std.proofs.Common.{◌≡◌, ℕ, zero, suc, ◌+◌, ◌<◌, ◌≤◌, List, [], ◌∷◌, ◌++◌, length, get_or, drop, flat_map, refl, sym, ap, ◌∙◌, arith}
use Rattle.std.proofs.lemmas.List.{drop_all, length-append}
use Rattle.record_fields.specs.Places.{WritesField}
use Rattle.record_fields.proofs.Written.{then, nothing, length-Writes}

cons_left : {A : Type 0} (xs : List A) (i : ℕ) (x : A) → i < length xs
    → drop i xs ≡ get_or xs i x ∷ drop (suc i) xs
cons_left [] i x within = absurd (omega arith)
cons_left (y ∷ xs) zero x within = refl
cons_left (y ∷ xs) (suc i) x within = cons_left xs i x (omega arith)

-- what the items from a place on are written as
abbrev pub left : {A : Type 0} → (A → List ℕ) → List A → ℕ → List ℕ
left f xs i = flat_map f (drop i xs)

-- what is left begins with the item at the place
module _ {A : Type 0} (f : A → List ℕ) (xs : List A) (i : ℕ) (x : A)
    (within : i < length xs) (is : x ≡ get_or xs i x) where
  pub left-parts : left f xs i ≡ f x ++ left f xs (i + 1)
  left-parts =
      let next : suc i ≡ i + 1 = omega arith in
      ap (flat_map f) (cons_left xs i x within)
      ∙ ap (λ y. f y ++ left f xs (suc i)) (sym is)
      ∙ ap (λ (n : ℕ). f x ++ left f xs n) next

  pub length-left : length (left f xs i) ≡ length (f x) + length (left f xs (i + 1))
  length-left = ap (length {A = ℕ}) left-parts ∙ length-append (f x) (left f xs (i + 1))

  module _ {out new : List ℕ} {place next : ℕ} (wrote : WritesField out place (f x) new next) where
    pub room_after : place + length (left f xs i) ≤ length out
        → next + length (left f xs (i + 1)) ≤ length new
    room_after room =
        let behind = wrote.behind in
        let long = length-Writes wrote in
        let parts = length-left in
        omega arith

    pub rest_after : {last : ℕ} {after : List ℕ} → WritesField new next (left f xs (i + 1)) after last
        → WritesField out place (left f xs i) after last
    rest_after rest = rw left-parts (then wrote rest)

-- nothing is left behind the last item
pub none_after : {A : Type 0} (f : A → List ℕ) (xs : List A) (i place : ℕ) (out : List ℕ)
    → length xs ≤ i → place + length (left f xs i) ≤ length out
    → WritesField out place (left f xs i) out place
none_after f xs i place out past room =
    let none : left f xs i ≡ [] = ap (flat_map f) (drop_all i xs past) in
    rw none (nothing out place (omega arith))
