-- Loops that add what comes of the elements that pass a test.
use Rattle.std.proofs.Common.{◌≡◌, ◌∙◌, ◌+◌, ◌<◌, ◌++◌, sym, ap, append_assoc, ℕ, Bool, true, false, cond, List, ◌∷◌, length, get_or, drop}
use Rattle.std.specs.Prelude.{filter}
use Rattle.std.proofs.lemmas.List.{drop_more}

-- F is what comes of a list, one element after another
module _ {X Y : Type 0} (F : List X → List Y) (f : X → List Y)
    (one : (x : X) (xs : List X) → F (x ∷ xs) ≡ f x ++ F xs)
    (p : X → Bool) (xs : List X) (place : ℕ) (x : X) (is : x ≡ get_or xs place x)
    (within : place < length xs) where
  abbrev rest : List X
  rest = filter p (drop (place + 1) xs)

  here : drop place xs ≡ x ∷ drop (place + 1) xs
  here = drop_more xs place x within ∙ ap (λ (y : X). y ∷ drop (place + 1) xs) (sym is)

  split : (b : Bool) → p x ≡ b → F (filter p (drop place xs)) ≡ F (cond b (x ∷ rest) rest)
  split b tested =
      ap (λ (ys : List X). F (filter p ys)) here
      ∙ ap (λ (c : Bool). F (cond c (x ∷ rest) rest)) tested

  -- one that passes is added
  pub taken : (before after all : List Y) → p x ≡ true → after ≡ before ++ f x
      → before ++ F (filter p (drop place xs)) ≡ all
      → after ++ F (filter p (drop (place + 1) xs)) ≡ all
  taken before after all passes more was =
      ap (λ (ys : List Y). ys ++ F rest) more
      ∙ append_assoc before (f x) (F rest)
      ∙ ap (λ (ys : List Y). before ++ ys) (sym (split true passes ∙ one x rest))
      ∙ was

  -- and one that fails is not
  pub passed_over : (before all : List Y) → p x ≡ false
      → before ++ F (filter p (drop place xs)) ≡ all
      → before ++ F (filter p (drop (place + 1) xs)) ≡ all
  passed_over before all fails was =
      ap (λ (ys : List Y). before ++ ys) (sym (split false fails)) ∙ was
