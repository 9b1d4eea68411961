-- Elements whose numbers rise, once that of one number is changed.
use Rattle.std.proofs.Common.{◌≡◌, ◌≢◌, ◌∙◌, ◌<◌, refl, sym, ap, subst, ℕ, zero, suc, Bool, true, false, cond, List, [], ◌∷◌, length, get_or, set, map, All, AllPairs, Option, Some, eqb, eq-eqb, eqb-true, ne_eqb, inl, inr, arith}
use Rattle.std.specs.Prelude.{find, sum_by}
use Rattle.std.proofs.lemmas.Bool.{both_ways, cond-false, cond-true}
use Rattle.std.proofs.lemmas.List.Elements.{All-head, All-tail, All-weaker}
use Rattle.std.proofs.lemmas.List.Sums.{sum_by-cons}
use Rattle.std.proofs.lemmas.Option.{same_Some}
use Rattle.machine.proofs.Members.{In, all_in, in_all, map_in, pairs_head, pairs_tail}

module _ {X : Type 0} (of : X → ℕ) where
  -- each has a smaller number than the later ones
  abbrev pub Rise : List X → Type 0
  Rise xs = AllPairs (λ (x y : X). of x < of y) xs

  -- the element of that number
  abbrev pub numbered : ℕ → List X → Option X
  numbered number xs = find (λ (x : X). eqb (of x) number) xs

module _ {X : Type 0} (of : X → ℕ) (number : ℕ) (f : X → X) where
  -- the element of the number is what f makes of it
  abbrev pub change : X → X
  change x = cond (eqb (of x) number) (f x) x

  abbrev pub changed : List X → List X
  changed xs = map change xs

  is_changed : (x : X) → of x ≡ number → change x ≡ f x
  is_changed x is = cond-true (eqb (of x) number) (f x) x (eq-eqb (of x) number is)

  is_left : (x : X) → of x ≢ number → change x ≡ x
  is_left x other = cond-false (eqb (of x) number) (f x) x (ne_eqb (of x) number other)

  unchanged : (xs : List X) → All (λ (x : X). of x ≢ number) xs → changed xs ≡ xs
  unchanged [] others = refl
  unchanged (x ∷ xs) others =
      ap (λ (y : X). y ∷ changed xs)
      (is_left x (All-head (λ (y : X). of y ≢ number) x xs others))
      ∙ ap (λ (ys : List X). x ∷ ys)
      (unchanged xs (All-tail (λ (y : X). of y ≢ number) x xs others))

  -- those behind it have greater numbers
  others_behind : (x : X) (xs : List X) → Rise of (x ∷ xs) → of x ≡ number
      → All (λ (y : X). of y ≢ number) xs
  others_behind x xs rise here =
      All-weaker (λ (y : X). of x < of y) (λ (y : X). of y ≢ number)
      (λ y less same. omega (arith, less, here, same)) xs
      (pairs_head (λ (a b : X). of a < of b) x xs rise)

  -- ---- by places

  pub changed_place : (xs : List X) (place : ℕ) (d : X) → Rise of xs → place < length xs
      → of (get_or xs place d) ≡ number → set xs place (f (get_or xs place d)) ≡ changed xs
  changed_place [] place d rise within is = absurd (omega arith)
  changed_place (x ∷ xs) zero d rise within is =
      sym (ap (λ (y : X). y ∷ changed xs) (is_changed x is)
      ∙ ap (λ (ys : List X). f x ∷ ys) (unchanged xs (others_behind x xs rise is)))
  changed_place (x ∷ xs) (suc place) d rise within is =
      let less = pairs_head (λ (y z : X). of y < of z) x xs rise place d (omega arith) in
      ap (λ (ys : List X). x ∷ ys)
      (changed_place xs place d (pairs_tail (λ (y z : X). of y < of z) x xs rise) (omega arith) is)
      ∙ sym (ap (λ (y : X). y ∷ changed xs)
      (is_left x (λ same. omega (arith, less, is, same))))

  -- ---- what all elements have

  module _ {Y : Type 0} (g : X → Y) (keeps : (x : X) → g (f x) ≡ g x) where
    keeps_at : (b : Bool) (x : X) → g (cond b (f x) x) ≡ g x
    keeps_at true x = keeps x
    keeps_at false x = refl

    pub map_kept : (xs : List X) → map g (changed xs) ≡ map g xs
    map_kept [] = refl
    map_kept (x ∷ xs) =
        ap (λ (y : Y). y ∷ map g (changed xs)) (keeps_at (eqb (of x) number) x)
        ∙ ap (λ (ys : List Y). g x ∷ ys) (map_kept xs)

  module _ (g : X → ℕ) (keeps : (x : X) → g (f x) ≡ g x) where
    pub sum_kept : (xs : List X) → sum_by g (changed xs) ≡ sum_by g xs
    sum_kept [] = refl
    sum_kept (x ∷ xs) =
        omega (
          arith,
          sum_by-cons g (change x) (changed xs),
          sum_by-cons g x xs,
          keeps_at g keeps (eqb (of x) number) x,
          sum_kept xs,
        )

  -- there is one element of the number
  pub one_of : (xs : List X) (x : X) → Rise of xs → In x xs → of x ≡ number
      → numbered of number xs ≡ Some x
  one_of [] x rise there is = absurd there
  one_of (y ∷ ys) x rise (inl same) is =
      cond-true (eqb (of y) number) (Some y) (numbered of number ys)
      (eq-eqb (of y) number (ap of same ∙ is))
      ∙ ap Some same
  one_of (y ∷ ys) x rise (inr there) is =
      let less = all_in (λ (z : X). of y < of z) ys x
      (pairs_head (λ (a b : X). of a < of b) y ys rise) there in
      cond-false (eqb (of y) number) (Some y) (numbered of number ys)
      (ne_eqb (of y) number (λ same. omega (arith, less, is, same)))
      ∙ one_of ys x (pairs_tail (λ (a b : X). of a < of b) y ys rise) there is

  -- which of two an element became
  pub became : (P : X → Type 0) (x : X)
      → (of x ≡ number → P (f x)) → (of x ≢ number → P x) → P (change x)
  became P x here other = by (eqb (of x) number) refl
    where
      by : (b : Bool) → eqb (of x) number ≡ b → P (cond b (f x) x)
      by true e = here (eqb-true (of x) number e)
      by false e = other (λ same. both_ways (eqb (of x) number) e (eq-eqb (of x) number same))

  -- what holds of the element of the number once it is changed, and of every other one
  module _ (xs : List X) (x : X) (rise : Rise of xs) (is : numbered of number xs ≡ Some x) where
    pub one_is : (y : X) → In y xs → of y ≡ number → y ≡ x
    one_is y there same = same_Some y x (sym (one_of xs y rise there same) ∙ is)

    pub each_changed : (P : X → Type 0) → P (f x)
        → ((y : X) → In y xs → of y ≢ number → P y) → All P (changed xs)
    each_changed P here others =
        in_all P (changed xs) (λ made there.
        let from = map_in change xs made there in
        subst P from.2 (became P from.0
        (λ same. subst (λ (y : X). P (f y)) (sym (one_is from.0 from.1 same)) here)
        (λ other. others from.0 from.1 other)))
