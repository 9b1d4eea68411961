-- Elements of a list, case by case, and sums over lists whose elements differ.
use Rattle.std.proofs.Common.{◌≡◌, ◌≢◌, ◌∙◌, ◌⊎◌, inl, inr, refl, sym, ap, subst, ◌<◌, ◌≤◌, ◌+◌, ◌++◌, ℕ, zero, suc, Bool, true, false, cond, List, [], ◌∷◌, length, map, All, AllPairs, Contains, arith}
use Rattle.std.specs.Prelude.{Any, filter, flat_map, slice_index_or, sum_by}
use Rattle.std.proofs.lemmas.List.Elements.{All-cons, All-head, All-nil, All-push, All-tail, Contains-append_left, Contains-push}
use Rattle.std.proofs.lemmas.List.Kept.{AllPairs-cons}
use Rattle.std.proofs.lemmas.List.Sums.{sum_by-cons}

-- x is one of them
abbrev pub In : {X : Type 0} → X → List X → Type 0
In x [] = ⊥
In x (y ∷ ys) = (y ≡ x) ⊎ In x ys

-- no two are equal
abbrev pub Differ : {X : Type 0} → List X → Type 0
Differ xs = AllPairs (λ x y. x ≢ y) xs

module _ {X : Type 0} where
  -- ---- by places

  pub in_contains : (xs : List X) (x : X) → Contains xs x → In x xs
  in_contains [] x there = absurd (let lt = there.1 in omega arith)
  in_contains (y ∷ ys) x there = at there.0 there.1 there.2 (in_contains ys x)
    where
      at : (k : ℕ) → k < length (y ∷ ys) → slice_index_or (y ∷ ys) k x ≡ x → (Contains ys x → In x ys) → In x (y ∷ ys)
      at zero lt is rest = inl is
      at (suc k) lt is rest = inr (rest (k, omega arith, is))

  pub contains_in : (xs : List X) (x : X) → In x xs → Contains xs x
  contains_in [] x there = absurd there
  contains_in (y ∷ ys) x (inl is) = (0, omega arith, is)
  contains_in (y ∷ ys) x (inr there) = let rest = contains_in ys x there in (suc rest.0, (let lt = rest.1 in omega arith), rest.2)

  pub all_in : (P : X → Type 0) (xs : List X) (x : X) → All P xs → In x xs → P x
  all_in P [] x all there = absurd there
  all_in P (y ∷ ys) x all (inl is) = subst P is (All-head P y ys all)
  all_in P (y ∷ ys) x all (inr there) = all_in P ys x (All-tail P y ys all) there

  pub in_all : (P : X → Type 0) (xs : List X) → ((x : X) → In x xs → P x) → All P xs
  in_all P [] each = All-nil P
  in_all P (y ∷ ys) each = All-cons P y ys (each y (inl refl)) (in_all P ys (λ x there. each x (inr there)))

  pub pairs_tail : (R : X → X → Type 0) (x : X) (xs : List X) → AllPairs R (x ∷ xs) → AllPairs R xs
  pairs_tail R x xs pairs = λ i j d lt within. pairs (suc i) (suc j) d (omega arith) (omega arith)

  pub pairs_head : (R : X → X → Type 0) (x : X) (xs : List X) → AllPairs R (x ∷ xs) → All (R x) xs
  pairs_head R x xs pairs = λ k d within. pairs 0 (suc k) d (omega arith) (omega arith)

  pub pairs_weaker : (R Q : X → X → Type 0) (xs : List X) → ((x y : X) → R x y → Q x y) → AllPairs R xs → AllPairs Q xs
  pairs_weaker R Q xs weaker pairs = λ i j d lt within. weaker _ _ (pairs i j d lt within)

  -- ---- of joined and filtered lists

  pub in_left : (xs ys : List X) (x : X) → In x xs → In x (xs ++ ys)
  in_left [] ys x there = absurd there
  in_left (z ∷ xs) ys x (inl is) = inl is
  in_left (z ∷ xs) ys x (inr there) = inr (in_left xs ys x there)

  pub in_right : (xs ys : List X) (x : X) → In x ys → In x (xs ++ ys)
  in_right [] ys x there = there
  in_right (z ∷ xs) ys x there = inr (in_right xs ys x there)

  pub in_either : (xs ys : List X) (x : X) → In x (xs ++ ys) → In x xs ⊎ In x ys
  in_either [] ys x there = inr there
  in_either (z ∷ xs) ys x (inl is) = inl (inl is)
  in_either (z ∷ xs) ys x (inr there) = onto (in_either xs ys x there)
    where
      onto : In x xs ⊎ In x ys → In x (z ∷ xs) ⊎ In x ys
      onto (inl left) = inl (inr left)
      onto (inr right) = inr right

  in_kept : (b : Bool) (y x : X) (kept : List X) → (y ≡ x) × (b ≡ true) ⊎ In x kept → In x (cond b (y ∷ kept) kept)
  in_kept true y x kept (inl is) = inl is.0
  in_kept true y x kept (inr there) = inr there
  in_kept false y x kept (inl is) = absurd (let e = is.1 in cc)
  in_kept false y x kept (inr there) = there

  pub in_filter : (p : X → Bool) (xs : List X) (x : X) → p x ≡ true → In x xs → In x (filter p xs)
  in_filter p [] x passes there = absurd there
  in_filter p (y ∷ ys) x passes (inl is) = in_kept (p y) y x (filter p ys) (inl (is, ap p is ∙ passes))
  in_filter p (y ∷ ys) x passes (inr there) = in_kept (p y) y x (filter p ys) (inr (in_filter p ys x passes there))

  kept_in : (b : Bool) (y x : X) (kept : List X) → In x (cond b (y ∷ kept) kept) → (y ≡ x) × (b ≡ true) ⊎ In x kept
  kept_in true y x kept (inl is) = inl (is, refl)
  kept_in true y x kept (inr there) = inr there
  kept_in false y x kept there = inr there

  pub filter_in : (p : X → Bool) (xs : List X) (x : X) → In x (filter p xs) → (p x ≡ true) × In x xs
  filter_in p [] x there = absurd there
  filter_in p (y ∷ ys) x there = by (kept_in (p y) y x (filter p ys) there) (filter_in p ys x)
    where
      by : (y ≡ x) × (p y ≡ true) ⊎ In x (filter p ys) → (In x (filter p ys) → (p x ≡ true) × In x ys) → (p x ≡ true) × In x (y ∷ ys)
      by (inl is) behind = (sym (ap p is.0) ∙ is.1, inl is.0)
      by (inr later) behind = let rest = behind later in (rest.0, inr rest.1)

  -- ---- sums

  without : (xs : List X) (x : X) → In x xs → List X
  without [] x there = []
  without (y ∷ ys) x (inl is) = ys
  without (y ∷ ys) x (inr there) = y ∷ without ys x there

  in_without : (xs : List X) (x z : X) (there : In x xs) → x ≢ z → In z xs → In z (without xs x there)
  unfolding without
  in_without [] x z there other found = absurd there
  in_without (y ∷ ys) x z (inl is) other (inl same) = absurd (other (sym is ∙ same))
  in_without (y ∷ ys) x z (inl is) other (inr found) = found
  in_without (y ∷ ys) x z (inr there) other (inl same) = inl same
  in_without (y ∷ ys) x z (inr there) other (inr found) = inr (in_without ys x z there other found)

  module _ (f : X → ℕ) where
    sum_without : (xs : List X) (x : X) (there : In x xs) → sum_by f xs ≡ f x + sum_by f (without xs x there)
    unfolding without
    sum_without [] x there = absurd there
    sum_without (y ∷ ys) x (inl is) = sum_by-cons f y ys ∙ ap (λ (z : X). f z + sum_by f ys) is
    sum_without (y ∷ ys) x (inr there) =
        let rest = sum_without ys x there in
        omega (arith, sum_by-cons f y ys, sum_by-cons f y (without ys x there), rest)

    -- elements of a list that differ have at most its sum
    pub sum_within : (xs ys : List X) → Differ xs → ((x : X) → In x xs → In x ys) → sum_by f xs ≤ sum_by f ys
    sum_within [] ys differ within = omega arith
    sum_within (x ∷ xs) ys differ within =
        let there = within x (inl refl) in
        let apart = pairs_head (λ (a b : X). a ≢ b) x xs differ in
        let rest = sum_within xs (without ys x there) (pairs_tail (λ (a b : X). a ≢ b) x xs differ)
        (λ z found. in_without ys x z there (all_in (λ (b : X). x ≢ b) xs z apart found) (within z (inr found))) in
        omega (arith, sum_by-cons f x xs, sum_without ys x there, rest)

module _ {X Y : Type 0} (f : X → Y) where
  pub in_map : (xs : List X) (x : X) → In x xs → In (f x) (map f xs)
  in_map [] x there = absurd there
  in_map (y ∷ ys) x (inl is) = inl (ap f is)
  in_map (y ∷ ys) x (inr there) = inr (in_map ys x there)

  pub map_in : (xs : List X) (y : Y) → In y (map f xs) → (x : X) × In x xs × (f x ≡ y)
  map_in [] y there = absurd there
  map_in (x ∷ xs) y (inl is) = (x, inl refl, is)
  map_in (x ∷ xs) y (inr there) = let rest = map_in xs y there in (rest.0, inr rest.1, rest.2)

  pub sum_map : (g : Y → ℕ) (xs : List X) → sum_by g (map f xs) ≡ sum_by (λ (x : X). g (f x)) xs
  sum_map g [] = refl
  sum_map g (x ∷ xs) = omega (arith, sum_by-cons g (f x) (map f xs), sum_by-cons (λ (x : X). g (f x)) x xs, sum_map g xs)

  -- what f makes of elements differs where a relation says so
  pub pairs_map : (R : X → X → Type 0) (Q : Y → Y → Type 0) (xs : List X) → ((x y : X) → R x y → Q (f x) (f y)) → AllPairs R xs → AllPairs Q (map f xs)
  pairs_map R Q [] each pairs = λ i j d lt within. absurd (omega arith)
  pairs_map R Q (x ∷ xs) each pairs = joined (λ y there. (let from = map_in xs y there in subst (Q (f x)) from.2 (each x from.0 (all_in (R x) xs from.0 (pairs_head R x xs pairs) from.1)))) (pairs_map R Q xs each (pairs_tail R x xs pairs))
    where
      joined : ((y : Y) → In y (map f xs) → Q (f x) y) → AllPairs Q (map f xs) → AllPairs Q (f x ∷ map f xs)
      joined first rest zero zero d lt within = absurd (omega arith)
      joined first rest zero (suc j) d lt within = in_all (Q (f x)) (map f xs) first j d (omega arith)
      joined first rest (suc i) zero d lt within = absurd (omega arith)
      joined first rest (suc i) (suc j) d lt within = rest i j d (omega arith) (omega arith)

module _ {X Z : Type 0} (g : X → List Z) where
  pub in_flat_map : (xs : List X) (x : X) (z : Z) → In x xs → In z (g x) → In z (flat_map g xs)
  in_flat_map [] x z there of = absurd there
  in_flat_map (y ∷ ys) x z (inl is) of = in_left (g y) (flat_map g ys) z (subst (λ (a : X). In z (g a)) (sym is) of)
  in_flat_map (y ∷ ys) x z (inr there) of = in_right (g y) (flat_map g ys) z (in_flat_map ys x z there of)

-- sums and filters that agree on each element
pub sum_agree : {X : Type 0} (f g : X → ℕ) (xs : List X) → All (λ x. f x ≡ g x) xs → sum_by f xs ≡ sum_by g xs
sum_agree f g [] all = refl
sum_agree f g (x ∷ xs) all = omega (arith, sum_by-cons f x xs, sum_by-cons g x xs, All-head (λ x. f x ≡ g x) x xs all, sum_agree f g xs (All-tail (λ x. f x ≡ g x) x xs all))

pub kept_map : {X Y : Type 0} (f : X → Y) (b : Bool) (x : X) (xs : List X) → cond b (f x ∷ map f xs) (map f xs) ≡ map f (cond b (x ∷ xs) xs)
kept_map f true x xs = refl
kept_map f false x xs = refl

pub filter_map_is : {X Y : Type 0} (f : X → Y) (p : Y → Bool) (xs : List X) → filter p (map f xs) ≡ map f (filter (λ (x : X). p (f x)) xs)
filter_map_is f p [] = refl
filter_map_is f p (x ∷ xs) =
    ap (λ (ys : List _). cond (p (f x)) (f x ∷ ys) ys) (filter_map_is f p xs)
    ∙ kept_map f (p (f x)) x (filter (λ x. p (f x)) xs)

-- ---- one more element

pub any_left : {X : Type 0} (P : X → Type 0) (xs ys : List X) → Any P xs → Any P (xs ++ ys)
any_left P xs ys found = let there = Contains-append_left xs ys found.1 (found.0, found.2, found.3) in (there.0, found.1, there.1, there.2, found.4)

pub any_last : {X : Type 0} (P : X → Type 0) (xs : List X) (x : X) → P x → Any P (xs ++ x ∷ [])
any_last P xs x holds = let there = Contains-push xs x in (there.0, x, there.1, there.2, holds)

pub pairs_push : {X : Type 0} (R : X → X → Type 0) (xs : List X) (y : X) → All (λ x. R x y) xs → AllPairs R xs → AllPairs R (xs ++ y ∷ [])
pairs_push R [] y below pairs = λ i j d lt within. absurd (omega arith)
pairs_push R (x ∷ xs) y below pairs =
    AllPairs-cons R x (xs ++ y ∷ []) (All-push (R x) xs y (pairs_head R x xs pairs) (All-head (λ z. R z y) x xs below))
    (pairs_push R xs y (All-tail (λ z. R z y) x xs below) (pairs_tail R x xs pairs))
