-- The first element that passes a test, where no two elements pass.
use Rattle.std.proofs.Common.{◌≡◌, ◌∙◌, inl, inr, refl, ap, subst, ℕ, zero, suc, Bool, true, false, cond, List, [], ◌∷◌, map, All, AllPairs, Contains, Some, None}
use Rattle.std.specs.Prelude.{filter, find, slice_get}
use Rattle.std.proofs.lemmas.Bool.{false_from_ne_true}
use Rattle.std.proofs.lemmas.List.Elements.{All-head, All-tail}
use Rattle.std.proofs.lemmas.Option.{same_Some}
use Rattle.machine.proofs.Members.{In, all_in, contains_in, in_all, in_map, pairs_head, pairs_tail}

module _ {X : Type 0} where
  -- an element at a place is one of them
  pub in_place : (xs : List X) (k : ℕ) (x : X) → slice_get xs k ≡ Some x → In x xs
  in_place [] k x there = absurd cc
  in_place (y ∷ ys) zero x there = inl (same_Some y x there)
  in_place (y ∷ ys) (suc k) x there = inr (in_place ys k x there)

module _ {X : Type 0} (p : X → Bool) where
  -- no two elements pass
  abbrev pub PassesOnce : List X → Type 0
  PassesOnce xs = AllPairs (λ (a b : X). p a ≡ true → p b ≡ true → ⊥) xs

  pub others_fail : (x : X) (xs : List X) → PassesOnce (x ∷ xs) → p x ≡ true
      → All (λ (y : X). p y ≡ false) xs
  others_fail x xs once passes =
      in_all (λ (y : X). p y ≡ false) xs
      (λ y there. false_from_ne_true (p y) (all_in (λ (b : X). p x ≡ true → p b ≡ true → ⊥) xs y
      (pairs_head (λ (a b : X). p a ≡ true → p b ≡ true → ⊥) x xs once) there passes))

  pub first_fails : (x : X) (xs : List X) (k : ℕ) (y : X) → PassesOnce (x ∷ xs)
      → slice_get xs k ≡ Some y → p y ≡ true → p x ≡ false
  first_fails x xs k y once there passes =
      false_from_ne_true (p x) (λ e. all_in (λ (b : X). p x ≡ true → p b ≡ true → ⊥) xs y
      (pairs_head (λ (a b : X). p a ≡ true → p b ≡ true → ⊥) x xs once) (in_place xs k y there) e
      passes)

  -- the one that passes is found
  pub find_place : (xs : List X) (k : ℕ) (x : X) → PassesOnce xs → slice_get xs k ≡ Some x
      → p x ≡ true → find p xs ≡ Some x
  find_place [] k x once there passes = absurd cc
  find_place (y ∷ ys) zero x once there passes =
      let is = same_Some y x there in ap (λ (b : Bool). cond b (Some y) (find p ys))
      (ap p is ∙ passes) ∙ ap Some is
  find_place (y ∷ ys) (suc k) x once there passes =
      ap (λ (b : Bool). cond b (Some y) (find p ys)) (first_fails y ys k x once there passes)
      ∙ find_place ys k x (pairs_tail (λ (a b : X). p a ≡ true → p b ≡ true → ⊥) y ys once) there
      passes

  -- ---- among those that pass another test

  module _ (q : X → Bool) where
    kept_none : (b : Bool) (x : X) (kept : List X) → p x ≡ false
        → find p (cond b (x ∷ kept) kept) ≡ find p kept
    kept_none true x kept fails = ap (λ (c : Bool). cond c (Some x) (find p kept)) fails
    kept_none false x kept fails = refl

    kept_first : (b : Bool) (x : X) (kept : List X) → p x ≡ true → find p kept ≡ None
        → find p (cond b (x ∷ kept) kept) ≡ cond b (Some x) None
    kept_first true x kept passes none = ap (λ (c : Bool). cond c (Some x) (find p kept)) passes
    kept_first false x kept passes none = none

    pub find_none_kept : (xs : List X) → All (λ (x : X). p x ≡ false) xs
        → find p (filter q xs) ≡ None
    find_none_kept [] fail = refl
    find_none_kept (x ∷ xs) fail =
        kept_none (q x) x (filter q xs) (All-head (λ (y : X). p y ≡ false) x xs fail)
        ∙ find_none_kept xs (All-tail (λ (y : X). p y ≡ false) x xs fail)

    pub find_place_kept : (xs : List X) (k : ℕ) (x : X) → PassesOnce xs → slice_get xs k ≡ Some x
        → p x ≡ true → find p (filter q xs) ≡ cond (q x) (Some x) None
    find_place_kept [] k x once there passes = absurd cc
    find_place_kept (y ∷ ys) zero x once there passes =
        let is = same_Some y x there in
        let passed : p y ≡ true = ap p is ∙ passes in
        kept_first (q y) y (filter q ys) passed (find_none_kept ys (others_fail y ys once passed))
        ∙ ap (λ (z : X). cond (q z) (Some z) None) is
    find_place_kept (y ∷ ys) (suc k) x once there passes =
        kept_none (q y) y (filter q ys) (first_fails y ys k x once there passes)
        ∙ find_place_kept ys k x (pairs_tail (λ (a b : X). p a ≡ true → p b ≡ true → ⊥) y ys once)
        there passes

-- where a key is that of no element, no element passes the test for it
pub none_pass : {X K : Type 0} (f : X → K) (key : K) (p : X → Bool)
    → ((x : X) → p x ≡ true → f x ≡ key) → (xs : List X) → ¬ Contains (map f xs) key
    → All (λ (x : X). p x ≡ false) xs
none_pass f key p means xs nowhere =
    in_all (λ x. p x ≡ false) xs
    (λ x there. false_from_ne_true (p x)
    (λ passes. nowhere (contains_in (map f xs) key (by x there (means x passes)))))
  where
    by : (x : _) → In x xs → f x ≡ key → In key (map f xs)
    by x there is = subst (λ k. In k (map f xs)) is (in_map f xs x there)
