-- Elements by their numbers, which rise: views and leases.
use Rattle.std.proofs.Common.{◌≡◌, ◌≢◌, ◌∙◌, ◌==◌, ◌<◌, ◌≤◌, ◌⊎◌, inl, inr, refl, sym, ap, ℕ, zero, suc, Bool, false, cond, List, [], ◌∷◌, length, get_or, map, All, AllPairs, Option, Some, None, Ok, Err, arith}
use Rattle.std.specs.Prelude.{find}
use Rattle.std.specs.Cmp.{nat_cmp_is}
use Rattle.std.specs.List.Sorted.{IsBinarySearchResult, IsNonDecreasingBy, IsPartitionPoint}
use Rattle.std.specs.Ordering.{nat_cmp, ordering_index}
use Rattle.std.specs.declared.cmp.Ordering.{Ordering}
use Rattle.std.specs.declared.cmp.Ordering.TheVariants.{Less, Equal, Greater}
use Rattle.std.proofs.lemmas.Bool.{cases_lt, eq-eqb, eqb-true, false_from_ne_true}
use Rattle.std.proofs.lemmas.List.Elements.{All-head, All-tail}
use Rattle.machine.proofs.Members.{pairs_head, pairs_tail}
use Rattle.store_state.proofs.Indexed.{pairs_of_map}

module _ {X : Type 0} (of : X → ℕ) where
  -- each has a smaller number than the later ones
  abbrev pub Rise : List X → Type 0
  Rise xs = AllPairs (λ (x y : X). of x < of y) xs

  -- the element of that number
  abbrev pub numbered : ℕ → List X → Option X
  numbered number xs = find (λ (x : X). of x == number) xs

  other_number : (x : X) (number : ℕ) → of x ≢ number → (of x == number) ≡ false
  other_number x number other =
      false_from_ne_true (of x == number) (λ e. other (eqb-true (of x) number e))

  -- the element at the place is the one of its number
  found_here : (xs : List X) (number place : ℕ) (d : X) → Rise xs → place < length xs
      → of (get_or xs place d) ≡ number → numbered number xs ≡ Some (get_or xs place d)
  found_here [] number place d rise within is = absurd (omega arith)
  found_here (x ∷ xs) number zero d rise within is =
      ap (λ (b : Bool). cond b (Some x) (numbered number xs)) (eq-eqb (of x) number is)
  found_here (x ∷ xs) number (suc place) d rise within is =
      let less = pairs_head (λ (y z : X). of y < of z) x xs rise place d (omega arith) in
      ap (λ (b : Bool). cond b (Some x) (numbered number xs))
      (other_number x number (λ same. absurd (omega (arith, less, is, same))))
      ∙ found_here xs number place d (pairs_tail (λ (y z : X). of y < of z) x xs rise) (omega arith)
      is

  found_none : (xs : List X) (number : ℕ) → All (λ (x : X). of x ≢ number) xs
      → numbered number xs ≡ None
  found_none [] number others = refl
  found_none (x ∷ xs) number others =
      ap (λ (b : Bool). cond b (Some x) (numbered number xs))
      (other_number x number (All-head (λ (y : X). of y ≢ number) x xs others))
      ∙ found_none xs number (All-tail (λ (y : X). of y ≢ number) x xs others)

-- ---- how numbers compare with one

compared : (m n : ℕ) (o : Ordering) → nat_cmp m n ≡ o → (m < n) × (o ≡ Less) ⊎ (m ≡ n) × (o ≡ Equal)
    ⊎ (n < m) × (o ≡ Greater)
compared m n o e = by (cases_lt m n) (cases_lt n m)
  where
    by : m < n ⊎ n ≤ m → n < m ⊎ m ≤ n → (m < n) × (o ≡ Less) ⊎ (m ≡ n) × (o ≡ Equal) ⊎ (n < m)
        × (o ≡ Greater)
    by (inl below) other = inl (below, sym e ∙ sym (nat_cmp_is m n Less below))
    by (inr over) (inl above) = inr (inr (above, sym e ∙ sym (nat_cmp_is m n Greater above)))
    by (inr over) (inr under) =
        let same : m ≡ n = omega arith in inr (inl (same, sym e ∙ sym (nat_cmp_is m n Equal same)))

index_of : (m n number : ℕ) → m ≤ n
    → ordering_index (nat_cmp m number) ≤ ordering_index (nat_cmp n number)
index_of m n number le =
    by (compared m number (nat_cmp m number) refl) (compared n number (nat_cmp n number) refl)
  where
    by : (m < number) × (nat_cmp m number ≡ Less) ⊎ (m ≡ number) × (nat_cmp m number ≡ Equal)
        ⊎ (number < m) × (nat_cmp m number ≡ Greater)
        → (n < number) × (nat_cmp n number ≡ Less) ⊎ (n ≡ number) × (nat_cmp n number ≡ Equal)
        ⊎ (number < n) × (nat_cmp n number ≡ Greater)
        → ordering_index (nat_cmp m number) ≤ ordering_index (nat_cmp n number)
    by (inl first) other = rw first.1 (omega arith)
    by (inr (inl first)) (inl second) = absurd (omega (arith, first.0, second.0))
    by (inr (inl first)) (inr (inl second)) = rw (first.1, second.1) (omega arith)
    by (inr (inl first)) (inr (inr second)) = rw (first.1, second.1) (omega arith)
    by (inr (inr first)) (inl second) = absurd (omega (arith, first.0, second.0))
    by (inr (inr first)) (inr (inl second)) = absurd (omega (arith, first.0, second.0))
    by (inr (inr first)) (inr (inr second)) = rw (first.1, second.1) (omega arith)

-- ---- a search

module _ {X : Type 0} (of : X → ℕ) (xs : List X) (number : ℕ)
    (rising : AllPairs (λ (m n : ℕ). m < n) (map of xs)) where
  rise : Rise of xs
  rise = pairs_of_map of (λ (m n : ℕ). m < n) xs rising

  climbs : (i j : ℕ) (d : X) → i ≤ j → j < length xs → i < j ⊎ j ≤ i
      → of (get_or xs i d) ≤ of (get_or xs j d)
  climbs i j d le within (inl less) = let below = rise i j d less within in omega arith
  climbs i j d le within (inr same) = let is : i ≡ j = omega arith in rw is (omega arith)

  falls : IsNonDecreasingBy (λ (x : X). ordering_index (nat_cmp (of x) number)) xs
  falls i j d le within =
      index_of (of (get_or xs i d)) (of (get_or xs j d)) number
      (climbs i j d le within (cases_lt i j))

  is_equal : (m : ℕ) (o : Ordering) → nat_cmp m number ≡ o → o ≡ Equal → m ≡ number
  is_equal m o e equal = by (compared m number o e)
    where
      by : (m < number) × (o ≡ Less) ⊎ (m ≡ number) × (o ≡ Equal) ⊎ (number < m) × (o ≡ Greater)
          → m ≡ number
      by (inl other) = absurd (let e = sym other.1 ∙ equal in cc)
      by (inr (inl same)) = same.0
      by (inr (inr other)) = absurd (let e = sym other.1 ∙ equal in cc)

  pub number_at : (place : ℕ) (d : X) → place < length xs
      → IsBinarySearchResult (λ (y : X). nat_cmp (of y) number) xs (Ok place)
      → Some (get_or xs place d) ≡ numbered of number xs
  number_at place d within equal =
      sym (found_here of xs number place d rise within
      (is_equal (of (get_or xs place d)) (nat_cmp (of (get_or xs place d)) number) refl (equal d)))

  pub number_at_place : (place : ℕ) (x : X) → place < length xs
      → IsBinarySearchResult (λ (y : X). nat_cmp (of y) number) xs (Ok place)
      → x ≡ get_or xs place x → Some x ≡ numbered of number xs
  number_at_place place x within equal is = ap Some is ∙ number_at place x within equal

  differs : (m : ℕ) (o : Ordering) → nat_cmp m number ≡ o → o ≢ Equal → m ≢ number
  differs m o e other same = other (sym e ∙ sym (nat_cmp_is m number Equal same))

  gap_other : (gap : ℕ)
      → IsPartitionPoint (λ (x : X). nat_cmp (of x) number ≡ Less)
      (λ (x : X). nat_cmp (of x) number ≡ Greater) xs gap → (k : ℕ) (d : X) → k < length xs
      → k < gap ⊎ gap ≤ k → of (get_or xs k d) ≢ number
  gap_other gap parts k d within (inl before) =
      differs (of (get_or xs k d)) Less (parts.0 k d (omega arith) before) (λ e. cc)
  gap_other gap parts k d within (inr after) =
      differs (of (get_or xs k d)) Greater (parts.1 k d after within) (λ e. cc)

  pub no_number : (gap : ℕ) → IsBinarySearchResult (λ (x : X). nat_cmp (of x) number) xs (Err gap)
      → None ≡ numbered of number xs
  no_number gap parted =
      sym (found_none of xs number (λ k d within. gap_other gap (parted falls) k d within
      (cases_lt k gap)))
