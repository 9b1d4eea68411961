-- An index to which places are added, each where it goes.
use Rattle.std.proofs.Common.{◌≡◌, ◌∙◌, ◌⊎◌, ◌+◌, ◌-◌, ◌<◌, ◌≤◌, ◌++◌, inl, inr, refl, sym, ap, subst, ℕ, zero, suc, false, List, [], ◌∷◌, length, get_or, All, Ok, Err, arith}
use Rattle.std.specs.Prelude.{slice_get}
use Rattle.std.specs.Cmp.{IsTotalOrder}
use Rattle.std.specs.Cmp.Lexicographic.{options_total}
use Rattle.std.specs.List.{insert, range_with_len}
use Rattle.std.specs.List.Sorted.{IsBinarySearchResult, IsNonDecreasingBy}
use Rattle.std.specs.Option.{option_cmp}
use Rattle.std.specs.Ordering.{is_lt, ordering_index, ordering_reverse}
use Rattle.std.specs.declared.cmp.Ordering.{Ordering}
use Rattle.std.specs.declared.cmp.Ordering.TheVariants.{Less, Equal}
use Rattle.std.proofs.lemmas.Bool.{cases_lt}
use Rattle.std.proofs.lemmas.List.Edits.{get_or-insert_above, get_or-insert_at, get_or-insert_below, length-insert}
use Rattle.std.proofs.lemmas.List.FromFn.{get_or-range_with_len, length-range_with_len}
use Rattle.std.proofs.lemmas.List.Sorted.{All-permutation, searchable_from_sorted}
use Rattle.store_state.specs.Places.{ArePlaces, AreSorted}

-- ---- one place more

module _ {K : Type 0} (R : K → K → Ordering) (total : IsTotalOrder R) (keys : List K)
    (index : List ℕ) (sorted : AreSorted R keys index) (place : ℕ) where
  -- how the keys at two places compare
  abbrev at_places : ℕ → ℕ → Ordering
  at_places a b = option_cmp R (slice_get keys a) (slice_get keys b)

  turned : (a b : ℕ) (o : Ordering) → at_places a b ≡ o → at_places b a ≡ ordering_reverse o
  turned a b o e =
      (options_total total).antisymm (slice_get keys b) (slice_get keys a) ∙ ap ordering_reverse e

  -- as two places compare, so do those that they are
  moved : (a b x y : ℕ) → a ≡ x → b ≡ y → is_lt (at_places x y) ≡ false
      → is_lt (at_places a b) ≡ false
  moved a b x y first second not_below = rw (first, second) not_below

  -- the key before the slot is not above the new one, and the key at the slot is not below it
  module _ (slot : ℕ) (within : slot ≤ length index)
      (before : (k d : ℕ) → k + 1 ≡ slot → is_lt (at_places place (get_or index k d)) ≡ false)
      (after : (d : ℕ) → slot < length index
      → is_lt (at_places (get_or index slot d) place) ≡ false) where
    below : (k d : ℕ) → k < slot → get_or (insert index slot place) k d ≡ get_or index k d
    below k d less = get_or-insert_below index slot place d k less within

    at : (k d : ℕ) → k ≡ slot → get_or (insert index slot place) k d ≡ place
    at k d same =
        ap (λ (n : ℕ). get_or (insert index slot place) n d) same
        ∙ get_or-insert_at index slot place d within

    above : (k d : ℕ) → slot ≤ k → get_or (insert index slot place) (k + 1) d ≡ get_or index k d
    above k d more = get_or-insert_above index slot place d k more within

    early : (k d : ℕ) → k + 1 < slot ⊎ slot ≤ k + 1 → k < slot
        → is_lt (at_places (get_or (insert index slot place) (k + 1) d)
        (get_or (insert index slot place) k d)) ≡ false
    early k d (inl less) first =
        moved _ _ (get_or index (k + 1) d) (get_or index k d) (below (k + 1) d less)
        (below k d first) (sorted k d (omega arith) (omega arith))
    early k d (inr more) first =
        moved _ _ place (get_or index k d) (at (k + 1) d (omega arith)) (below k d first)
        (before k d (omega arith))

    further : (j k d : ℕ) → j + 1 ≡ k → slot ≤ j → k < length index
        → is_lt (at_places (get_or (insert index slot place) (k + 1) d)
        (get_or (insert index slot place) k d)) ≡ false
    further j k d next more less =
        moved _ _ (get_or index k d) (get_or index j d) (above k d (omega arith))
        (ap (λ (n : ℕ). get_or (insert index slot place) n d) (sym next) ∙ above j d more)
        (subst (λ (n : ℕ). is_lt (at_places (get_or index n d) (get_or index j d)) ≡ false) next
        (sorted j d (omega arith) (omega arith)))

    late : (k d : ℕ) → slot ≤ k → k < length index → slot < k ⊎ k ≤ slot
        → is_lt (at_places (get_or (insert index slot place) (k + 1) d)
        (get_or (insert index slot place) k d)) ≡ false
    late k d more less (inl past) = further (k - 1) k d (omega arith) (omega arith) less
    late k d more less (inr there) =
        moved _ _ (get_or index k d) place (above k d more) (at k d (omega arith))
        (subst (λ (n : ℕ). is_lt (at_places (get_or index n d) place) ≡ false) (omega arith)
        (after d (omega arith)))

    either : (k d : ℕ) → k < length index → k < slot ⊎ slot ≤ k
        → is_lt (at_places (get_or (insert index slot place) (k + 1) d)
        (get_or (insert index slot place) k d)) ≡ false
    either k d less (inl first) = early k d (cases_lt (k + 1) slot) first
    either k d less (inr more) = late k d more less (cases_lt slot k)

    still_sorted : AreSorted R keys (insert index slot place)
    still_sorted k d low high =
        either k d (omega (arith, length-insert index slot place within)) (cases_lt k slot)

  -- it goes to the place of one that is equal
  pub sorted_at : (slot : ℕ) → slot < length index
      → IsBinarySearchResult (λ other. at_places other place) index (Ok slot)
      → AreSorted R keys (insert index slot place)
  sorted_at slot within equal =
      still_sorted slot (omega arith)
      (λ k d next. (let same : at_places (get_or index (k + 1) d) place ≡ Equal =
      subst (λ (n : ℕ). at_places (get_or index n d) place ≡ Equal) (sym next) (equal d) in
      ap is_lt (sym ((options_total total).congr (slice_get keys (get_or index (k + 1) d))
      (slice_get keys place) (slice_get keys (get_or index k d)) same))
      ∙ sorted k d (omega arith) (omega arith)))
      (λ d less. ap is_lt (equal d))

  falls : IsNonDecreasingBy (λ other. ordering_index (at_places other place)) index
  falls = searchable_from_sorted (options_total total) (slice_get keys) index
      (slice_get keys place) sorted

  -- it goes between those below it and those above it
  pub sorted_between : (slot : ℕ) → slot ≤ length index
      → IsBinarySearchResult (λ other. at_places other place) index (Err slot)
      → AreSorted R keys (insert index slot place)
  sorted_between slot within parted =
      let parts = parted falls in
      still_sorted slot within
      (λ k d next. ap is_lt (turned (get_or index k d) place Less
      (parts.0 k d (omega arith) (omega arith))))
      (λ d less. ap is_lt (parts.1 slot d (omega arith) less))

-- ---- more keys

same_key : {K : Type 0} (old new : List K) (place : ℕ) → place < length old
    → slice_get (old ++ new) place ≡ slice_get old place
same_key [] new place within = absurd (omega arith)
same_key (k ∷ old) new zero within = refl
same_key (k ∷ old) new (suc place) within = same_key old new place (omega arith)

-- the places of the first keys are in order among all keys
pub sorted_still : {K : Type 0} (R : K → K → Ordering) (old new : List K) (index : List ℕ)
    → ArePlaces R old index → AreSorted R (old ++ new) index
sorted_still R old new index are k d low high =
    let first = same_key old new (get_or index k d) (inside k d (omega arith)) in
    let second = same_key old new (get_or index (k + 1) d) (inside (k + 1) d high) in
    rw (first, second) (are.sorted k d low high)
  where
    numbers : All (λ (place : ℕ). place < length old) (range_with_len 0 (length old))
    numbers k d within =
        let here : k < length old = omega (arith, length-range_with_len 0 (length old)) in
        omega (arith, get_or-range_with_len 0 (length old) k d here)

    inside : All (λ (place : ℕ). place < length old) index
    inside =
        All-permutation (λ (place : ℕ). place < length old) (range_with_len 0 (length old)) index
        are.same numbers

-- no places are in order
pub none_sorted : {K : Type 0} (R : K → K → Ordering) (keys : List K) (index : List ℕ)
    → index ≡ [] → AreSorted R keys index
none_sorted R keys index empty = rw empty (λ k d low high. absurd (omega arith))
