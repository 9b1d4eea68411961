-- What is found in an index of places, and indexes of more keys.
use Rattle.std.proofs.Common.{◌≡◌, ◌∙◌, ◌⊎◌, ◌+◌, ◌-◌, ◌<◌, ◌≤◌, ◌++◌, inl, inr, sym, ap, subst, append_assoc, zero-add, ℕ, zero, suc, Bool, true, cond, List, [], ◌∷◌, length, get_or, Contains, Option, Some, None, Ok, Err, arith}
use Rattle.std.specs.Prelude.{slice_get}
use Rattle.std.specs.Cmp.{IsTotalOrder}
use Rattle.std.specs.Cmp.Lexicographic.{options_total}
use Rattle.std.specs.List.{range_with_len}
use Rattle.std.specs.List.Sorted.{IsBinarySearchResult, IsNonDecreasingBy, IsPartitionPoint, IsPermutation}
use Rattle.std.specs.Option.{option_cmp}
use Rattle.std.specs.Ordering.{ordering_index}
use Rattle.std.specs.declared.cmp.Ordering.{Ordering}
use Rattle.std.specs.declared.cmp.Ordering.TheVariants.{Less, Equal, Greater}
use Rattle.std.proofs.lemmas.Bool.{cases_lt}
use Rattle.std.proofs.lemmas.Cmp.{tied_itself}
use Rattle.std.proofs.lemmas.List.FromFn.{get_or-range_with_len, length-range_with_len}
use Rattle.std.proofs.lemmas.List.Sorted.{Contains-permutation, IsPermutation-append_left, IsPermutation-trans, searchable_from_sorted}
use Rattle.std.proofs.lemmas.Option.{slice_get-get_or, slice_get_within}
use Rattle.store_state.specs.Places.{ArePlaces, AreSorted}

-- ---- a search

module _ {K : Type 0} (R : K → K → Ordering) (total : IsTotalOrder R)
    (one : (a b : K) → R a b ≡ Equal → a ≡ b) (keys : List K) (places : List ℕ)
    (are : ArePlaces R keys places) (key : K) where
  -- how the key at a place compares with the one that is looked for
  abbrev at_place : ℕ → Ordering
  at_place place = option_cmp R (slice_get keys place) (Some key)

  equal_is : (o : Option K) → option_cmp R o (Some key) ≡ Equal → o ≡ Some key
  equal_is None e = absurd cc
  equal_is (Some k) e = ap Some (one k key e)

  is_equal : (o : Option K) → o ≡ Some key → option_cmp R o (Some key) ≡ Equal
  is_equal o e = ap (λ (p : Option K). option_cmp R p (Some key)) e ∙ tied_itself total key

  falls : IsNonDecreasingBy (λ place. ordering_index (at_place place)) places
  falls = searchable_from_sorted (options_total total) (slice_get keys) places (Some key) are.sorted

  -- the place that it ends at is that of the key
  pub stands_at : (at d : ℕ) → IsBinarySearchResult at_place places (Ok at)
      → slice_get keys (get_or places at d) ≡ Some key
  stands_at at d equal = equal_is (slice_get keys (get_or places at d)) (equal d)

  pub stands_within : (at d : ℕ) → IsBinarySearchResult at_place places (Ok at)
      → get_or places at d < length keys
  stands_within at d equal = slice_get_within keys (get_or places at d) key (stands_at at d equal)

  -- each place is in the index
  listed : (k : ℕ) → k < length keys → Contains places k
  listed k within =
      Contains-permutation (range_with_len 0 (length keys)) places k are.same (
        k,
        omega (arith, length-range_with_len 0 (length keys)),
        get_or-range_with_len 0
            (length keys) k k within ∙ zero-add k,
      )

  apart : {P : Type 0} (o : Ordering) → o ≡ Equal → o ≡ Less ⊎ o ≡ Greater → P
  apart o e (inl less) = absurd (let f = sym e ∙ less in cc)
  apart o e (inr greater) = absurd (let f = sym e ∙ greater in cc)

  side : (gap j d : ℕ) → IsPartitionPoint (λ p. at_place p ≡ Less) (λ p. at_place p ≡ Greater)
      places gap → j < length places → j < gap ⊎ gap ≤ j → at_place (get_or places j d) ≡ Less
      ⊎ at_place (get_or places j d) ≡ Greater
  side gap j d parts within (inl before) = inl (parts.0 j d (omega arith) before)
  side gap j d parts within (inr after) = inr (parts.1 j d after within)

  -- where it ends at none, the key stands nowhere
  pub stands_nowhere : (gap : ℕ) → IsBinarySearchResult at_place places (Err gap)
      → ¬ Contains keys key
  stands_nowhere gap parted = λ there. (
      let at = listed there.0 there.1 in
      let found : slice_get keys (get_or places at.0 there.0) ≡ Some key = ap (slice_get keys) at.2
      ∙ slice_get-get_or keys there.0 key there.1 ∙ ap Some there.2 in
      apart (at_place (get_or places at.0 there.0))
      (is_equal (slice_get keys (get_or places at.0 there.0)) found)
      (side gap at.0 there.0 (parted falls) at.1 (cases_lt at.0 gap))
      )

-- ---- more keys

range-append : (a n m : ℕ) → range_with_len a (n + m) ≡ range_with_len a n ++ range_with_len (a + n)
    m
range-append a zero m =
    let none : zero + m ≡ m = omega arith in
    let here : a ≡ a + zero = omega arith in
    ap (range_with_len a) none ∙ ap (λ (k : ℕ). range_with_len k m) here
range-append a (suc n) m =
    let count : suc n + m ≡ suc (n + m) = omega arith in
    let start : a + 1 + n ≡ a + suc n = omega arith in
    ap (range_with_len a) count
    ∙ ap (λ (places : List ℕ). a ∷ places)
    (range-append (a + 1) n m ∙ ap (λ (k : ℕ). range_with_len (a + 1) n ++ range_with_len k m)
    start)

-- the next number goes to the end of a list, in front of the later ones
pub range_push : (xs all : List ℕ) (place end : ℕ) → place < end
    → xs ++ range_with_len place (end - place) ≡ all
    → (xs ++ place ∷ []) ++ range_with_len (place + 1) (end - (place + 1)) ≡ all
range_push xs all place end less is =
    let one : end - place ≡ suc (end - (place + 1)) = omega arith in
    append_assoc xs (place ∷ []) (range_with_len (place + 1) (end - (place + 1)))
    ∙ ap (λ (n : ℕ). xs ++ range_with_len place n) (sym one) ∙ is

-- a push that found room
pub pushed : {X : Type 0} (done : Bool) (more was new : X) → done ≡ true → new ≡ cond done more was
    → new ≡ more
pushed done more was new ok is = is ∙ ap (λ (b : Bool). cond b more was) ok

-- the places of the new keys are added
pub more_places : {K : Type 0} (R : K → K → Ordering) (old all : List K) (count : ℕ)
    (index larger : List ℕ) → ArePlaces R old index → length all ≡ length old + count
    → AreSorted R all larger → IsPermutation (index ++ range_with_len (length old) count) larger
    → ArePlaces R all larger
more_places R old all count index larger are long sorted same = record {
  sorted = sorted;
  same =
      let n = length old in
      let start : n ≡ 0 + n = omega arith in
      let whole : range_with_len 0 (length all) ≡ range_with_len 0 n ++ range_with_len n count =
      ap (range_with_len 0) long ∙ range-append 0 n count
      ∙ ap (λ (k : ℕ). range_with_len 0 n ++ range_with_len k count) (sym start) in
      subst (λ (places : List ℕ). IsPermutation places larger) (sym whole)
      (IsPermutation-trans (range_with_len 0 n ++ range_with_len n count)
      (index ++ range_with_len n count) larger
      (IsPermutation-append_left (range_with_len n count) (range_with_len 0 n) index are.same)
      same);
}
