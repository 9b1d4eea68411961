-- The order of content keys.
use Rattle.std.proofs.Common.{◌≡◌, ◌≢◌, ◌∙◌, AllPairs, ◌&&◌, ◌==◌, ◌<◌, ◌≤◌, ◌+◌, ◌-◌, ◌⊎◌, inl, inr, refl, sym, ap, subst, ℕ, zero, suc, min, Bool, true, false, List, [], ◌∷◌, length, drop, arith, None, bytes_eq, ◌↔◌, get_or, Result, Ok, Err}
use Rattle.std.specs.Cmp.{IsStrictWeakOrder, IsTotalOrder, nat_cmp_is, tied_then, unsigned_ties}
use Rattle.std.specs.Prelude.{Contains, IsTrue, is_ok}
use Rattle.std.specs.List.Sorted.{IsBinarySearchResult, IsNonDecreasingBy, IsPartitionPoint, IsSearchInRange, IsSorted}
use Rattle.std.specs.Cmp.Lexicographic.{lists_ties, lists_total, slice_cmp}
use Rattle.std.specs.Ordering.{eq_by_cmp, is_eq, is_lt, nat_cmp, ordering_index, ordering_reverse}
use Rattle.std.specs.declared.cmp.Ordering.{Ordering}
use Rattle.std.specs.declared.cmp.Ordering.TheVariants.{Less, Equal, Greater}
use Rattle.std.proofs.lemmas.Bool.{cases_lt}
use Rattle.std.proofs.lemmas.Cmp.{nat_cmp_total, on_total, then_total, tied_itself}
use Rattle.std.proofs.lemmas.List.{get_or_default, length-drop}
use Rattle.std.proofs.lemmas.Map.Text.{is_eq-slice_cmp}
use lib.Pointwise.{pointwise}
use Rattle.identity.specs.Printed.{text_cmp}
use Rattle.digest_list.specs.declared.digest.Digest.{Digest}
use Rattle.digest_list.specs.Algorithm.{name_of}
use Rattle.manifests.specs.declared.facts.FileEntry.{FileEntry}
use Rattle.machine.specs.Views.{ContentKey, same_digest, same_key}
use Rattle.machine.proofs.Contents.{content_decides}
use Rattle.machine.proofs.EntryOrder.{order}
use Rattle.machine.proofs.Members.{pairs_weaker}
use Rattle.store_state.specs.ContentKeys.{content_key_cmp, digest_cmp}

pub digest_total : IsTotalOrder digest_cmp
digest_total = then_total (on_total (λ (d : Digest). name_of d.algorithm) order) (on_total (λ (d : Digest). d.value) order)

pub content_key_total : IsTotalOrder content_key_cmp
content_key_total = then_total (on_total (λ (k : ContentKey). k.size) nat_cmp_total) (on_total (λ (k : ContentKey). k.list) (lists_total digest_total))

-- ---- content keys that compare as equal are one

digest_ties : (a b : Digest) → same_digest a b ≡ eq_by_cmp digest_cmp a b
digest_ties a b =
    ap (λ (t : Bool). t && bytes_eq a.value b.value) (sym (is_eq-slice_cmp (name_of a.algorithm) (name_of b.algorithm)))
    ∙ ap (λ (t : Bool). is_eq (text_cmp (name_of a.algorithm) (name_of b.algorithm)) && t) (sym (is_eq-slice_cmp a.value b.value))
    ∙ tied_then (text_cmp (name_of a.algorithm) (name_of b.algorithm)) (text_cmp a.value b.value)

pub key_ties : (a b : ContentKey) → same_key a b ≡ eq_by_cmp content_key_cmp a b
key_ties a b =
    ap (λ (t : Bool). t && pointwise same_digest a.list b.list) (size_ties a.size b.size)
    ∙ ap (λ (t : Bool). is_eq (nat_cmp a.size b.size) && t) (lists_ties digest_cmp digest_ties a.list b.list)
    ∙ tied_then (nat_cmp a.size b.size) (slice_cmp digest_cmp a.list b.list)
  where
    size_ties : (m n : ℕ) → (m == n) ≡ is_eq (nat_cmp m n)
    size_ties m n = unsigned_ties m n

-- a file of that content
as_file : ContentKey → FileEntry
as_file key = record { name = []; size = key.size; list = key.list; group = None; local = false }

pub one_key : (a b : ContentKey) → content_key_cmp a b ≡ Equal → a ≡ b
unfolding as_file
one_key a b e = (content_decides (as_file a) (as_file b)).0 (key_ties a b ∙ ap is_eq e)

-- ---- the rest of two lists, where one has ended

module _ {X : Type 0} (R : X → X → Ordering) where
  pub ended : (xs ys : List X) (place : ℕ) → place ≡ min (length xs) (length ys) → slice_cmp R (drop place xs) (drop place ys) ≡ nat_cmp (length xs) (length ys)
  ended xs ys place end = by (drop place xs) (drop place ys) (length-drop place xs) (length-drop place ys)
    where
      by : (ps qs : List X) → length ps ≡ length xs - place → length qs ≡ length ys - place → slice_cmp R ps qs ≡ nat_cmp (length xs) (length ys)
      by [] [] a b = nat_cmp_is (length xs) (length ys) Equal (omega (arith, a, b, end))
      by [] (y ∷ qs) a b = nat_cmp_is (length xs) (length ys) Less (omega (arith, a, b, end))
      by (x ∷ ps) [] a b = nat_cmp_is (length xs) (length ys) Greater (omega (arith, a, b, end))
      by (x ∷ ps) (y ∷ qs) a b = absurd (omega (arith, a, b, end))

-- ---- what sorting asks

module _ {X : Type 0} {R : X → X → Ordering} (o : IsTotalOrder R) where
  apart : {P : Type 0} → true ≡ false → P
  apart e = absurd cc

  less_first : (a b : Ordering) → a ≡ ordering_reverse b → is_lt a ≡ true → is_lt b ≡ false
  less_first a Less e less = apart (sym less ∙ ap is_lt e)
  less_first a Equal e less = refl
  less_first a Greater e less = refl

  chain : (x y z : X) (first third : Ordering) → R x y ≡ first → R x z ≡ third → is_lt first ≡ false → is_lt (R y z) ≡ false → is_lt third ≡ false
  chain x y z Less third e f none second = apart none
  chain x y z Equal third e f none second = ap is_lt (sym f ∙ o.congr x y z e) ∙ second
  chain x y z Greater Less e f none second =
      let below : R y x ≡ Less = o.antisymm y x ∙ ap ordering_reverse e in
      apart (sym (ap is_lt (o.trans y x z below f)) ∙ second)
  chain x y z Greater Equal e f none second = refl
  chain x y z Greater Greater e f none second = refl

  pub weak_order : IsStrictWeakOrder (λ x y. is_lt (R x y))
  weak_order = record {
    one_way = λ x y less. less_first (R x y) (R y x) (o.antisymm x y) less;
    chain = λ x y z first second. chain x y z (R x y) (R x z) refl refl first second;
  }

-- ---- a search in an index

index_le : (x y key : ContentKey) (a b : Ordering) → content_key_cmp x key ≡ a → content_key_cmp y key ≡ b → is_lt (content_key_cmp y x) ≡ false → ordering_index a ≤ ordering_index b
index_le x y key Less b first second not_below = omega arith
index_le x y key Equal Less first second not_below = apart content_key_total (sym (ap is_lt (ap (λ (k : ContentKey). content_key_cmp y k) (one_key x key first) ∙ second)) ∙ not_below)
index_le x y key Equal Equal first second not_below = omega arith
index_le x y key Equal Greater first second not_below = omega arith
index_le x y key Greater Less first second not_below =
    let above : content_key_cmp key x ≡ Less = content_key_total.antisymm key x ∙ ap ordering_reverse first in
    apart content_key_total (sym (ap is_lt (content_key_total.trans y key x second above)) ∙ not_below)
index_le x y key Greater Equal first second not_below =
    let above : content_key_cmp key x ≡ Less = content_key_total.antisymm key x ∙ ap ordering_reverse first in
    apart content_key_total (sym (ap is_lt (ap (λ (k : ContentKey). content_key_cmp k x) (one_key y key second) ∙ above)) ∙ not_below)
index_le x y key Greater Greater first second not_below = omega arith

module _ (index : List ContentKey) (sorted : IsSorted content_key_cmp index) where
  further : (i n : ℕ) (d : ContentKey) → i + n < length index → is_lt (content_key_cmp (get_or index (i + n) d) (get_or index i d)) ≡ false
  further i zero d within = subst (λ (k : ℕ). is_lt (content_key_cmp (get_or index k d) (get_or index i d)) ≡ false) (omega arith) (ap is_lt (tied_itself content_key_total (get_or index i d)))
  further i (suc n) d within =
      let last = sorted (i + n) d (omega arith) (omega arith) in
      let first = further i n d (omega arith) in
      subst (λ (k : ℕ). is_lt (content_key_cmp (get_or index k d) (get_or index i d)) ≡ false) (omega arith) ((weak_order content_key_total).chain (get_or index (i + n + 1) d) (get_or index (i + n) d) (get_or index i d) last first)

  -- no later content key is below an earlier one
  pub rising : (i j : ℕ) (d : ContentKey) → i ≤ j → j < length index → is_lt (content_key_cmp (get_or index j d) (get_or index i d)) ≡ false
  rising i j d le within = subst (λ (k : ℕ). is_lt (content_key_cmp (get_or index k d) (get_or index i d)) ≡ false) (omega arith) (further i (j - i) d (omega arith))

  module _ (key : ContentKey) where
    falls : IsNonDecreasingBy (λ (k : ContentKey). ordering_index (content_key_cmp k key)) index
    falls i j d le within = index_le (get_or index i d) (get_or index j d) key _ _ refl refl (rising i j d le within)

    found_is : (result : Result ℕ ℕ) → IsSearchInRange result (length index) → IsBinarySearchResult (λ (k : ContentKey). content_key_cmp k key) index result → IsTrue (is_ok result) → Contains index key
    found_is (Ok place) range equal found = (place, range, one_key (get_or index place key) key (equal key))
    found_is (Err place) range parted found = absurd cc

    lies : (o : Ordering) (place : ℕ) → get_or index place key ≡ key → content_key_cmp (get_or index place key) key ≡ o → o ≡ Equal
    lies o place is e = sym e ∙ ap (λ (k : ContentKey). content_key_cmp k key) is ∙ tied_itself content_key_total key

    gap_none : (gap : ℕ) → IsPartitionPoint (λ (k : ContentKey). content_key_cmp k key ≡ Less) (λ (k : ContentKey). content_key_cmp k key ≡ Greater) index gap → (place : ℕ) → place < length index → get_or index place key ≡ key → place < gap ⊎ gap ≤ place → ⊥
    gap_none gap parts place within is (inl before) = let e = lies Less place is (parts.0 place key (omega arith) before) in absurd cc
    gap_none gap parts place within is (inr after) = let e = lies Greater place is (parts.1 place key after within) in absurd cc

    is_found : (result : Result ℕ ℕ) → IsSearchInRange result (length index) → IsBinarySearchResult (λ (k : ContentKey). content_key_cmp k key) index result → Contains index key → IsTrue (is_ok result)
    is_found (Ok place) range equal there = refl
    is_found (Err gap) range parted there = absurd (gap_none gap (parted falls) there.0 there.1 there.2 (cases_lt there.0 gap))

    pub search_is : (result : Result ℕ ℕ) → IsSearchInRange result (length index) → IsBinarySearchResult (λ (k : ContentKey). content_key_cmp k key) index result → IsTrue (is_ok result) ↔ Contains index key
    search_is result range found = (found_is result range found, is_found result range found)

  -- two neighbours that differ rise
  pub neighbours_rise : (place : ℕ) (low high : ContentKey) → 1 ≤ place → place < length index → low ≡ get_or index (place - 1) low → high ≡ get_or index place high → low ≢ high → content_key_cmp low high ≡ Less
  neighbours_rise place low high some within first second unlike =
      let fall = rising (place - 1) place low (omega arith) within in
      let same : get_or index place low ≡ high = get_or_default index place low high within ∙ sym second in
      let not_below : is_lt (content_key_cmp high low) ≡ false = subst (λ (k : ContentKey). is_lt (content_key_cmp k low) ≡ false) same (subst (λ (k : ContentKey). is_lt (content_key_cmp (get_or index place low) k) ≡ false) (sym first) fall) in
      by (content_key_cmp low high) refl not_below
    where
      by : (o : Ordering) → content_key_cmp low high ≡ o → is_lt (content_key_cmp high low) ≡ false → content_key_cmp low high ≡ Less
      by Less e not_below = e
      by Equal e not_below = absurd (unlike (one_key low high e))
      by Greater e not_below = apart content_key_total (sym (ap is_lt (content_key_total.antisymm high low ∙ ap ordering_reverse e)) ∙ not_below)

-- content keys that rise differ
pub differ_rising : (keys : List ContentKey) → AllPairs (λ (a b : ContentKey). content_key_cmp a b ≡ Less) keys → AllPairs (λ (a b : ContentKey). a ≢ b) keys
differ_rising keys pairs = pairs_weaker (λ (a b : ContentKey). content_key_cmp a b ≡ Less) (λ (a b : ContentKey). a ≢ b) keys (λ a b less same. (let e : Less ≡ Equal = sym less ∙ ap (λ (k : ContentKey). content_key_cmp k b) same ∙ tied_itself content_key_total b in absurd cc)) pairs
