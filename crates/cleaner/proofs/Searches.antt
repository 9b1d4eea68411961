-- A search among numbers in order.
use Rattle.std.proofs.Common.{◌≡◌, ◌∙◌, ◌<◌, ◌≤◌, ◌⊎◌, inl, inr, refl, sym, ℕ, List, length, get_or, Result, Ok, Err, eqb, eqb-true, eq-eqb, arith}
use Rattle.std.specs.Cmp.{nat_cmp_is}
use Rattle.std.specs.Prelude.{is_ok}
use Rattle.std.specs.List.{list_any}
use Rattle.std.specs.List.Sorted.{IsBinarySearchResult, IsNonDecreasingBy, IsPartitionPoint, IsSearchInRange, IsSorted}
use Rattle.std.specs.Ordering.{nat_cmp, ordering_index}
use Rattle.std.specs.declared.cmp.Ordering.TheVariants.{Less, Equal, Greater}
use Rattle.std.proofs.lemmas.Bool.{cases_lt, false_from_ne_true}
use Rattle.std.proofs.lemmas.Cmp.{nat_cmp_total}
use Rattle.std.proofs.lemmas.List.{get_or_default}
use Rattle.std.proofs.lemmas.List.Sorted.{searchable_from_sorted}
use Rattle.machine.proofs.Members.{contains_in, in_contains}
use Rattle.machine.proofs.OwnContents.{in_passes, passes_in}

-- numbers that compare as equal are one
one_number : (m n : ℕ) → nat_cmp m n ≡ Equal → m ≡ n
one_number m n e = by (cases_lt m n) (cases_lt n m)
  where
    by : m < n ⊎ n ≤ m → n < m ⊎ m ≤ n → m ≡ n
    by (inl below) other = absurd (let f = nat_cmp_is m n Less below ∙ e in cc)
    by (inr over) (inl above) = absurd (let f = nat_cmp_is m n Greater above ∙ e in cc)
    by (inr over) (inr under) = omega (arith, over, under)

module _ (numbers : List ℕ) (sorted : IsSorted nat_cmp numbers) (number : ℕ) where
  falls : IsNonDecreasingBy (λ (n : ℕ). ordering_index (nat_cmp n number)) numbers
  falls = searchable_from_sorted nat_cmp_total (λ (n : ℕ). n) numbers number sorted

  equal : (place : ℕ) → get_or numbers place number ≡ number
      → nat_cmp (get_or numbers place number) number ≡ Equal
  equal place is = sym (nat_cmp_is (get_or numbers place number) number Equal is)

  gap_none : (gap : ℕ)
      → IsPartitionPoint (λ (n : ℕ). nat_cmp n number ≡ Less)
      (λ (n : ℕ). nat_cmp n number ≡ Greater) numbers gap → (place : ℕ) → place < length numbers
      → get_or numbers place number ≡ number → place < gap ⊎ gap ≤ place → ⊥
  gap_none gap parts place within is (inl before) =
      let e = sym (equal place is) ∙ parts.0 place number (omega arith) before in absurd cc
  gap_none gap parts place within is (inr after) =
      let e = sym (equal place is) ∙ parts.1 place number after within in absurd cc

  pub search_any : (result : Result ℕ ℕ) → IsSearchInRange result (length numbers)
      → IsBinarySearchResult (λ (n : ℕ). nat_cmp n number) numbers result
      → is_ok result ≡ list_any (λ (n : ℕ). eqb n number) numbers
  search_any (Ok place) range found =
      let is = one_number (get_or numbers place number) number (found number) in
      sym (in_passes (λ (n : ℕ). eqb n number) numbers number
      (in_contains numbers number (place, range, is)) (eq-eqb number number refl))
  search_any (Err gap) range parted =
      sym (false_from_ne_true (list_any (λ (n : ℕ). eqb n number) numbers) (λ some. (
      let one = passes_in (λ (n : ℕ). eqb n number) numbers some in
      let there = contains_in numbers one.0 one.1 in
      let is : get_or numbers there.0 number ≡ number =
      get_or_default numbers there.0 number one.0 there.1 ∙ there.2 ∙ eqb-true one.0 number one.2 in
      gap_none gap (parted falls) there.0 there.1 is (cases_lt there.0 gap)
      )))
