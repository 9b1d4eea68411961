-- Lists of numbers with the same items, in other orders.
use Rattle.std.proofs.Common.{◌≡◌, ◌<◌, refl, sym, ap, subst, ℕ, Bool, true, false, cond, eqb, eqb-true, eq-eqb, List, [], ◌∷◌, ◌++◌, arith}
use Rattle.std.specs.Prelude.{sum_by}
use Rattle.std.specs.List.Sorted.{IsPermutation}
use Rattle.std.proofs.lemmas.Bool.Decides.{Decides-eqb}
use Rattle.std.proofs.lemmas.Cmp.{nat_eq_equiv}
use Rattle.std.proofs.lemmas.List.Sorted.{IsPermutation-cons, IsPermutation-middle, IsPermutation-refl, IsPermutation-sym, IsPermutation-trans}
use Rattle.std.proofs.lemmas.List.Sums.{sum_by-append, sum_by-cons}
use Rattle.std.proofs.lemmas.Map.Keys.{IsDistinct-IsPermutation}
use Rattle.std.proofs.lemmas.Map.Made.{AllPairs-from_IsDistinct, IsDistinct-from_AllPairs}
use Rattle.small_types.specs.Blocks.{AreApart}

-- whatever each item weighs, both lists weigh the same
abbrev pub SameTotals : List ℕ → List ℕ → Type 0
SameTotals xs ys = (w : ℕ → ℕ) → sum_by w xs ≡ sum_by w ys

-- 1 for the item, and 0 for any other one
abbrev pub one_for : ℕ → ℕ → ℕ
one_for item other = cond (eqb other item) 1 0

record StandsIn (item : ℕ) (xs : List ℕ) : Type 0 where
  front : List ℕ
  back : List ℕ
  is : xs ≡ front ++ item ∷ back

-- an item that is counted stands somewhere
find_item : (item : ℕ) (xs : List ℕ) → 0 < sum_by (one_for item) xs → StandsIn item xs
find_item item [] some = absurd (omega (arith, some))
find_item item (x ∷ xs) some =
    by (eqb x item) refl
    (λ fewer. find_item item xs (omega (arith, some, sum_by-cons (one_for item) x xs, fewer)))
  where
    by : (b : Bool) → eqb x item ≡ b → (one_for item x ≡ 0 → StandsIn item xs)
        → StandsIn item (x ∷ xs)
    by true e behind = record {
      front = [];
      back = xs;
      is = ap (λ (n : ℕ). n ∷ xs) (eqb-true x item e);
    }
    by false e behind =
        let more = behind (ap {B = ℕ} (λ (b : Bool). cond b 1 0) e) in record {
          front = x ∷ more.front;
          back = more.back;
          is = ap (λ (ys : List ℕ). x ∷ ys) more.is;
        }

-- lists that weigh the same have the same items
pub from_totals : (xs ys : List ℕ) → SameTotals xs ys → IsPermutation xs ys
from_totals [] [] same = IsPermutation-refl []
from_totals [] (y ∷ ys) same =
    absurd (omega (arith, same (λ n. 1), sum_by-cons (λ (n : ℕ). 1) y ys))
from_totals (x ∷ xs) ys same =
    let one : one_for x x ≡ 1 = ap {B = ℕ} (λ (b : Bool). cond b 1 0) (eq-eqb x x refl) in
    let here : 0 < sum_by (one_for x) ys =
    omega (arith, same (one_for x), sum_by-cons (one_for x) x xs, one) in
    let at = find_item x ys here in
    let rest : SameTotals xs (at.front ++ at.back) = λ w. omega (
      arith,
      same w,
      sum_by-cons w x xs,
      ap (sum_by w) at.is,
      sum_by-append w at.front (x ∷ at.back),
      sum_by-cons w x at.back,
      sum_by-append w at.front at.back,
    ) in
    subst (IsPermutation (x ∷ xs)) (sym at.is)
    (IsPermutation-trans (x ∷ xs) (x ∷ (at.front ++ at.back)) (at.front ++ x ∷ at.back)
    (IsPermutation-cons x xs (at.front ++ at.back) (from_totals xs (at.front ++ at.back) rest))
    (IsPermutation-sym (at.front ++ x ∷ at.back) (x ∷ (at.front ++ at.back))
    (IsPermutation-middle at.front x at.back)))

-- items that differ do so in any order
pub apart_permuted : (xs ys : List ℕ) → IsPermutation xs ys → AreApart xs → AreApart ys
apart_permuted xs ys moved apart =
    AllPairs-from_IsDistinct {eq = eqb} Decides-eqb ys
    (IsDistinct-IsPermutation eqb (λ x y. nat_eq_equiv.symm x y) xs ys moved
    (IsDistinct-from_AllPairs {eq = eqb} Decides-eqb xs apart))
