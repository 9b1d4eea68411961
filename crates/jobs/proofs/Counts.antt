-- How often a number stands in a list.
use Rattle.std.proofs.Common.{◌≡◌, ◌⊎◌, ℕ, zero, suc, ◌+◌, ◌<◌, ◌≤◌, Bool, cond, ◌==◌, List, [], ◌∷◌, ◌++◌, length, get_or, refl, sym, ◌∙◌, ap, subst, arith, inl, inr}
use Rattle.std.proofs.lemmas.Bool.{cases_lt, eq-eqb, le-ltb, lt-ltb}
use Rattle.std.proofs.lemmas.List.Kept.{AllPairs-cons}
use Rattle.std.proofs.lemmas.List.Sums.{sum_by-append, sum_by-cons}
use Rattle.small_types.specs.Blocks.{AreApart}
use Rattle.jobs.specs.Balance.{times, one_below}

pub times-nil : (b : ℕ) → times b [] ≡ 0
unfolding times
times-nil b = refl

pub times-append : (b : ℕ) (xs ys : List ℕ) → times b (xs ++ ys) ≡ times b xs + times b ys
unfolding times
times-append b xs ys = sum_by-append (λ x. cond (x == b) 1 0) xs ys

pub times_first : (x : ℕ) (xs : List ℕ) → times x (x ∷ xs) ≡ 1 + times x xs
unfolding times
times_first x xs = sum_by-cons (λ y. cond (y == x) 1 0) x xs ∙ ap (λ (b : Bool). cond b 1 0 + times x xs) (eq-eqb x x refl)

pub times_rest : (b x : ℕ) (xs : List ℕ) → times b xs ≤ times b (x ∷ xs)
unfolding times
times_rest b x xs = omega (arith, sum_by-cons (λ y. cond (y == b) 1 0) x xs)

pub times_at : (xs : List ℕ) (i d : ℕ) → i < length xs → 1 ≤ times (get_or xs i d) xs
times_at [] i d low = absurd (omega arith)
times_at (x ∷ xs) zero d low = omega (arith, times_first x xs)
times_at (x ∷ xs) (suc i) d low = omega (arith, times_at xs i d (omega arith), times_rest (get_or xs i d) x xs)

pub one_below_at : (n b : ℕ) → 1 ≤ one_below n b → b < n
unfolding one_below
one_below_at n b some = by (cases_lt b n)
  where
    by : (b < n) ⊎ (n ≤ b) → b < n
    by (inl low) = low
    by (inr high) = absurd (let none : one_below n b ≡ 0 = ap (λ (t : Bool). cond t 1 0) (le-ltb b n high) in omega arith)

pub one_below_most : (n b : ℕ) → one_below n b ≤ 1
unfolding one_below
one_below_most n b = by (cases_lt b n)
  where
    by : (b < n) ⊎ (n ≤ b) → one_below n b ≤ 1
    by (inl low) = let one : one_below n b ≡ 1 = ap (λ (t : Bool). cond t 1 0) (lt-ltb b n low) in omega arith
    by (inr high) = let none : one_below n b ≡ 0 = ap (λ (t : Bool). cond t 1 0) (le-ltb b n high) in omega arith

-- where no number stands twice, they differ
pub apart_from_times : (xs : List ℕ) → ((b : ℕ) → times b xs ≤ 1) → AreApart xs
apart_from_times [] once = λ i j d order low. absurd (omega arith)
apart_from_times (x ∷ xs) once =
    AllPairs-cons (λ a b. a ≡ b → ⊥) x xs
    (λ k d low same. absurd (let here = times_at xs k d low in let first = times_first x xs in let most = once x in let moved : 1 ≤ times x xs = subst (λ (y : ℕ). 1 ≤ times y xs) (sym same) here in omega arith))
    (apart_from_times xs (λ b. omega (arith, once b, times_rest b x xs)))
