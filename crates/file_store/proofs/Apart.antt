-- Lists of blocks that differ.
use Rattle.std.proofs.Common.{◌≡◌, ◌⊎◌, ℕ, ◌+◌, ◌-◌, ◌<◌, ◌≤◌, true, List, ◌++◌, length, reverse, take, drop, get_or, eqb, refl, sym, ◌∙◌, ap, subst, arith, inl, inr, All, Contains}
use Rattle.std.proofs.lemmas.Bool.Decides.{Decides-eqb, eqb_tells}
use Rattle.std.proofs.lemmas.Bool.{cases_lt}
use Rattle.std.proofs.lemmas.List.{get_or_append_left, get_or-append-add, get_or-append_right, get_or-reverse, length-append, length-reverse, reverse-append, reverse-reverse, take-append-drop}
use Rattle.std.proofs.lemmas.List.Elements.{All-append, All-contains, Contains-get_or}
use Rattle.std.proofs.lemmas.Map.Made.{IsDistinct-from_AllPairs}
use Rattle.std.proofs.lemmas.Map.Steps.{le-length_from_below, length-le_from_distinct_below}
use Rattle.std.proofs.lemmas.Map.Views.{Contains-from_any, list_any-from_Contains}
use Rattle.std.proofs.lemmas.Cmp.{nat_eq_equiv}
use Rattle.small_types.specs.Blocks.{AreApart}

same_number : (x y : ℕ) → eqb x y ≡ true → x ≡ y
same_number x y is = elim (eqb_tells x y) [ inl equal ↦ equal.1 | inr differ ↦ absurd (let other = differ.0 in cc) ]

-- numbers below n that differ are at most n
pub apart_few : (xs : List ℕ) (n : ℕ) → AreApart xs → All (λ x. x < n) xs → length xs ≤ n
apart_few xs n apart below =
    length-le_from_distinct_below xs n (IsDistinct-from_AllPairs {eq = eqb} Decides-eqb xs apart)
    (λ q found. All-contains (λ x. x < n) xs q below (Contains-from_any {eq = eqb} same_number q xs found))

pub apart_front : (xs ys : List ℕ) → AreApart (xs ++ ys) → AreApart xs
apart_front xs ys apart i j d order within same =
    apart i j d order (omega (arith, length-append xs ys))
    (get_or_append_left xs ys d i (omega arith) ∙ same ∙ sym (get_or_append_left xs ys d j within))

pub apart_back : (xs ys : List ℕ) → AreApart (xs ++ ys) → AreApart ys
apart_back xs ys apart i j d order within same =
    apart (length xs + i) (length xs + j) d (omega arith) (omega (arith, length-append xs ys))
    (get_or-append-add xs ys i d ∙ same ∙ sym (get_or-append-add xs ys j d))

-- none of the first is among the second
pub apart_other : (xs ys : List ℕ) (x : ℕ) → AreApart (xs ++ ys) → Contains xs x → Contains ys x → ⊥
apart_other xs ys x apart one two =
    apart one.0 (length xs + two.0) x (let low = one.1 in omega arith) (let low = two.1 in omega (arith, length-append xs ys))
    (get_or_append_left xs ys x one.0 one.1 ∙ one.2 ∙ sym two.2 ∙ sym (get_or-append-add xs ys two.0 x))

pub apart_reverse : (xs : List ℕ) → AreApart xs → AreApart (reverse xs)
apart_reverse xs apart i j d order within same =
    let low : j < length xs = omega (arith, length-reverse xs) in
    apart (length xs - 1 - j) (length xs - 1 - i) d (omega arith) (omega arith)
    (sym (get_or-reverse xs j d low) ∙ sym same ∙ get_or-reverse xs i d (omega arith))

pub all_reverse : (P : ℕ → Type 0) (xs : List ℕ) → All P xs → All P (reverse xs)
all_reverse P xs all k d within =
    let low : k < length xs = omega (arith, length-reverse xs) in
    subst P (sym (get_or-reverse xs k d low)) (all (length xs - 1 - k) d (omega arith))

-- what stands behind the free blocks, given back in the other order
pub back_apart : (free blocks : List ℕ) → AreApart (blocks ++ reverse free) → AreApart (free ++ reverse blocks)
back_apart free blocks apart =
    let turned : reverse (blocks ++ reverse free) ≡ free ++ reverse blocks = reverse-append blocks (reverse free) ∙ ap (λ (l : List ℕ). l ++ reverse blocks) (reverse-reverse free) in
    subst AreApart turned (apart_reverse (blocks ++ reverse free) apart)

pub back_below : (n : ℕ) (free blocks : List ℕ) → All (λ x. x < n) free → All (λ x. x < n) blocks → All (λ x. x < n) (free ++ reverse blocks)
back_below n free blocks one two = All-append (λ x. x < n) free (reverse blocks) one (all_reverse (λ x. x < n) blocks two)

pub back_few : (n : ℕ) (free blocks : List ℕ) → AreApart (blocks ++ reverse free) → All (λ x. x < n) free → All (λ x. x < n) blocks → length free + length blocks ≤ n
back_few n free blocks apart one two =
    omega (arith, apart_few (free ++ reverse blocks) n (back_apart free blocks apart) (back_below n free blocks one two), length-append free (reverse blocks), length-reverse blocks)

-- the last of the free blocks are handed out in the other order
pub taken_first : (free : List ℕ) (keep : ℕ) → reverse free ≡ reverse (drop keep free) ++ reverse (take keep free)
taken_first free keep = ap reverse (sym (take-append-drop keep free)) ∙ reverse-append (take keep free) (drop keep free)

pub taken_apart : (free : List ℕ) (keep : ℕ) → AreApart free → AreApart (reverse (drop keep free))
taken_apart free keep apart =
    apart_reverse (drop keep free) (apart_back (take keep free) (drop keep free) (subst AreApart (sym (take-append-drop keep free)) apart))

pub kept_apart : (free : List ℕ) (keep : ℕ) → AreApart free → AreApart (take keep free)
kept_apart free keep apart = apart_front (take keep free) (drop keep free) (subst AreApart (sym (take-append-drop keep free)) apart)

-- two lists that share nothing
pub apart_join : (xs ys : List ℕ) → AreApart xs → AreApart ys → ((x : ℕ) → Contains xs x → Contains ys x → ⊥) → AreApart (xs ++ ys)
apart_join xs ys one two other i j d order within same = by (cases_lt i (length xs)) (cases_lt j (length xs))
  where
    at_back : (k : ℕ) → length xs ≤ k → get_or (xs ++ ys) k d ≡ get_or ys (k - length xs) d
    at_back k high = get_or-append_right xs ys (length xs) k d refl high

    by : (i < length xs) ⊎ (length xs ≤ i) → (j < length xs) ⊎ (length xs ≤ j) → ⊥
    by (inl low) (inl below) = one i j d order below (sym (get_or_append_left xs ys d i low) ∙ same ∙ get_or_append_left xs ys d j below)
    by (inl low) (inr high) =
        let left : get_or xs i d ≡ get_or ys (j - length xs) d = sym (get_or_append_left xs ys d i low) ∙ same ∙ at_back j high in
        other (get_or xs i d) (Contains-get_or xs i d low) (subst (Contains ys) (sym left) (Contains-get_or ys (j - length xs) d (omega (arith, length-append xs ys))))
    by (inr high) (inl below) = absurd (omega arith)
    by (inr high) (inr above) = two (i - length xs) (j - length xs) d (omega arith) (omega (arith, length-append xs ys)) (sym (at_back i high) ∙ same ∙ at_back j above)

-- a list with each number below n has as many elements at least
pub apart_many : (xs : List ℕ) (n : ℕ) → ((x : ℕ) → x < n → Contains xs x) → n ≤ length xs
apart_many xs n each = le-length_from_below xs n (λ q low. list_any-from_Contains nat_eq_equiv q xs (each q low))
