-- The names of files have a list in byte order.
use Rattle.std.proofs.Common.{◌≡◌, ℕ, ◌+◌, ◌<◌, List, [], ◌∷◌, Bool, true, false, cond, length, get_or, zero, suc, refl, ◌∙◌, ap, add-one, arith}
use Rattle.std.specs.Prelude.{IsPermutation, IsSorted}
use Rattle.std.specs.declared.cmp.Ordering.{Ordering}
use Rattle.std.specs.declared.cmp.Ordering.TheVariants.{Less, Equal, Greater}
use Rattle.std.specs.Cmp.Lexicographic.{slice_cmp, nat_list_cmp_total}
use Rattle.std.specs.Ordering.{nat_cmp, is_lt, ordering_reverse}
use Rattle.std.proofs.lemmas.List.Sorted.{IsPermutation-refl, IsPermutation-cons, IsPermutation-middle, IsPermutation-sym, IsPermutation-trans}
use Rattle.folders.specs.declared.folder.Held.{Held}
use Rattle.folders.specs.Files.{names_of, IsNames}

-- the first name is below the second
abbrev below : List ℕ → List ℕ → Bool
below x y = is_lt (slice_cmp nat_cmp x y)

-- the name at its place among others
abbrev placed : List ℕ → List (List ℕ) → List (List ℕ)
placed x [] = x ∷ []
placed x (y ∷ ys) = cond (below y x) (y ∷ placed x ys) (x ∷ y ∷ ys)

abbrev in_order : List (List ℕ) → List (List ℕ)
in_order [] = []
in_order (x ∷ xs) = placed x (in_order xs)

-- ---- the same names

moved_at : (b : Bool) (x y : List ℕ) (ys : List (List ℕ)) → IsPermutation (x ∷ ys) (placed x ys)
    → IsPermutation (x ∷ y ∷ ys) (cond b (y ∷ placed x ys) (x ∷ y ∷ ys))
moved_at true x y ys rest =
    IsPermutation-trans (x ∷ y ∷ ys) (y ∷ x ∷ ys) (y ∷ placed x ys)
    (IsPermutation-sym (y ∷ x ∷ ys) (x ∷ y ∷ ys) (IsPermutation-middle (y ∷ []) x ys))
    (IsPermutation-cons y (x ∷ ys) (placed x ys) rest)
moved_at false x y ys rest = IsPermutation-refl (x ∷ y ∷ ys)

moved : (x : List ℕ) (ys : List (List ℕ)) → IsPermutation (x ∷ ys) (placed x ys)
moved x [] = IsPermutation-refl (x ∷ [])
moved x (y ∷ ys) = moved_at (below y x) x y ys (moved x ys)

same_names : (xs : List (List ℕ)) → IsPermutation xs (in_order xs)
same_names [] = IsPermutation-refl []
same_names (x ∷ xs) =
    IsPermutation-trans (x ∷ xs) (x ∷ in_order xs) (placed x (in_order xs))
    (IsPermutation-cons x xs (in_order xs) (same_names xs))
    (moved x (in_order xs))

-- ---- in order

-- no name is below the one before it
abbrev Ascends : List (List ℕ) → Type 0
Ascends [] = Unit {0}
Ascends (x ∷ []) = Unit {0}
Ascends (x ∷ y ∷ ys) = (below y x ≡ false) × Ascends (y ∷ ys)

above : (r : Ordering) → is_lt r ≡ true → is_lt (ordering_reverse r) ≡ false
above Less e = refl
above Equal e = cc
above Greater e = cc

-- of two names one is not below the other
not_below : (x y : List ℕ) → below x y ≡ true → below y x ≡ false
not_below x y e = ap is_lt (nat_list_cmp_total.antisymm y x) ∙ above (slice_cmp nat_cmp x y) e

-- a name that is placed behind one that it is not below
behind_at : (b : Bool) (y x z : List ℕ) (zs : List (List ℕ)) → below z x ≡ b → below x y ≡ false → (below z y ≡ false) × Ascends (z ∷ zs)
    → (below x z ≡ false → Ascends (z ∷ zs) → Ascends (z ∷ placed x zs))
    → Ascends (y ∷ cond b (z ∷ placed x zs) (x ∷ z ∷ zs))
behind_at true y x z zs is high all rest = (all.0, rest (not_below z x is) all.1)
behind_at false y x z zs is high all rest = (high, (is, all.1))

behind : (y x : List ℕ) (ys : List (List ℕ)) → below x y ≡ false → Ascends (y ∷ ys) → Ascends (y ∷ placed x ys)
behind y x [] high all = (high, tt)
behind y x (z ∷ zs) high all = behind_at (below z x) y x z zs refl high all (behind z x zs)

placed_at : (b : Bool) (x y : List ℕ) (ys : List (List ℕ)) → below y x ≡ b → Ascends (y ∷ ys) → Ascends (cond b (y ∷ placed x ys) (x ∷ y ∷ ys))
placed_at true x y ys is all = behind y x ys (not_below y x is) all
placed_at false x y ys is all = (is, all)

placed_ascends : (x : List ℕ) (ys : List (List ℕ)) → Ascends ys → Ascends (placed x ys)
placed_ascends x [] all = tt
placed_ascends x (y ∷ ys) all = placed_at (below y x) x y ys refl all

ascends : (xs : List (List ℕ)) → Ascends (in_order xs)
ascends [] = tt
ascends (x ∷ xs) = placed_ascends x (in_order xs) (ascends xs)

sorted_at : (xs : List (List ℕ)) → Ascends xs → (k : ℕ) (d : List ℕ) → k + 1 < length xs → below (get_or xs (k + 1) d) (get_or xs k d) ≡ false
sorted_at [] all k d within = absurd (omega arith)
sorted_at (x ∷ []) all k d within = absurd (omega arith)
sorted_at (x ∷ y ∷ ys) all zero d within = all.0
sorted_at (x ∷ y ∷ ys) all (suc k) d within =
    let rest = rw add-one at (sorted_at (y ∷ ys) all.1 k d (omega arith)) in
    rw add-one rest

sorted : (xs : List (List ℕ)) → Ascends xs → IsSorted (slice_cmp nat_cmp) xs
sorted xs all k d low within = sorted_at xs all k d within

pub names_exist : (files : List Held) → (names : List (List ℕ)) × IsNames files names
names_exist files =
    (in_order (names_of files), record { exact = same_names (names_of files); ordered = sorted (in_order (names_of files)) (ascends (names_of files)) })
