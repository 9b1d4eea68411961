-- Lists in strict order that have the same elements are one list.
use Rattle.std.proofs.Common.{◌≡◌, ℕ, List, [], ◌∷◌, Bool, true, false, refl, sym, ◌∙◌, ap}
use Rattle.std.specs.Prelude.{◌||◌, IsPermutation}
use Rattle.std.specs.declared.cmp.Ordering.{Ordering}
use Rattle.std.specs.declared.cmp.Ordering.TheVariants.{Less, Equal, Greater}
use Rattle.std.specs.Cmp.{IsTotalOrder}
use Rattle.std.specs.Cmp.Lexicographic.{slice_cmp, nat_list_cmp_total, texts_ties}
use Rattle.std.specs.List.{list_any, AllByRecursion}
use Rattle.std.specs.List.Sorted.{IsStrictlySortedBy}
use Rattle.std.specs.Ordering.{nat_cmp, is_eq, ordering_reverse}
use Rattle.std.proofs.lemmas.List.Sorted.{list_any-IsPermutation}
use Rattle.std.proofs.lemmas.Map.Keys.{sorted_head, sorted_tail}
use Rattle.std.proofs.lemmas.Slice.Eq.{bytes_eq-Decides}

abbrev has : {K : Type 0} → (K → K → Ordering) → K → List K → Bool
has R x ys = list_any (λ z. is_eq (R x z)) ys

level : (r : Ordering) → r ≡ ordering_reverse r → r ≡ Equal
level Less e = cc
level Equal e = refl
level Greater e = cc

itself : {K : Type 0} {R : K → K → Ordering} → IsTotalOrder R → (x : K) → R x x ≡ Equal
itself {R = R} o x = level (R x x) (o.antisymm x x)

none_above : {K : Type 0} (R : K → K → Ordering) (x : K) (ys : List K) → AllByRecursion (λ z. R x z ≡ Less) ys → has R x ys ≡ false
none_above R x [] all = refl
none_above R x (y ∷ ys) all = ap (λ (r : Ordering). is_eq r || has R x ys) all.0 ∙ none_above R x ys all.1

below_all : {K : Type 0} {R : K → K → Ordering} → IsTotalOrder R → (x y : K) (ys : List K) → R x y ≡ Less → AllByRecursion (λ z. R y z ≡ Less) ys → AllByRecursion (λ z. R x z ≡ Less) ys
below_all o x y [] less all = tt
below_all o x y (z ∷ zs) less all = (o.trans x y z less all.0, below_all o x y zs less all.1)

clash : (r : Bool) → r ≡ true → r ≡ false → ⊥
clash r is isnt = cc

-- an element below the first one is not there
not_there : {K : Type 0} {R : K → K → Ordering} → IsTotalOrder R → (x y : K) (xs ys : List K) → R x y ≡ Less → AllByRecursion (λ z. R y z ≡ Less) ys → has R x (x ∷ xs) ≡ has R x (y ∷ ys) → ⊥
not_there {R = R} o x y xs ys less all same =
    let there : has R x (x ∷ xs) ≡ true = ap (λ (r : Ordering). is_eq r || has R x xs) (itself o x) in
    let missing : has R x (y ∷ ys) ≡ false = none_above R x (y ∷ ys) (less, below_all o x y ys less all) in
    clash (has R x (x ∷ xs)) there (same ∙ missing)

-- both rests have it, or neither
rest_has : (b p q : Bool) → (b || p) ≡ (b || q) → (b ≡ true → p ≡ q) → p ≡ q
rest_has true p q same rest = rest refl
rest_has false p q same rest = same

equal_is : (r : Ordering) → is_eq r ≡ true → r ≡ Equal
equal_is Less e = cc
equal_is Equal e = refl
equal_is Greater e = cc

-- the rests have the same elements
same_rests : {K : Type 0} {R : K → K → Ordering} → ((x y : K) → R x y ≡ Equal → x ≡ y) → (x y : K) (xs ys : List K) → x ≡ y → AllByRecursion (λ z. R x z ≡ Less) xs → AllByRecursion (λ z. R y z ≡ Less) ys
    → ((z : K) → has R z (x ∷ xs) ≡ has R z (y ∷ ys)) → (z : K) → has R z xs ≡ has R z ys
same_rests {R = R} ties x y xs ys e hx hy same z =
    rest_has (is_eq (R z x)) (has R z xs) (has R z ys) (same z ∙ ap (λ w. is_eq (R z w) || has R z ys) (sym e))
    (λ t. let zx = ties z x (equal_is (R z x) t) in ap (λ w. has R w xs) zx ∙ none_above R x xs hx ∙ sym (none_above R y ys hy) ∙ ap (λ w. has R w ys) (sym e ∙ sym zx))

-- the first elements are one
same_first : {K : Type 0} {R : K → K → Ordering} → IsTotalOrder R → ((x y : K) → R x y ≡ Equal → x ≡ y) → (x y : K) (xs ys : List K) (r : Ordering) → R x y ≡ r → AllByRecursion (λ z. R x z ≡ Less) xs → AllByRecursion (λ z. R y z ≡ Less) ys
    → ((z : K) → has R z (x ∷ xs) ≡ has R z (y ∷ ys)) → x ≡ y
same_first o ties x y xs ys Less e hx hy same = absurd (not_there o x y xs ys e hy (same x))
same_first o ties x y xs ys Equal e hx hy same = ties x y e
same_first o ties x y xs ys Greater e hx hy same = absurd (not_there o y x ys xs (o.antisymm y x ∙ ap ordering_reverse e) hx (sym (same y)))

same_sorted : {K : Type 0} {R : K → K → Ordering} → IsTotalOrder R → ((x y : K) → R x y ≡ Equal → x ≡ y) → (xs ys : List K) → IsStrictlySortedBy R xs → IsStrictlySortedBy R ys → ((z : K) → has R z xs ≡ has R z ys) → xs ≡ ys
same_sorted o ties [] [] sx sy same = refl
same_sorted {R = R} o ties [] (y ∷ ys) sx sy same =
    absurd (clash (has R y (y ∷ ys)) (ap (λ (r : Ordering). is_eq r || has R y ys) (itself o y)) (sym (same y)))
same_sorted {R = R} o ties (x ∷ xs) [] sx sy same =
    absurd (clash (has R x (x ∷ xs)) (ap (λ (r : Ordering). is_eq r || has R x xs) (itself o x)) (same x))
same_sorted {R = R} o ties (x ∷ xs) (y ∷ ys) sx sy same =
    let hx = sorted_head R x xs sx in
    let hy = sorted_head R y ys sy in
    let first : x ≡ y = same_first o ties x y xs ys (R x y) refl hx hy same in
    let rest : xs ≡ ys = same_sorted o ties xs ys (sorted_tail R x xs sx) (sorted_tail R y ys sy) (same_rests ties x y xs ys first hx hy same) in
    ap (λ w. w ∷ xs) first ∙ ap (λ ws. y ∷ ws) rest

name_ties : (x y : List ℕ) → slice_cmp nat_cmp x y ≡ Equal → x ≡ y
name_ties x y e = (bytes_eq-Decides x y).0 (texts_ties x y ∙ ap is_eq e)

-- names in strict order are told by which names there are
pub one_order : (all xs ys : List (List ℕ)) → IsPermutation all xs → IsPermutation all ys → IsStrictlySortedBy (slice_cmp nat_cmp) xs → IsStrictlySortedBy (slice_cmp nat_cmp) ys → xs ≡ ys
one_order all xs ys px py sx sy =
    same_sorted nat_list_cmp_total name_ties xs ys sx sy (λ z. sym (list_any-IsPermutation (λ w. is_eq (slice_cmp nat_cmp z w)) all xs px) ∙ list_any-IsPermutation (λ w. is_eq (slice_cmp nat_cmp z w)) all ys py)
