-- Names that are sorted, and those among them that stand twice.
use Rattle.std.proofs.Common.{◌≡◌, ℕ, ◌+◌, ◌<◌, List, [], ◌∷◌, Bool, true, false, cond, get_or, refl, sym, subst, ap, ◌∙◌, arith}
use Rattle.std.specs.Prelude.{IsPermutation, IsSorted}
use Rattle.std.specs.declared.cmp.Ordering.{Ordering}
use Rattle.std.specs.declared.cmp.Ordering.TheVariants.{Less}
use Rattle.std.specs.Cmp.Lexicographic.{slice_cmp, nat_list_eq_equiv, nat_list_cmp_total, texts_ties}
use Rattle.std.specs.List.{dedup, dedup_from, list_any, AllByRecursion, IsDistinct}
use Rattle.std.specs.List.Sorted.{IsStrictlySortedBy}
use Rattle.std.specs.Ordering.{nat_cmp, is_lt, ordering_reverse}
use Rattle.std.specs.Str.{bytes_eq}
use Rattle.std.proofs.lemmas.Grind.{common_steps}
use Rattle.std.proofs.lemmas.List.Kept.{IsStrictlySortedBy-dedup}
use Rattle.std.proofs.lemmas.List.Sorted.{IsPermutation-trans}
use Rattle.std.proofs.lemmas.Map.Keys.{IsDistinct-cons, IsDistinct-head, IsDistinct-tail, IsDistinct-IsPermutation, Less-from_sorted}
use Rattle.folders.specs.declared.folder.Held.{Held}
use Rattle.folders.specs.Files.{is_named, names_of, distinct, IsNames, HasOneList}
use Rattle.folders.proofs.PutFiles.{distinct_first, distinct_rest}
use Rattle.folders.proofs.NameLists.{names_exist}
use Rattle.folders.proofs.NameOrder.{one_order}

-- names that differ from the one before them are kept
kept_from : (k : List ℕ) (xs : List (List ℕ)) → IsDistinct bytes_eq (k ∷ xs) → dedup_from bytes_eq k xs ≡ k ∷ xs
kept_from k [] differ = refl
kept_from k (x ∷ xs) differ =
    let apart : bytes_eq x k ≡ false = nat_list_eq_equiv.symm x k ∙ (IsDistinct-head bytes_eq k (x ∷ xs) differ).0 in
    ap (λ (b : Bool). cond b (dedup_from bytes_eq k xs) (k ∷ dedup_from bytes_eq x xs)) apart
    ∙ ap (λ (l : List (List ℕ)). k ∷ l) (kept_from x xs (IsDistinct-tail bytes_eq k (x ∷ xs) differ))

kept : (xs : List (List ℕ)) → IsDistinct bytes_eq xs → dedup bytes_eq xs ≡ xs
kept [] differ = refl
kept (x ∷ xs) differ = kept_from x xs differ

-- of names that differ all are kept
pub all_kept : (names sorted : List (List ℕ)) → IsDistinct bytes_eq names → IsPermutation names sorted → IsPermutation names (dedup bytes_eq sorted)
all_kept names sorted differ moved =
    let apart = IsDistinct-IsPermutation bytes_eq nat_list_eq_equiv.symm names sorted moved differ in
    subst (IsPermutation names) (sym (kept sorted apart)) moved

-- ---- the names of the files in a folder

others_named : (name : List ℕ) (files : List Held) → list_any (is_named name) files ≡ false → AllByRecursion (λ other. bytes_eq name other ≡ false) (names_of files)
others_named name [] none = tt
others_named name (f ∷ files) none =
    let first : bytes_eq f.name name ≡ false = grind (arith, common_steps) in
    let rest : list_any (is_named name) files ≡ false = grind (arith, common_steps) in
    (nat_list_eq_equiv.symm name f.name ∙ first, others_named name files rest)

no_names : IsDistinct bytes_eq []
unfolding IsDistinct
no_names = tt

-- they differ
pub names_distinct : (files : List Held) → distinct files ≡ true → IsDistinct bytes_eq (names_of files)
names_distinct [] differ = no_names
names_distinct (f ∷ files) differ =
    IsDistinct-cons bytes_eq f.name (names_of files) (others_named f.name files (distinct_first f files differ)) (names_distinct files (distinct_rest f files differ))

above_is : (r : Ordering) → r ≡ Less → is_lt (ordering_reverse r) ≡ false
above_is r e = ap (λ (s : Ordering). is_lt (ordering_reverse s)) e

strict_sorted : (names : List (List ℕ)) → IsStrictlySortedBy (slice_cmp nat_cmp) names → IsSorted (slice_cmp nat_cmp) names
strict_sorted names strict k d low within =
    let next : k < k + 1 = omega arith in
    ap is_lt (nat_list_cmp_total.antisymm (get_or names (k + 1) d) (get_or names k d)) ∙ above_is (slice_cmp nat_cmp (get_or names k d) (get_or names (k + 1) d)) (Less-from_sorted (slice_cmp nat_cmp) names k (k + 1) d strict next within)

-- in strict order they are the names of the files
pub names_in_order : (files : List Held) (names ordered : List (List ℕ)) → distinct files ≡ true → IsNames files names → (IsDistinct bytes_eq names → IsPermutation names ordered) → IsStrictlySortedBy (slice_cmp nat_cmp) ordered → IsNames files ordered
names_in_order files names ordered differ are all strict =
    let apart = IsDistinct-IsPermutation bytes_eq nat_list_eq_equiv.symm (names_of files) names are.exact (names_distinct files differ) in
    record { exact = IsPermutation-trans (names_of files) names ordered are.exact (all apart); ordered = strict_sorted ordered strict }

sorted_names : (files : List Held) (names : List (List ℕ)) → distinct files ≡ true → IsNames files names → IsStrictlySortedBy (slice_cmp nat_cmp) names
sorted_names files names differ are =
    let apart = IsDistinct-IsPermutation bytes_eq nat_list_eq_equiv.symm (names_of files) names are.exact (names_distinct files differ) in
    subst (IsStrictlySortedBy (slice_cmp nat_cmp)) (kept names apart) (IsStrictlySortedBy-dedup nat_list_cmp_total texts_ties names are.ordered)

-- a folder has one list of names
pub one_list : (files : List Held) (names others : List (List ℕ)) → distinct files ≡ true → IsNames files names → IsNames files others → names ≡ others
one_list files names others differ are also =
    one_order (names_of files) names others are.exact also.exact (sorted_names files names differ are) (sorted_names files others differ also)

pub has_one_list : (files : List Held) → distinct files ≡ true → HasOneList files
has_one_list files differ =
    let list = names_exist files in
    record { names = list.0; are = list.1; only = λ others also. one_list files others list.0 differ also list.1 }
