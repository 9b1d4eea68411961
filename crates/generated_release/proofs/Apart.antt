-- The names of the generated files differ, and none is that of a manifest.
use Rattle.std.proofs.Common.{◌≡◌, ◌+◌, ◌*◌, ◌/◌, ◌%◌, ◌<◌, ◌++◌, zero, suc, ℕ, Bool, true, false, not, List, [], ◌∷◌, None, codes, get_or, refl, ap, ◌∙◌, arith}
use Rattle.std.specs.Prelude.{◌||◌, find, option_map}
use Rattle.std.specs.Cmp.Lexicographic.{nat_list_eq_equiv}
use Rattle.std.specs.List.{list_any}
use Rattle.std.specs.Str.{bytes_eq}
use Rattle.std.proofs.lemmas.Bool.{and_from, false_from_ne_true}
use Rattle.std.proofs.lemmas.List.{append_cancel_left}
use Rattle.std.proofs.lemmas.List.Folds.{list_any-append}
use Rattle.std.proofs.lemmas.Slice.Eq.{bytes_eq-Decides}
use Rattle.folders.specs.declared.folder.Held.{Held}
use Rattle.folders.specs.Files.{distinct, file_in, is_named}
use Rattle.folders.proofs.PutFiles.{distinct_first, distinct_rest}
use Rattle.generated_release.specs.declared.release.GeneratedRelease.{GeneratedRelease}
use Rattle.generated_release.specs.declared.release.GeneratedRelease.TheVariants.{One, Two, Three}
use Rattle.generated_release.specs.Files.{file_below, file_name, files_to}
use Rattle.generated_release.specs.Options.{application_at, deployment_at}

abbrev front : List ℕ
front = codes "in/"

-- ---- numbers by their digits

digits_are : (n : ℕ) → n ≡ 100 * (n / 100) + (10 * (n / 10 % 10) + n % 10)
digits_are n = omega arith

same_number : (m n : ℕ) → file_name m ≡ file_name n → m ≡ n
same_number m n same =
    let first : 48 + m / 100 ≡ 48 + n / 100 = ap (λ (t : List ℕ). get_or t 1 0) same in
    let second : 48 + m / 10 % 10 ≡ 48 + n / 10 % 10 = ap (λ (t : List ℕ). get_or t 2 0) same in
    let third : 48 + m % 10 ≡ 48 + n % 10 = ap (λ (t : List ℕ). get_or t 3 0) same in
    omega (arith, digits_are m, digits_are n)

names_differ : (k n : ℕ) → k < n → bytes_eq (front ++ file_name k) (front ++ file_name n) ≡ false
names_differ k n less =
    false_from_ne_true (bytes_eq (front ++ file_name k) (front ++ file_name n)) (λ same.
    let named = append_cancel_left front (file_name k) (file_name n) ((bytes_eq-Decides (front ++ file_name k) (front ++ file_name n)).0 same) in
    let number : k ≡ n = same_number k n named in
    omega arith)

-- ---- names that differ

neither : (a b : Bool) → a ≡ false → b ≡ false → (a || b) ≡ false
neither true b first second = absurd cc
neither false b first second = second

record None2 (a b : Bool) : Type 0 where
  first : a ≡ false
  second : b ≡ false

none_of : (a b : Bool) → (a || b) ≡ false → None2 a b
none_of true b is = absurd cc
none_of false b is = record { first = refl; second = is }

distinct_last : (files : List Held) (file : Held) → distinct files ≡ true → list_any (is_named file.name) files ≡ false → distinct (files ++ file ∷ []) ≡ true
distinct_last [] file differ none = refl
distinct_last (f ∷ files) file differ none =
    let parts = none_of (is_named file.name f) (list_any (is_named file.name) files) none in
    let other : is_named f.name file ≡ false = nat_list_eq_equiv.symm file.name f.name ∙ parts.first in
    let apart : list_any (is_named f.name) (files ++ file ∷ []) ≡ false =
    list_any-append (is_named f.name) files (file ∷ []) ∙ neither (list_any (is_named f.name) files) (list_any (is_named f.name) (file ∷ [])) (distinct_first f files differ) (neither (is_named f.name file) false other refl) in
    and_from (not (list_any (is_named f.name) (files ++ file ∷ []))) (distinct (files ++ file ∷ [])) (ap not apart)
    (distinct_last files file (distinct_rest f files differ) parts.second)

-- no file of a name stands among the first ones
none_named : (seed version n : ℕ) (name : List ℕ) → ((k : ℕ) → k < n → bytes_eq (front ++ file_name k) name ≡ false) → list_any (is_named name) (files_to front seed version n) ≡ false
unfolding files_to
none_named seed version zero name differ = refl
none_named seed version (suc n) name differ =
    let before = files_to front seed version n in
    let last = file_below front seed version n in
    list_any-append (is_named name) before (last ∷ []) ∙ neither (list_any (is_named name) before) (list_any (is_named name) (last ∷ []))
    (none_named seed version n name (λ k less. differ k (omega arith)))
    (neither (is_named name last) false (differ n (omega arith)) refl)

pub all_differ : (seed version n : ℕ) → distinct (files_to front seed version n) ≡ true
unfolding files_to
all_differ seed version zero = refl
all_differ seed version (suc n) =
    distinct_last (files_to front seed version n) (file_below front seed version n) (all_differ seed version n)
    (none_named seed version n (front ++ file_name n) (λ k less. names_differ k n less))

-- ---- the manifests stand apart

none_found : (p : Held → Bool) (files : List Held) → list_any p files ≡ false → find p files ≡ None
none_found p [] none = refl
none_found p (f ∷ files) none =
    let parts = none_of (p f) (list_any p files) none in
    rw (parts.first) (none_found p files parts.second)

free : (seed version n : ℕ) (name : List ℕ) → ((k : ℕ) → bytes_eq (front ++ file_name k) name ≡ false) → file_in name (files_to front seed version n) ≡ None
free seed version n name differ =
    ap (option_map (λ (f : Held). f.bytes)) (none_found (is_named name) (files_to front seed version n) (none_named seed version n name (λ k less. differ k)))

pub deployment_free : (release : GeneratedRelease) (seed version n : ℕ) → file_in (deployment_at release) (files_to front seed version n) ≡ None
deployment_free One seed version n = free seed version n (deployment_at One) (λ k. refl)
deployment_free Two seed version n = free seed version n (deployment_at Two) (λ k. refl)
deployment_free Three seed version n = free seed version n (deployment_at Three) (λ k. refl)

pub application_free : (release : GeneratedRelease) (seed version n : ℕ) → file_in (application_at release) (files_to front seed version n) ≡ None
application_free One seed version n = free seed version n (application_at One) (λ k. refl)
application_free Two seed version n = free seed version n (application_at Two) (λ k. refl)
application_free Three seed version n = free seed version n (application_at Three) (λ k. refl)
