-- The first digest that was found wrong is the first difference, and where none was the bytes match.
use Rattle.std.proofs.Common.{◌≡◌, ◌≢◌, ◌↔◌, ◌∙◌, ℕ, suc, ◌<◌, ◌≤◌, Bool, true, false, not, cond, List, [], ◌∷◌, length, Option, Some, None, All, is_some, find, position, refl, sym, ap, arith, inl, inr, slice_index_or}
use Rattle.std.specs.Str.{bytes_eq}
use Rattle.std.specs.List.{position_or_len, slice_get}
use Rattle.std.proofs.lemmas.Slice.Eq.{bytes_eq-Decides}
use Rattle.std.proofs.lemmas.Bool.{ltb-false}
use borrow.Author.Tests.{ltb-true}
use Rattle.std.proofs.lemmas.List.{get_or_default}
use Rattle.std.proofs.lemmas.List.Elements.{All-cons, All-nil}
use Rattle.std.proofs.lemmas.List.Folds.{find_at}
use Rattle.std.proofs.lemmas.Option.{cond_some, slice_get_cases, slice_get_past}
use Rattle.digest_list.specs.declared.digest.Digest.{Digest}
use Rattle.digest_list.specs.declared.hashers.Sums.{Sums}
use Rattle.digest_list.specs.Difference.{is_other}
use Rattle.digest_list.specs.Hashers.{HaveSums, IsListed}
use Rattle.digest_list.specs.Matches.{Matches}
use Rattle.digest_list.specs.Wrong.{is_wrong}

-- P holds of the first, and of the rest
All-head : (P : Digest → Type 0) (d : Digest) (ds : List Digest) → All P (d ∷ ds) → P d
All-head P d ds all = all 0 d (omega arith)

All-tail : (P : Digest → Type 0) (d : Digest) (ds : List Digest) → All P (d ∷ ds) → All P ds
All-tail P d ds all k e within = all (suc k) e (omega arith)

-- a test that agrees on each element finds the same
find_agree : (p q : Digest → Bool) (ds : List Digest) → All (λ d. p d ≡ q d) ds → find p ds ≡ find q ds
find_agree p q [] agree = refl
find_agree p q (d ∷ ds) agree =
    let here : p d ≡ q d = All-head (λ e. p e ≡ q e) d ds agree in
    rw (here, find_agree p q ds (All-tail (λ e. p e ≡ q e) d ds agree))

-- the digests of a list are of listed algorithms
pub listed_at : (list : List Digest) (k : ℕ) (d : Digest) → k < length list → IsListed list (slice_index_or list k d).algorithm
listed_at list k d within =
    let here = slice_index_or list k d in
    (k, here, within, get_or_default list k here d within, refl)

sums_agree : (s : Sums) (list : List Digest) (m : List ℕ) → HaveSums s list m → All (λ d. is_wrong s d ≡ is_other m d) list
sums_agree s list m have k d within =
    ap (λ (v : List ℕ). not (bytes_eq (slice_index_or list k d).value v)) (have.sums _ (listed_at list k d within))

-- what was made finds what the bytes have
pub find-wrong : (s : Sums) (list : List Digest) (m : List ℕ) → HaveSums s list m → find (is_wrong s) list ≡ find (is_other m) list
find-wrong s list m have = find_agree (is_wrong s) (is_other m) list (sums_agree s list m have)

pub find-position : (p : Digest → Bool) (ds : List Digest) (i : ℕ) → position p ds ≡ Some i → find p ds ≡ slice_get ds i
find-position p ds i at = find_at p ds ∙ ap (slice_get ds) (cond_some _ _ _ at).1

cond_none : (b : Bool) (d : Digest) (o : Option Digest) → cond b (Some d) o ≡ None → (b ≡ false) × (o ≡ None)
cond_none true d o e = cc e
cond_none false d o e = (refl, e)

-- nothing is found exactly where nothing passes
find-none : (p : Digest → Bool) (ds : List Digest) → find p ds ≡ None → All (λ d. p d ≡ false) ds
find-none p [] none = All-nil (λ d. p d ≡ false)
find-none p (d ∷ ds) none =
    let parts = cond_none (p d) d (find p ds) none in
    All-cons (λ e. p e ≡ false) d ds parts.0 (find-none p ds parts.1)

find-all : (p : Digest → Bool) (ds : List Digest) → All (λ d. p d ≡ false) ds → find p ds ≡ None
find-all p [] all = refl
find-all p (d ∷ ds) all =
    let here : p d ≡ false = All-head (λ e. p e ≡ false) d ds all in
    rw (here, find-all p ds (All-tail (λ e. p e ≡ false) d ds all))

cond_no_place : (b : Bool) (i : ℕ) → cond b (Some i) None ≡ None → b ≡ false
cond_no_place true i e = cc e
cond_no_place false i e = refl

-- a place is found where something is
pub position_none : (p : Digest → Bool) (ds : List Digest) → position p ds ≡ None → find p ds ≡ None
position_none p ds none =
    let past = cond_no_place _ _ none in
    find_at p ds ∙ slice_get_past ds (position_or_len p ds) (ltb-false _ _ past)

place_none : (p : Digest → Bool) (ds : List Digest) (o : Option ℕ) → position p ds ≡ o → find p ds ≡ None → o ≡ None
place_none p ds None at none = refl
place_none p ds (Some i) at none =
    let within = cond_some _ _ _ at in
    elim (slice_get_cases ds i).1 [
      | inl (d, lt, got, is) ↦ cc (find-position p ds i at, got, none)
      | inr (past, nothing) ↦ absurd (omega (arith, past, ltb-true _ _ within.0, within.1))
    ]

not_false : (b : Bool) → not b ≡ false → b ≡ true
not_false true e = refl
not_false false e = cc e

-- nothing differs exactly where the bytes match
pub Matches-none : (list : List Digest) (size : ℕ) (m : List ℕ) → length m ≡ size → list ≢ [] → find (is_other m) list ≡ None → Matches list size m
Matches-none list size m sized some none = record {
  sized = sized;
  some = some;
  digests = λ k d within. (bytes_eq-Decides _ _).0 (not_false _ (find-none (is_other m) list none k d within));
}

pub none-Matches : (list : List Digest) (size : ℕ) (m : List ℕ) → Matches list size m → find (is_other m) list ≡ None
none-Matches list size m is =
    find-all (is_other m) list (λ k d within. ap not ((bytes_eq-Decides _ _).1 (is.digests k d within)))

-- no wrong digest was found exactly where the bytes match
pub Matches-decided : (s : Sums) (list : List Digest) (size : ℕ) (m : List ℕ) → HaveSums s list m → length m ≡ size → list ≢ []
    → (position (is_wrong s) list ≡ None) ↔ Matches list size m
Matches-decided s list size m have sized some = (
  λ none. Matches-none list size m sized some (sym (find-wrong s list m have) ∙ position_none (is_wrong s) list none),
  λ is. place_none (is_wrong s) list _ refl (find-wrong s list m have ∙ none-Matches list size m is),
)

pub nonempty : (list : List Digest) → 1 ≤ length list → list ≢ []
nonempty list some none = absurd (omega (arith, ap length none))

-- what `is_none` answers
pub told_none : (o : Option ℕ) (b : Bool) → is_some o ≡ not b → (b ≡ true) ↔ (o ≡ None)
told_none None true e = (λ _. refl, λ _. refl)
told_none None false e = cc e
told_none (Some i) true e = cc e
told_none (Some i) false e = (λ h. cc h, λ h. cc h)
