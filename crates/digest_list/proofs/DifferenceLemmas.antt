-- The difference of bytes, by what was found of the list.
use Rattle.std.proofs.Common.{◌≡◌, ◌≢◌, ◌∙◌, ℕ, ◌<◌, Bool, true, not, List, length, Some, None, position, find, sym, subst, arith, inl, inr, slice_index_or}
use Rattle.std.specs.Str.{bytes_eq}
use Rattle.std.specs.List.{slice_get}
use Rattle.std.proofs.lemmas.Slice.Eq.{bytes_eq-Decides}
use Rattle.std.proofs.lemmas.Bool.{eq-eqb, ne_eqb}
use Rattle.std.proofs.lemmas.List.Quantifiers.{position-Some}
use Rattle.std.proofs.lemmas.Option.{cond_some, slice_get_cases}
use borrow.Author.Tests.{ltb-true}
use Rattle.digest_list.specs.declared.digest.Digest.{Digest}
use Rattle.digest_list.specs.declared.difference.Difference.TheVariants.{Size}
use Rattle.digest_list.specs.declared.hashers.Sums.{Sums}
use Rattle.digest_list.specs.Difference.{difference_of, is_other, other_digest}
use Rattle.digest_list.specs.Hashers.{HaveSums, IsListed, sum_of}
use Rattle.digest_list.specs.Matches.{hash_of}
use Rattle.digest_list.specs.Wrong.{is_wrong}
use Rattle.digest_list.proofs.MatchLemmas.{find-position, find-wrong, listed_at, position_none}

pub difference_of-size : (list : List Digest) (size : ℕ) (m : List ℕ) → length m ≢ size → difference_of list size m ≡ Some (Size size (length m))
unfolding difference_of
difference_of-size list size m other = rw (ne_eqb _ _ other)

pub difference_of-none : (list : List Digest) (size : ℕ) (m : List ℕ) → length m ≡ size → find (is_other m) list ≡ None → difference_of list size m ≡ None
unfolding difference_of
difference_of-none list size m sized none = rw (eq-eqb _ _ sized, none)

pub difference_of-found : (list : List Digest) (size : ℕ) (m : List ℕ) (d : Digest) → length m ≡ size → find (is_other m) list ≡ Some d
    → difference_of list size m ≡ Some (other_digest m d)
unfolding difference_of
difference_of-found list size m d sized found = rw (eq-eqb _ _ sized, found)

-- the digest at a place that was found
pub record IsAt (p : Digest → Bool) (ds : List Digest) (i : ℕ) (d : Digest) : Type 0 where
  pub at : slice_get ds i ≡ Some d
  pub within : i < length ds
  pub read : slice_index_or ds i d ≡ d
  pub passes : p d ≡ true

pub placed : (p : Digest → Bool) (ds : List Digest) (i : ℕ) → position p ds ≡ Some i → (d : Digest) × IsAt p ds i d
placed p ds i found =
    let parts = cond_some _ _ _ found in
    elim (slice_get_cases ds i).1 [
      | inl (d, within, got, is) ↦
          let passes = (position-Some p ds i d found).1 in
          (d, record { at = got; within = within; read = is; passes = rw is at passes })
      | inr (past, nothing) ↦ absurd (omega (arith, past, ltb-true _ _ parts.0, parts.1))
    ]

-- the digest that was made at that place is that of the bytes
pub sum_of-placed : (s : Sums) (list : List Digest) (m : List ℕ) (i : ℕ) (d : Digest) → HaveSums s list m → IsAt (is_wrong s) list i d
    → sum_of s d.algorithm ≡ hash_of d.algorithm m
sum_of-placed s list m i d have is =
    let P : Digest → Type 0 = λ e. IsListed list e.algorithm in
    have.sums d.algorithm (subst P is.read (listed_at list i d is.within))

pub find-placed : (s : Sums) (list : List Digest) (m : List ℕ) (i : ℕ) (d : Digest) → HaveSums s list m → position (is_wrong s) list ≡ Some i
    → IsAt (is_wrong s) list i d → find (is_other m) list ≡ Some d
find-placed s list m i d have found is =
    sym (find-wrong s list m have) ∙ (find-position (is_wrong s) list i found ∙ is.at)

-- a wrong digest is not the one that was made
pub distinct-placed : (s : Sums) (list : List Digest) (i : ℕ) (d : Digest) → IsAt (is_wrong s) list i d → d.value ≢ sum_of s d.algorithm
distinct-placed s list i d is same =
    let equal = (bytes_eq-Decides d.value (sum_of s d.algorithm)).1 same in
    let other : not (bytes_eq d.value (sum_of s d.algorithm)) ≡ true = is.passes in
    let contrary : not true ≡ true = rw equal at other in
    cc contrary

-- where no digest is wrong, none differs from that of the bytes
pub none_other : (s : Sums) (list : List Digest) (m : List ℕ) → HaveSums s list m → position (is_wrong s) list ≡ None → find (is_other m) list ≡ None
none_other s list m have none = sym (find-wrong s list m have) ∙ position_none (is_wrong s) list none
