-- What is written for a difference is read again, and nothing else is.
use Rattle.std.proofs.Common.{◌≡◌, ℕ, true, cond, List, [], ◌∷◌, codes, Option, Some, None, refl, sym, ap, ◌∙◌, inl, inr}
use Rattle.std.specs.Str.{bytes_eq}
use Rattle.std.specs.List.{join_with_byte}
use Rattle.std.proofs.lemmas.Bool.{cases_Bool, cond-false, cond-true}
use Rattle.std.proofs.lemmas.List.Splits.{join_with_byte-slice_split}
use Rattle.small_types.specs.Cuts.{parts_between}
use Rattle.digest_list.specs.declared.algorithm.Algorithm.{Algorithm}
use Rattle.digest_list.specs.declared.algorithm.Algorithm.TheVariants.{Sha1, Sha256, Sha384, Sha512}
use Rattle.digest_list.specs.declared.difference.Difference.{Difference}
use Rattle.digest_list.specs.declared.difference.Difference.TheVariants.{Size, Digest}
use Rattle.digest_list.specs.Algorithm.{name_of, size_of}
use Rattle.audit_list.specs.Text.{IsDifference, cause_parts, cause_text}
use Rattle.audit_list.specs.Words.{algorithm_named, bytes_of, cause_of, digest_cause, digest_parts, number_of, size_cause, size_parts, values_cause}
use Rattle.audit_list.proofs.PlainTexts.{HasNo, IsPlain, no_colon, no_feed, no_space, plain_digits, plain_number}
use Rattle.audit_list.proofs.JoinedParts.{NoneHas, none_joined, parts_joined}
use Rattle.audit_list.proofs.ReadWords.{came_true, is_text, bytes_of-encode_lower, bytes_of-is, number_of-decimal, number_of-is}

-- ---- algorithms

named : (algorithm : Algorithm) → algorithm_named (name_of algorithm) ≡ Some algorithm
named Sha1 = refl
named Sha256 = refl
named Sha384 = refl
named Sha512 = refl

-- a name that is read is that of the algorithm
IsNamed : List ℕ → Option Algorithm → Type 0
IsNamed name read = (algorithm : Algorithm) → read ≡ Some algorithm → name_of algorithm ≡ name

is_this : (name : List ℕ) (this : Algorithm) (more : Option Algorithm) → IsNamed name more → IsNamed name (cond (bytes_eq name (name_of this)) (Some this) more)
unfolding IsNamed
is_this name this more others algorithm is = elim (cases_Bool (bytes_eq name (name_of this))) [
  | inl same ↦
      let read : Some this ≡ Some algorithm = sym (cond-true _ _ _ same) ∙ is in
      let it : this ≡ algorithm = cc in
      ap name_of (sym it) ∙ sym (is_text name (name_of this) same)
  | inr other ↦ others algorithm (sym (cond-false _ _ _ other) ∙ is)
]

no_more : (name : List ℕ) → IsNamed name None
unfolding IsNamed
no_more name algorithm is = absurd (let no = is in cc)

named-is : (name : List ℕ) (algorithm : Algorithm) → algorithm_named name ≡ Some algorithm → name_of algorithm ≡ name
unfolding IsNamed
named-is name =
    is_this name Sha1 _ (is_this name Sha256 _ (is_this name Sha384 _ (is_this name Sha512 None (no_more name))))

plain_name : (algorithm : Algorithm) → IsPlain (name_of algorithm)
plain_name Sha1 = record { each = refl }
plain_name Sha256 = record { each = refl }
plain_name Sha384 = record { each = refl }
plain_name Sha512 = record { each = refl }

-- ---- parts

parts_read : (difference : Difference) → IsDifference difference → cause_of (cause_parts difference) ≡ Some difference
parts_read (Size listed found) is = rw (number_of-decimal listed is.0, number_of-decimal found is.1) refl
parts_read (Digest algorithm listed found) is =
    rw (named algorithm, bytes_of-encode_lower algorithm listed is.0, bytes_of-encode_lower algorithm found is.1) refl

-- the parts are those of the difference, which has a text
pub record IsRead (difference : Difference) (parts : List (List ℕ)) : Type 0 where
  pub written : cause_parts difference ≡ parts
  pub is : IsDifference difference

size_is : (listed found : List ℕ) (a b : Option ℕ) (difference : Difference) → number_of listed ≡ a → number_of found ≡ b → size_cause a b ≡ Some difference
    → IsRead difference (codes "size" ∷ listed ∷ found ∷ [])
size_is listed found None b difference l f is = absurd (let no = is in cc)
size_is listed found (Some m) None difference l f is = absurd (let no = is in cc)
size_is listed found (Some m) (Some n) difference l f is =
    let it : Size m n ≡ difference = cc in
    let a = number_of-is listed m l in
    let b = number_of-is found n f in
    rw (← it) (record { written = rw (a.0, b.0) refl; is = (a.1, b.1) })

size_parts_are : (parts : List (List ℕ)) (difference : Difference) → size_parts parts ≡ Some difference → IsRead difference (codes "size" ∷ parts)
size_parts_are [] difference is = absurd (let no = is in cc)
size_parts_are (a ∷ []) difference is = absurd (let no = is in cc)
size_parts_are (listed ∷ found ∷ []) difference is = size_is listed found (number_of listed) (number_of found) difference refl refl is
size_parts_are (a ∷ b ∷ c ∷ more) difference is = absurd (let no = is in cc)

digest_is : (algorithm : Algorithm) (name listed found : List ℕ) (a b : Option (List ℕ)) (difference : Difference) → name_of algorithm ≡ name
    → bytes_of (size_of algorithm) listed ≡ a → bytes_of (size_of algorithm) found ≡ b → digest_cause algorithm a b ≡ Some difference
    → IsRead difference (codes "differs" ∷ name ∷ listed ∷ found ∷ [])
digest_is algorithm name listed found None b difference n l f is = absurd (let no = is in cc)
digest_is algorithm name listed found (Some v) None difference n l f is = absurd (let no = is in cc)
digest_is algorithm name listed found (Some v) (Some w) difference n l f is =
    let it : Digest algorithm v w ≡ difference = cc in
    let a = bytes_of-is algorithm listed v l in
    let b = bytes_of-is algorithm found w f in
    rw (← it) (record { written = rw (n, a.0, b.0) refl; is = (a.1, b.1) })

values_are : (read : Option Algorithm) (name listed found : List ℕ) (difference : Difference) → algorithm_named name ≡ read → values_cause read listed found ≡ Some difference
    → IsRead difference (codes "differs" ∷ name ∷ listed ∷ found ∷ [])
values_are None name listed found difference n is = absurd (let no = is in cc)
values_are (Some algorithm) name listed found difference n is =
    digest_is algorithm name listed found (bytes_of (size_of algorithm) listed) (bytes_of (size_of algorithm) found) difference (named-is name algorithm n) refl refl is

digest_parts_are : (parts : List (List ℕ)) (difference : Difference) → digest_parts parts ≡ Some difference → IsRead difference (codes "differs" ∷ parts)
digest_parts_are [] difference is = absurd (let no = is in cc)
digest_parts_are (a ∷ []) difference is = absurd (let no = is in cc)
digest_parts_are (a ∷ b ∷ []) difference is = absurd (let no = is in cc)
digest_parts_are (name ∷ listed ∷ found ∷ []) difference is = values_are (algorithm_named name) name listed found difference refl is
digest_parts_are (a ∷ b ∷ c ∷ d ∷ more) difference is = absurd (let no = is in cc)

-- a first word and what stands behind it
begins : (word kind : List ℕ) (parts : List (List ℕ)) (difference : Difference) → bytes_eq kind word ≡ true → IsRead difference (word ∷ parts) → IsRead difference (kind ∷ parts)
begins word kind parts difference same is = rw (is_text kind word same) is

differs_are : (kind : List ℕ) (parts : List (List ℕ)) (difference : Difference) → cond (bytes_eq kind (codes "differs")) (digest_parts parts) None ≡ Some difference → IsRead difference (kind ∷ parts)
differs_are kind parts difference is =
    let word = came_true (bytes_eq kind (codes "differs")) (digest_parts parts) difference is in
    begins (codes "differs") kind parts difference word.0 (digest_parts_are parts difference word.1)

parts_are : (parts : List (List ℕ)) (difference : Difference) → cause_of parts ≡ Some difference → IsRead difference parts
parts_are [] difference is = absurd (let no = is in cc)
parts_are (kind ∷ parts) difference is = elim (cases_Bool (bytes_eq kind (codes "size"))) [
  | inl size ↦ begins (codes "size") kind parts difference size (size_parts_are parts difference (sym (cond-true _ _ _ size) ∙ is))
  | inr other ↦ differs_are kind parts difference (sym (cond-false _ _ _ other) ∙ is)
]

-- ---- texts

parts_plain : (difference : Difference) → IsDifference difference
    → NoneHas 58 (cause_parts difference) × NoneHas 32 (cause_parts difference) × NoneHas 10 (cause_parts difference)
parts_plain (Size listed found) is =
    let word : IsPlain (codes "size") = record { each = refl } in
    let a = plain_number listed is.0 in
    let b = plain_number found is.1 in (
      (no_colon word, (no_colon a, (no_colon b, tt))),
      (no_space word, (no_space a, (no_space b, tt))),
      (no_feed word, (no_feed a, (no_feed b, tt))),
    )
parts_plain (Digest algorithm listed found) is =
    let word : IsPlain (codes "differs") = record { each = refl } in
    let name = plain_name algorithm in
    let a = plain_digits listed in
    let b = plain_digits found in (
      (no_colon word, (no_colon name, (no_colon a, (no_colon b, tt)))),
      (no_space word, (no_space name, (no_space a, (no_space b, tt)))),
      (no_feed word, (no_feed name, (no_feed a, (no_feed b, tt)))),
    )

cut_again : (difference : Difference) → IsDifference difference → parts_between 58 (cause_text difference) ≡ cause_parts difference
cut_again (Size listed found) is = parts_joined 58 _ _ (parts_plain (Size listed found) is).0
cut_again (Digest algorithm listed found) is = parts_joined 58 _ _ (parts_plain (Digest algorithm listed found) is).0

-- the text of a difference is read as it
pub cause_read : (difference : Difference) → IsDifference difference → cause_of (parts_between 58 (cause_text difference)) ≡ Some difference
cause_read difference is = ap cause_of (cut_again difference is) ∙ parts_read difference is

-- a text that is read as one is its text
pub cause_written : (text : List ℕ) (difference : Difference) → cause_of (parts_between 58 text) ≡ Some difference → (cause_text difference ≡ text) × IsDifference difference
cause_written text difference is =
    let known = parts_are (parts_between 58 text) difference is in
    (ap (join_with_byte 58) known.written ∙ join_with_byte-slice_split 58 text, known.is)

pub cause_has_no_space : (difference : Difference) → IsDifference difference → HasNo 32 (cause_text difference)
cause_has_no_space difference is = none_joined 32 58 refl (cause_parts difference) (parts_plain difference is).1

pub cause_has_no_feed : (difference : Difference) → IsDifference difference → HasNo 10 (cause_text difference)
cause_has_no_feed difference is = none_joined 10 58 refl (cause_parts difference) (parts_plain difference is).2
