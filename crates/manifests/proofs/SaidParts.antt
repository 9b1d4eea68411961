-- The roots, identities, digests and sizes that are read are ones that a manifest can say.
use Rattle.std.proofs.Common.{◌≡◌, ℕ, ◌≤◌, Bool, true, false, List, [], ◌∷◌, length, Option, Some, None, Ok, Err, refl, subst, arith}
use Rattle.std.specs.Prelude.{◌==◌, All, IfSome, IfOk, codes, nat_lt, if◌then◌else◌}
use Rattle.std.proofs.lemmas.Bool.{eqb-true}
use Rattle.std.proofs.lemmas.List.Elements.{All-nil, All-cons}
use Rattle.small_types.specs.declared.limits.TheConstants.{DIGIT_LIMIT, HASH_LIMIT, IDENTITY_PART_LIMIT, NAME_LIMIT}
use Rattle.identity.specs.declared.key.Key.{Key}
use Rattle.digest_list.specs.declared.algorithm.Algorithm.{Algorithm}
use Rattle.digest_list.specs.declared.digest.Digest.{Digest}
use Rattle.digest_list.specs.declared.digest.DigestFault.TheVariants.{Bad}
use Rattle.digest_list.specs.Algorithm.{size_of as size_for}
use Rattle.digest_list.specs.Digest.{IsSized, digest_of, digest_of_value}
use Rattle.manifest_tree.specs.Grammar.{SpellsTree}
use Rattle.manifest_tree.specs.Lexis.{allowed}
use Rattle.manifest_tree.specs.Tree.{Tree}
use Rattle.manifest_parts.specs.declared.fault.ManifestFault.{ManifestFault}
use Rattle.manifest_parts.specs.Elements.{Read, has_called, attribute, called, children_called, once}
use Rattle.manifest_parts.specs.Values.{needed, filled, number_of, size_of}
use Rattle.manifest_parts.specs.Parts.{named, versioned, short_of, key_of, identity_of, identity_in, is_plain, as_value, digest_by, hash_of, with_digest, hashes, counted, some_digest, digests_of, root_of, manifest_of}
use Rattle.manifests.specs.Facts.{IsValue, IsIdentity}
use Rattle.manifests.proofs.SpelledValues.{tree_held}
use Rattle.manifests.proofs.FoundValues.{IsContent, IsHeld, then_ok, test_ok, other_ok, attribute_held, once_held, needed_held, filled_is, none_is, defaulted_is}
use Rattle.manifests.proofs.Limits.{number_of_within}

abbrev pub IsAny : {A : Type 0} → A → Type 0
IsAny x = Unit {0}

pub anything : {A : Type 0} (r : Read A) → IfOk r IsAny
anything (Ok x) = tt
anything (Err e) = tt

-- ---- the root

module _ {A : Type 0} (facts : Tree → Read A) (P : A → Type 0) (each : (t : Tree) → IsHeld t → IfOk (facts t) P) where
  root_held : (t : Tree) → IsHeld t → IfOk (root_of t) IsHeld
  unfolding root_of
  root_held t h =
      other_ok IsHeld (has_called (codes "Signature") t) _ _ (λ unsigned. test_ok IsHeld (called (codes "assembly") t) t _ (λ is. h))

  -- what the bytes of a manifest say
  pub read_is : (bytes : List ℕ) (t : Tree) (x : A) → SpellsTree bytes t → manifest_of facts t ≡ Ok x → P x
  unfolding manifest_of
  read_is bytes t x spelled is =
      let h = tree_held bytes t spelled in
      subst (λ (r : Read A). IfOk r P) is (then_ok IsHeld P (root_of t) facts (root_held t h) each)

-- ---- identities

named_is : (t : Tree) → IsHeld t → IfOk (named t) (IsValue 1 NAME_LIMIT)
unfolding named
named_is t h =
    let what = codes "name" in
    then_ok IsContent (IsValue 1 NAME_LIMIT) (needed what (attribute what t)) (filled NAME_LIMIT what)
    (needed_held what (attribute what t) (attribute_held what t h)) (λ value c. filled_is NAME_LIMIT what value c)

short_is : (least : ℕ) (what default : List ℕ) (t : Tree) → least ≤ 1 → IsValue least IDENTITY_PART_LIMIT default → IsHeld t
    → IfOk (short_of what default t) (IsValue least IDENTITY_PART_LIMIT)
unfolding short_of
short_is least what default t one d h = defaulted_is least IDENTITY_PART_LIMIT what default (attribute what t) one d (attribute_held what t h)

record IsKey (key : Key) : Type 0 where
  name : IsValue 1 NAME_LIMIT key.name
  token : IsValue 1 IDENTITY_PART_LIMIT key.token
  language : IsValue 1 IDENTITY_PART_LIMIT key.language
  architecture : IsValue 1 IDENTITY_PART_LIMIT key.architecture

token_default : IsValue 1 IDENTITY_PART_LIMIT (codes "0000000000000000")
unfolding allowed
token_default = record { some = omega arith; few = omega arith; allowed = refl }

language_default : IsValue 1 IDENTITY_PART_LIMIT (codes "neutral")
unfolding allowed
language_default = record { some = omega arith; few = omega arith; allowed = refl }

architecture_default : IsValue 1 IDENTITY_PART_LIMIT (codes "msil")
unfolding allowed
architecture_default = record { some = omega arith; few = omega arith; allowed = refl }

key_is : (name : List ℕ) (t : Tree) → IsValue 1 NAME_LIMIT name → IsHeld t → IfOk (key_of name t) IsKey
unfolding key_of
key_is name t n h =
    let short = IsValue 1 IDENTITY_PART_LIMIT in
    then_ok short IsKey (short_of (codes "publicKeyToken") (codes "0000000000000000") t) _ (short_is 1 (codes "publicKeyToken") (codes "0000000000000000") t (omega arith) token_default h) (λ token p.
    then_ok short IsKey (short_of (codes "language") (codes "neutral") t) _ (short_is 1 (codes "language") (codes "neutral") t (omega arith) language_default h) (λ language q.
    then_ok short IsKey (short_of (codes "processorArchitecture") (codes "msil") t) _ (short_is 1 (codes "processorArchitecture") (codes "msil") t (omega arith) architecture_default h) (λ architecture r.
    record { name = n; token = p; language = q; architecture = r })))

identity_is : (t : Tree) → IsHeld t → IfOk (identity_of t) IsIdentity
unfolding identity_of
identity_is t h =
    then_ok (IsValue 1 NAME_LIMIT) IsIdentity (named t) _ (named_is t h) (λ name n.
    then_ok IsAny IsIdentity (versioned t) _ (anything (versioned t)) (λ version any.
    then_ok IsKey IsIdentity (key_of name t) _ (key_is name t n h) (λ key k.
    then_ok (IsValue 0 IDENTITY_PART_LIMIT) IsIdentity (short_of (codes "type") [] t) _ (short_is 0 (codes "type") [] t (omega arith) (none_is IDENTITY_PART_LIMIT) h) (λ kind p.
    record { name = k.name; token = k.token; language = k.language; architecture = k.architecture; kind = p }))))

pub identity_in_is : (t : Tree) → IsHeld t → IfOk (identity_in t) IsIdentity
unfolding identity_in
identity_in_is t h =
    let what = codes "assemblyIdentity" in
    then_ok IsHeld IsIdentity (once what t) identity_of (once_held what t h) identity_is

-- ---- digests

value_sized : (algorithm : Algorithm) (value : List ℕ) (b : Bool) → (length value == size_for algorithm) ≡ b → IfOk (as_value (if b then Ok (record { algorithm = algorithm; value = value }) else Err Bad)) IsSized
value_sized algorithm value true is = eqb-true (length value) (size_for algorithm) is
value_sized algorithm value false is = tt

decoded_sized : (algorithm : Algorithm) (r : _) → IfOk (as_value (digest_of_value algorithm r)) IsSized
decoded_sized algorithm (Ok value) = value_sized algorithm value (length value == size_for algorithm) refl
decoded_sized algorithm (Err e) = tt

digest_sized : (algorithm : Algorithm) (text : List ℕ) → IfOk (as_value (digest_of algorithm text)) IsSized
unfolding digest_of
digest_sized algorithm text = decoded_sized algorithm _

abbrev MaybeSized : Option Digest → Type 0
MaybeSized o = IfSome o IsSized

by_method : (method : Option Algorithm) (value : List ℕ) → IfOk (digest_by method value) MaybeSized
by_method None value = tt
by_method (Some algorithm) value =
    then_ok IsSized MaybeSized (as_value (digest_of algorithm value)) _ (digest_sized algorithm value) (λ digest is. is)

-- what is read where a test passes
passing_ok : {A : Type 0} (P : A → Type 0) (b : Bool) (r : Read A) (e : ManifestFault) → IfOk r P → IfOk (if b then r else Err e) P
passing_ok P true r e p = p
passing_ok P false r e p = tt

hash_sized : (hash : Tree) → IfOk (hash_of hash) MaybeSized
unfolding hash_of
hash_sized hash =
    passing_ok MaybeSized (is_plain hash) _ _
    (then_ok IsAny MaybeSized (once (codes "DigestMethod") hash) _ (anything (once (codes "DigestMethod") hash)) (λ method any.
    then_ok IsAny MaybeSized (once (codes "DigestValue") hash) _ (anything (once (codes "DigestValue") hash)) (λ value any₁. by_method _ _)))

with_sized : (found : Option Digest) (digests : List Digest) → MaybeSized found → All IsSized digests → All IsSized (with_digest found digests)
with_sized None digests is are = are
with_sized (Some digest) digests is are = All-cons IsSized digest digests is are

hashes_sized : (found : List Tree) → IfOk (hashes found) (All IsSized)
hashes_sized [] = All-nil IsSized
hashes_sized (hash ∷ others) =
    then_ok MaybeSized (All IsSized) (hash_of hash) _ (hash_sized hash) (λ digest is.
    then_ok (All IsSized) (All IsSized) (hashes others) _ (hashes_sized others) (λ digests are. with_sized digest digests is are))

some_sized : (file : List ℕ) (digests : List Digest) → All IsSized digests → IfOk (some_digest file digests) (All IsSized)
some_sized file [] are = tt
some_sized file (digest ∷ digests) are = are

pub digests_sized : (file : List ℕ) (t : Tree) → IfOk (digests_of file t) (All IsSized)
unfolding digests_of
digests_sized file t =
    let found = children_called (codes "hash") t in
    then_ok (All IsSized) (All IsSized) (counted found) (some_digest file)
    (other_ok (All IsSized) (nat_lt HASH_LIMIT (length found)) _ (hashes found) (λ few. hashes_sized found))
    (λ digests are. some_sized file digests are)

-- ---- sizes

pub ok_from : {A : Type 0} (P : A → Type 0) (r : Read A) → ((x : A) → r ≡ Ok x → P x) → IfOk r P
ok_from P (Ok x) each = each x refl
ok_from P (Err e) each = tt

pub number_is : (digits limit : ℕ) (what value : List ℕ) → IfOk (number_of digits limit what value) (λ n. n ≤ limit)
number_is digits limit what value = ok_from (λ (n : ℕ). n ≤ limit) (number_of digits limit what value) (number_of_within digits limit what value)

pub size_is : (limit : ℕ) (o : Option (List ℕ)) → IfOk (size_of limit o) (λ n. n ≤ limit)
size_is limit o =
    then_ok IsAny (λ (n : ℕ). n ≤ limit) (needed (codes "size") o) _ (anything (needed (codes "size") o)) (λ value any. number_is DIGIT_LIMIT limit (codes "size") value)
