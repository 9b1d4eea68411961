-- Identities and digests that are read are values that the code holds.
use Rattle.std.proofs.Common.{◌≡◌, ℕ, suc, ◌<◌, ◌≤◌, ◌^◌, Bool, true, false, List, [], ◌∷◌, length, Option, Some, None, Result, Ok, Err, IfOk, IsUtf8, codes, refl, subst, arith}
use Rattle.std.specs.Prelude.{◌||◌, nat_lt, not, ◌==◌, if◌then◌else◌}
use Rattle.std.specs.Char.{is_ascii_digit}
use Rattle.std.specs.List.{list_all}
use Rattle.std.specs.Str.Parse.{digits_value}
use Rattle.std.proofs.lemmas.Bool.{ltb-false}
use Rattle.small_types.specs.declared.limits.TheConstants.{HASH_LIMIT, IDENTITY_PART_LIMIT, NAME_LIMIT}
use Rattle.small_types.specs.Outcome.{◌>>=◌}
use Rattle.identity.specs.declared.identity.Identity.{Identity}
use Rattle.identity.specs.declared.key.Key.{Key}
use Rattle.identity.specs.declared.version.Version.{Version}
use Rattle.identity.specs.declared.version.VersionFault.{VersionFault}
use Rattle.identity.specs.Version.{IsVersion, number_of, version_of, version_of_parts}
use Rattle.digest_list.specs.declared.digest.Digest.{Digest}
use Rattle.digest_list.specs.Count.{IsCount}
use Rattle.manifest_tree.specs.Grammar.{SpellsTree}
use Rattle.manifest_tree.specs.Tree.{Tree}
use Rattle.manifest_parts.specs.Elements.{Read, attribute, called, children_called, has_called, once}
use Rattle.manifest_parts.specs.Parts.{counted, digests_of, hash_of, hashes, identity_in, identity_of, key_of, manifest_of, named, root_of, short_of, some_digest, versioned, with_digest}
use Rattle.manifest_parts.specs.Values.{as_version, filled, needed, version_value}
use Rattle.manifests.specs.Facts.{IsIdentity}
use Rattle.manifests.proofs.FoundValues.{then_ok, test_ok, other_ok}
use Rattle.manifests.proofs.SaidParts.{IsAny, anything}
use Rattle.machine.specs.Fields.{HasIdentity}
use Rattle.machine.proofs.FoundTexts.{ascii_text, attribute_text, defaulted_text, filled_text, needed_text, once_texts}
use Rattle.machine.proofs.TreeTexts.{HasTexts, tree_texts}

-- ---- the root

module _ {A : Type 0} (facts : Tree → Read A) (P : A → Type 0) (each : (t : Tree) → HasTexts t → IfOk (facts t) P) where
  root_texts : (t : Tree) → HasTexts t → IfOk (root_of t) HasTexts
  unfolding root_of
  root_texts t h = other_ok HasTexts (has_called (codes "Signature") t) _ _ (λ unsigned. test_ok HasTexts (called (codes "assembly") t) t _ (λ is. h))

  -- what the bytes of a manifest say
  pub said : (bytes : List ℕ) (t : Tree) (x : A) → SpellsTree bytes t → manifest_of facts t ≡ Ok x → P x
  unfolding manifest_of
  said bytes t x spelled is = subst (λ (r : Read A). IfOk r P) is (then_ok HasTexts P (root_of t) facts (root_texts t (tree_texts bytes t spelled)) each)

-- ---- versions

bind_version : {A B : Type 0} (P : A → Type 0) (Q : B → Type 0) (r : Result A VersionFault) (f : A → Result B VersionFault) → IfOk r P → ((x : A) → P x → IfOk (f x) Q) → IfOk (r >>= f) Q
bind_version P Q (Ok x) f p q = q x p
bind_version P Q (Err e) f p q = tt

test_version : {A : Type 0} (P : A → Type 0) (b : Bool) (e : VersionFault) (r : Result A VersionFault) → (b ≡ false → IfOk r P) → IfOk (if b then Err e else r) P
test_version P true e r p = tt
test_version P false e r p = p refl

second_false : (a b : Bool) → (a || b) ≡ false → b ≡ false
second_false true b e = absurd cc
second_false false b e = e

abbrev Fits16 : ℕ → Type 0
Fits16 n = n < 2 ^ 16

number_fits : (part : ℕ) (bytes : List ℕ) → IfOk (number_of part bytes) Fits16
unfolding number_of
number_fits part bytes =
    test_version Fits16 (length bytes == 0 || not (list_all is_ascii_digit bytes)) _ _ (λ digits.
    test_version Fits16 (nat_lt 5 (length bytes) || nat_lt 65535 (digits_value 10 bytes)) _ _ (λ few.
    let small = ltb-false 65535 (digits_value 10 bytes) (second_false (nat_lt 5 (length bytes)) (nat_lt 65535 (digits_value 10 bytes)) few) in
    omega (arith, small)))

parts_version : (parts : List (List ℕ)) → IfOk (version_of_parts parts) IsVersion
unfolding version_of_parts
parts_version [] = tt
parts_version (first ∷ []) = tt
parts_version (first ∷ second ∷ []) = tt
parts_version (first ∷ second ∷ third ∷ []) = tt
parts_version (first ∷ second ∷ third ∷ fourth ∷ []) =
    bind_version Fits16 IsVersion (number_of 1 first) _ (number_fits 1 first) (λ a p.
    bind_version Fits16 IsVersion (number_of 2 second) _ (number_fits 2 second) (λ b q.
    bind_version Fits16 IsVersion (number_of 3 third) _ (number_fits 3 third) (λ c r.
    bind_version Fits16 IsVersion (number_of 4 fourth) _ (number_fits 4 fourth) (λ d s.
    record { a = p; b = q; c = r; d = s }))))
parts_version (first ∷ second ∷ third ∷ fourth ∷ fifth ∷ others) = tt

read_version : (bytes : List ℕ) → IfOk (version_of bytes) IsVersion
unfolding version_of
read_version bytes = parts_version _

valued_version : (what : List ℕ) (r : Result Version VersionFault) → IfOk r IsVersion → IfOk (as_version what r) IsVersion
valued_version what (Ok v) is = is
valued_version what (Err e) is = tt

pub version_is : (what value : List ℕ) → IfOk (version_value what value) IsVersion
version_is what value = valued_version what (version_of value) (read_version value)

-- ---- identities

named_text : (t : Tree) → HasTexts t → IfOk (named t) IsUtf8
unfolding named
named_text t h =
    let what = codes "name" in
    then_ok IsUtf8 IsUtf8 (needed what (attribute what t)) (filled NAME_LIMIT what) (needed_text what (attribute what t) (attribute_text what t h)) (λ value u. filled_text NAME_LIMIT what value u)

versioned_is : (t : Tree) → IfOk (versioned t) IsVersion
unfolding versioned
versioned_is t =
    let what = codes "version" in
    then_ok IsAny IsVersion (needed what (attribute what t)) (version_value what) (anything (needed what (attribute what t))) (λ value any. version_is what value)

short_text : (what default : List ℕ) (t : Tree) → IsUtf8 default → HasTexts t → IfOk (short_of what default t) IsUtf8
unfolding short_of
short_text what default t d h = defaulted_text IDENTITY_PART_LIMIT what default (attribute what t) d (attribute_text what t h)

-- each part is UTF-8
record KeyTexts (key : Key) : Type 0 where
  name : IsUtf8 key.name
  token : IsUtf8 key.token
  language : IsUtf8 key.language
  architecture : IsUtf8 key.architecture

key_texts : (name : List ℕ) (t : Tree) → IsUtf8 name → HasTexts t → IfOk (key_of name t) KeyTexts
unfolding key_of
key_texts name t n h =
    then_ok IsUtf8 KeyTexts (short_of (codes "publicKeyToken") (codes "0000000000000000") t) _ (short_text (codes "publicKeyToken") (codes "0000000000000000") t (ascii_text (codes "0000000000000000") refl) h) (λ token p.
    then_ok IsUtf8 KeyTexts (short_of (codes "language") (codes "neutral") t) _ (short_text (codes "language") (codes "neutral") t (ascii_text (codes "neutral") refl) h) (λ language q.
    then_ok IsUtf8 KeyTexts (short_of (codes "processorArchitecture") (codes "msil") t) _ (short_text (codes "processorArchitecture") (codes "msil") t (ascii_text (codes "msil") refl) h) (λ architecture r.
    record { name = n; token = p; language = q; architecture = r })))

-- each text is UTF-8, and each number of the version fits
pub record IdentityTexts (identity : Identity) : Type 0 where
  key : KeyTexts identity.key
  version : IsVersion identity.version
  kind : IsUtf8 identity.kind

identity_texts : (t : Tree) → HasTexts t → IfOk (identity_of t) IdentityTexts
unfolding identity_of
identity_texts t h =
    then_ok IsUtf8 IdentityTexts (named t) _ (named_text t h) (λ name n.
    then_ok IsVersion IdentityTexts (versioned t) _ (versioned_is t) (λ version v.
    then_ok KeyTexts IdentityTexts (key_of name t) _ (key_texts name t n h) (λ key k.
    then_ok IsUtf8 IdentityTexts (short_of (codes "type") [] t) _ (short_text (codes "type") [] t (ascii_text [] refl) h) (λ kind p.
    record { key = k; version = v; kind = p }))))

pub identity_in_texts : (t : Tree) → HasTexts t → IfOk (identity_in t) IdentityTexts
unfolding identity_in
identity_in_texts t h =
    let what = codes "assemblyIdentity" in
    then_ok HasTexts IdentityTexts (once what t) identity_of (once_texts what t h) identity_texts

-- with the lengths that a manifest has
pub has_identity : (identity : Identity) → IsIdentity identity → IdentityTexts identity → HasIdentity identity
has_identity identity is texts = record {
  key = record {
    name = record { nonempty = omega (arith, is.name.some); within = is.name.few; utf8 = texts.key.name };
    token = record { nonempty = omega (arith, is.token.some); within = is.token.few; utf8 = texts.key.token };
    language = record { nonempty = omega (arith, is.language.some); within = is.language.few; utf8 = texts.key.language };
    architecture = record { nonempty = omega (arith, is.architecture.some); within = is.architecture.few; utf8 = texts.key.architecture };
  };
  version = texts.version;
  kind = texts.kind;
}

-- ---- digests

with_few : (found : Option Digest) (digests : List Digest) (n : ℕ) → length digests ≤ n → length (with_digest found digests) ≤ suc n
with_few None digests n few = omega arith
with_few (Some digest) digests n few = omega arith

hashes_few : (found : List Tree) → IfOk (hashes found) (λ digests. length digests ≤ length found)
hashes_few [] = omega arith
hashes_few (hash ∷ others) =
    let P : List Digest → Type 0 = λ digests. length digests ≤ length (hash ∷ others) in
    then_ok IsAny P (hash_of hash) _ (anything (hash_of hash)) (λ digest any.
    then_ok (λ (digests : List Digest). length digests ≤ length others) P (hashes others) _ (hashes_few others) (λ digests few. with_few digest digests (length others) few))

some_count : (file : List ℕ) (digests : List Digest) → length digests ≤ HASH_LIMIT → IfOk (some_digest file digests) IsCount
some_count file [] few = tt
some_count file (digest ∷ digests) few = record { some = omega arith; within = few }

pub digests_count : (file : List ℕ) (t : Tree) → IfOk (digests_of file t) IsCount
unfolding digests_of
digests_count file t =
    let found = children_called (codes "hash") t in
    let Few : List Digest → Type 0 = λ digests. length digests ≤ HASH_LIMIT in
    then_ok Few IsCount (counted found) (some_digest file)
    (other_ok Few (nat_lt HASH_LIMIT (length found)) _ (hashes found) (λ few. fewer (hashes found) (length found) (ltb-false HASH_LIMIT (length found) few) (hashes_few found)))
    (λ digests are. some_count file digests are)
  where
    fewer : (r : Read (List Digest)) (n : ℕ) → n ≤ HASH_LIMIT → IfOk r (λ digests. length digests ≤ n) → IfOk r (λ digests. length digests ≤ HASH_LIMIT)
    fewer (Ok digests) n small is = omega arith
    fewer (Err e) n small is = tt
