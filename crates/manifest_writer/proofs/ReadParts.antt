-- What is written of numbers, identities and digests is read again.
use Rattle.std.proofs.Common.{◌≡◌, ℕ, ◌^◌, ◌<◌, ◌≤◌, Bool, true, false, List, [], ◌∷◌, ◌++◌, length, Some, Ok, refl, ap, ◌∙◌, arith, decimal}
use Rattle.std.specs.Prelude.{◌||◌, codes, bytes_eq, All, filter}
use Rattle.std.proofs.lemmas.Bool.{le-ltb, le-leb}
use Rattle.std.proofs.lemmas.List.Elements.{All-head, All-tail}
use Rattle.std.proofs.lemmas.List.{length-map}
use Rattle.std.proofs.lemmas.Fmt.{digits_decimal, digits_value-decimal, length-decimal-le, decimal_nonempty}
use Rattle.base64.specs.Engines.{standard}
use Rattle.base64.proofs.EngineFacts.{decode_of-encode_of}
use Rattle.base64.specs.GeneralPurpose.{encode_of}
use Rattle.small_types.specs.declared.limits.TheConstants.{HASH_LIMIT, IDENTITY_PART_LIMIT, NAME_LIMIT}
use Rattle.small_types.proofs.DecimalLemmas.{own}
use Rattle.identity.specs.declared.identity.Identity.{Identity}
use Rattle.identity.specs.declared.key.Key.{Key}
use Rattle.identity.specs.Version.{IsVersion, version_text}
use Rattle.identity.proofs.VersionLemmas.{version_read-version_text}
use Rattle.digest_list.specs.declared.digest.Digest.{Digest}
use Rattle.digest_list.specs.declared.algorithm.Algorithm.{Algorithm}
use Rattle.digest_list.specs.declared.algorithm.Algorithm.TheVariants.{Sha1, Sha256, Sha384, Sha512}
use Rattle.digest_list.specs.Algorithm.{uri_of, sha256_other_uri, algorithm_of}
use Rattle.digest_list.specs.Digest.{IsSized, digest_of}
use Rattle.digest_list.proofs.TextLemmas.{digest_of-encode_of}
use Rattle.manifest_tree.specs.Tree.{Tree, trees}
use Rattle.manifest_parts.specs.Elements.{local, declares, value_of, called, children_called, once, has_called, any_called}
use Rattle.small_types.specs.Outcome.{◌>>=◌}
use Rattle.manifest_parts.specs.Values.{filled, within, defaulted, number_in, number_of, as_version}
use Rattle.manifest_parts.specs.Parts.{named as named_of, versioned, short_of, key_of, identity_of, is_plain, digest_by, hash_of, hashes, counted, some_digest}
use Rattle.manifest_writer.specs.Elements.{key_attributes, kind_attributes, identity_tree, hash_tree, hash_trees}
use Rattle.manifests.specs.Facts.{IsValue, IsIdentity}
use Rattle.manifest_writer.specs.Held.{IsHeldDigest, AreHeldDigests}

-- ---- numbers

number_in_decimal : (digits limit n : ℕ) → 0 < digits → n ≤ limit → n < 10 ^ digits → n < 2 ^ 64 → number_in digits limit (decimal n) ≡ Some n
unfolding number_in
number_in_decimal digits limit n some few short small =
    let value = digits_value-decimal own n small in
    let text = digits_decimal own n small in
    let filled_by = decimal_nonempty n small in
    let held = length-decimal-le digits n some short small in
    rw (le-leb 1 (length (decimal n)) (omega arith), le-leb (length (decimal n)) digits held, text, value, le-leb n limit few) refl

pub number_read : (digits limit : ℕ) (what : List ℕ) (n : ℕ) → 0 < digits → n ≤ limit → n < 10 ^ digits → n < 2 ^ 64 → number_of digits limit what (decimal n) ≡ Ok n
number_read digits limit what n some few short small = rw (number_in_decimal digits limit n some few short small) refl

-- ---- values

pub filled_read : (most : ℕ) (what value : List ℕ) → IsValue 1 most value → filled most what value ≡ Ok value
unfolding filled
filled_read most what value is = rw (le-leb 1 (length value) is.some, le-leb (length value) most is.few) refl

pub within_read : (most : ℕ) (what value : List ℕ) → IsValue 0 most value → within most what (Some value) ≡ Ok value
unfolding within
within_read most what value is = rw (le-leb (length value) most is.few) refl

pub short_read : (what default value : List ℕ) → IsValue 1 IDENTITY_PART_LIMIT value → defaulted IDENTITY_PART_LIMIT what default (Some value) ≡ Ok value
unfolding defaulted within
short_read what default [] is = absurd (let some = is.some in omega arith)
short_read what default (c ∷ cs) is = rw (le-leb (length (c ∷ cs)) IDENTITY_PART_LIMIT is.few) refl

-- ---- identities

module _ (name : List ℕ) (identity : Identity) (is : IsIdentity identity) (fits : IsVersion identity.version) where
  abbrev of_it : Tree
  of_it = identity_tree name identity

  name_read : named_of of_it ≡ Ok identity.key.name
  unfolding named_of identity_tree value_of declares local
  name_read = filled_read NAME_LIMIT (codes "name") identity.key.name is.name

  version_read : versioned of_it ≡ Ok identity.version
  unfolding versioned identity_tree value_of declares local
  version_read = ap (as_version (codes "version")) (version_read-version_text identity.version fits)

  token_read : short_of (codes "publicKeyToken") (codes "0000000000000000") of_it ≡ Ok identity.key.token
  unfolding short_of identity_tree value_of declares local
  token_read = short_read (codes "publicKeyToken") (codes "0000000000000000") identity.key.token is.token

  language_read : short_of (codes "language") (codes "neutral") of_it ≡ Ok identity.key.language
  unfolding short_of identity_tree value_of declares local
  language_read = short_read (codes "language") (codes "neutral") identity.key.language is.language

  architecture_read : short_of (codes "processorArchitecture") (codes "msil") of_it ≡ Ok identity.key.architecture
  unfolding short_of identity_tree value_of declares local
  architecture_read = short_read (codes "processorArchitecture") (codes "msil") identity.key.architecture is.architecture

  key_read : key_of identity.key.name of_it ≡ Ok identity.key
  unfolding key_of
  key_read = rw (token_read, language_read, architecture_read) refl

kind_in : (key : Key) (version kind : List ℕ) → IsValue 0 IDENTITY_PART_LIMIT kind → defaulted IDENTITY_PART_LIMIT (codes "type") [] (value_of (codes "type") (key_attributes key version ++ kind_attributes kind)) ≡ Ok kind
unfolding defaulted within value_of declares local
kind_in key version [] is = refl
kind_in key version (c ∷ cs) is = rw (le-leb (length (c ∷ cs)) IDENTITY_PART_LIMIT is.few) refl

kind_read : (name : List ℕ) (identity : Identity) → IsIdentity identity → short_of (codes "type") [] (identity_tree name identity) ≡ Ok identity.kind
unfolding short_of identity_tree
kind_read name identity is = kind_in identity.key (version_text identity.version) identity.kind is.kind

pub identity_read : (name : List ℕ) (identity : Identity) → IsIdentity identity → IsVersion identity.version → identity_of (identity_tree name identity) ≡ Ok identity
unfolding identity_of
identity_read name identity is fits =
    rw (name_read name identity is fits, version_read name identity is fits, key_read name identity is fits, kind_read name identity is) refl

-- ---- digests

algorithm_read : (algorithm : Algorithm) → algorithm_of (uri_of algorithm) ≡ Some algorithm
unfolding algorithm_of uri_of sha256_other_uri
algorithm_read Sha1 = refl
algorithm_read Sha256 = refl
algorithm_read Sha384 = refl
algorithm_read Sha512 = refl

digest_read : (digest : Digest) → IsHeldDigest digest → IsSized digest → digest_of digest.algorithm (encode_of standard digest.value) ≡ Ok digest
digest_read digest held sized = digest_of-encode_of digest (decode_of-encode_of standard digest.value refl held) sized

hash_parts : (digest : Digest) → hash_of (hash_tree digest) ≡ digest_by (algorithm_of (uri_of digest.algorithm)) (encode_of standard digest.value)
unfolding hash_of hash_tree is_plain once children_called called value_of declares local
hash_parts digest = refl

hash_read : (digest : Digest) → IsHeldDigest digest → IsSized digest → hash_of (hash_tree digest) ≡ Ok (Some digest)
hash_read digest held sized = hash_parts digest ∙ rw (algorithm_read digest.algorithm, digest_read digest held sized) refl

hashes_read : (digests : List Digest) → All IsHeldDigest digests → All IsSized digests → hashes (hash_trees digests) ≡ Ok digests
hashes_read [] held sized = refl
hashes_read (digest ∷ digests) held sized =
    rw (hash_read digest (All-head IsHeldDigest digest digests held) (All-head IsSized digest digests sized), hashes_read digests (All-tail IsHeldDigest digest digests held) (All-tail IsSized digest digests sized)) refl

pub hashes_called : (digests : List Digest) → filter (called (codes "hash")) (hash_trees digests) ≡ hash_trees digests
unfolding called hash_tree local
hashes_called [] = refl
hashes_called (digest ∷ digests) = ap (λ (ts : List Tree). hash_tree digest ∷ ts) (hashes_called digests)

some_read : (file : List ℕ) (digests : List Digest) → 1 ≤ length digests → some_digest file digests ≡ Ok digests
some_read file [] some = absurd (omega arith)
some_read file (digest ∷ digests) some = refl

pub digests_read : (file : List ℕ) (digests : List Digest) → AreHeldDigests digests → All IsSized digests → (counted (hash_trees digests) >>= some_digest file) ≡ Ok digests
digests_read file digests held sized =
    let few : length (hash_trees digests) ≤ HASH_LIMIT = rw length-map held.count.within in
    rw (le-ltb HASH_LIMIT (length (hash_trees digests)) few, hashes_read digests held.each sized, some_read file digests held.count.some) refl

-- ---- elements among others

pub or_parts : (a b : Bool) → (a || b) ≡ false → (a ≡ false) × (b ≡ false)
or_parts true b h = absurd cc
or_parts false b h = (refl, h)

-- none of the elements of digests has another name
pub hashes_uncalled : (wanted : List ℕ) (digests : List Digest) → bytes_eq (codes "hash") wanted ≡ false → filter (called wanted) (hash_trees digests) ≡ []
unfolding called hash_tree local
hashes_uncalled wanted [] other = refl
hashes_uncalled wanted (digest ∷ digests) other = rw other (hashes_uncalled wanted digests other)

-- none is a signature, and has none in it
pub hashes_unsigned : (digests : List Digest) → any_called (codes "Signature") (trees (hash_trees digests)) ≡ false
unfolding hash_tree local
hashes_unsigned [] = refl
hashes_unsigned (digest ∷ digests) = hashes_unsigned digests

pub unsigned_behind : (xs ys : List Tree) → any_called (codes "Signature") (trees xs) ≡ false → any_called (codes "Signature") (trees ys) ≡ false → any_called (codes "Signature") (trees (xs ++ ys)) ≡ false
unsigned_behind [] ys p q = q
unsigned_behind (x ∷ xs) ys p q =
    let e = or_parts (has_called (codes "Signature") x) (any_called (codes "Signature") (trees xs)) p in
    rw (e.0, unsigned_behind xs ys e.1 q) refl
