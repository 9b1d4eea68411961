-- What both kinds of manifests have: identities and digest lists; and what reading a manifest
-- answers.
use Rattle.std.specs.Prelude.{◌≡◌, ℕ, Bool, true, false, ◌&&◌, ◌||◌, not, ◌==◌, nat_lt, List, [], ◌∷◌, ◌++◌, length, codes, Option, Some, None, Result, Ok, Err, if◌then◌else◌}
use Rattle.std.specs.List.{flat_map, list_all}
use Rattle.std.specs.Str.{bytes_eq}
use Rattle.small_types.specs.Outcome.{◌>>=◌}
use Rattle.small_types.specs.declared.limit.Limit.TheVariants.{Hashes}
use Rattle.small_types.specs.declared.limits.TheConstants.{NAME_LIMIT, IDENTITY_PART_LIMIT, HASH_LIMIT}
use Rattle.identity.specs.declared.identity.Identity.{Identity}
use Rattle.identity.specs.declared.key.Key.{Key}
use Rattle.identity.specs.declared.version.Version.{Version}
use Rattle.manifest_tree.specs.declared.fault.TreeFault.{TreeFault}
use Rattle.manifest_tree.specs.declared.fault.TreeError.TheVariants.{Refused}
use Rattle.manifest_tree.specs.Tree.{Tree}
use Rattle.manifest_tree.specs.Grammar.{SpellsTree}
use Rattle.manifest_tree.specs.Refusals.{Refuses}
use Rattle.digest_list.specs.declared.algorithm.Algorithm.{Algorithm}
use Rattle.digest_list.specs.declared.digest.Digest.{Digest}
use Rattle.digest_list.specs.declared.digest.DigestFault.{DigestFault}
use Rattle.digest_list.specs.Algorithm.{algorithm_of}
use Rattle.digest_list.specs.Digest.{digest_of}
use Rattle.manifest_parts.specs.declared.fault.ManifestFault.{ManifestFault}
use Rattle.manifest_parts.specs.declared.fault.ManifestFault.TheVariants.{Missing, Signed, BadValue, NoDigest, TooMany}
use Rattle.manifest_parts.specs.declared.fault.ManifestFault.TheVariants as fault
use Rattle.manifest_parts.specs.Elements.{Read, attribute, text_of, called, children_called, once, has_called}
use Rattle.manifest_parts.specs.Values.{needed, filled, within, defaulted, version_value}

-- ---- identities

-- the name: 1 to 240 bytes
unfoldable pub named : Tree → Read (List ℕ)
named t = needed (codes "name") (attribute (codes "name") t) >>= filled NAME_LIMIT (codes "name")

unfoldable pub versioned : Tree → Read Version
versioned t = needed (codes "version") (attribute (codes "version") t) >>= version_value
    (codes "version")

-- another attribute: at most 64 bytes, absent or empty the default
unfoldable pub short_of : List ℕ → List ℕ → Tree → Read (List ℕ)
short_of what default t = defaulted IDENTITY_PART_LIMIT what default (attribute what t)

-- the key of the name
unfoldable pub key_of : List ℕ → Tree → Read Key
key_of name t = do
  token ← short_of (codes "publicKeyToken") (codes "0000000000000000") t
  language ← short_of (codes "language") (codes "neutral") t
  architecture ← short_of (codes "processorArchitecture") (codes "msil") t
  Ok (record { name = name; token = token; language = language; architecture = architecture })

-- what an `assemblyIdentity` says
unfoldable pub identity_of : Tree → Read Identity
identity_of t = do
  name ← named t
  version ← versioned t
  key ← key_of name t
  kind ← short_of (codes "type") [] t
  Ok (record { key = key; version = version; kind = kind })

-- the one `assemblyIdentity` of an element
unfoldable pub identity_in : Tree → Read Identity
identity_in t = once (codes "assemblyIdentity") t >>= identity_of

-- ---- digests

-- the transforms of a hash: the elements `Transform` of its elements `Transforms`
abbrev pub transforms_of : Tree → List Tree
transforms_of hash =
    flat_map (children_called (codes "Transform")) (children_called (codes "Transforms") hash)

-- the only transform that is known leaves the bytes as they are
abbrev pub is_identity : Option (List ℕ) → Bool
is_identity None = false
is_identity (Some algorithm) =
    bytes_eq algorithm (codes "urn:schemas-microsoft-com:HashTransforms.Identity")

abbrev pub all_plain : List Tree → Bool
all_plain transforms =
    list_all (λ transform. is_identity (attribute (codes "Algorithm") transform)) transforms

unfoldable pub is_plain : Tree → Bool
is_plain hash = all_plain (transforms_of hash)

-- the digest of a method and a value; none where the method is not known
abbrev pub as_value : Result Digest DigestFault → Read Digest
as_value (Ok digest) = Ok digest
as_value (Err e) = Err (BadValue (codes "DigestValue"))

abbrev pub digest_by : Option Algorithm → List ℕ → Read (Option Digest)
digest_by None value = Ok None
digest_by (Some algorithm) value =
    as_value (digest_of algorithm value) >>= λ digest. Ok (Some digest)

abbrev pub method_of : Option (List ℕ) → Option Algorithm
method_of None = None
method_of (Some uri) = algorithm_of uri

-- what a `hash` says; none where its method is passed over
unfoldable pub hash_of : Tree → Read (Option Digest)
hash_of hash =
    if is_plain hash then (
    do
      method ← once (codes "DigestMethod") hash
      value ← once (codes "DigestValue") hash
      digest_by (method_of (attribute (codes "Algorithm") method)) (text_of value)
    ) else Err (BadValue (codes "Algorithm"))

-- the digests of hashes, in order
abbrev pub with_digest : Option Digest → List Digest → List Digest
with_digest None digests = digests
with_digest (Some digest) digests = digest ∷ digests

-- digests, and one more behind them
abbrev pub and_digest : List Digest → Option Digest → List Digest
and_digest digests None = digests
and_digest digests (Some digest) = digests ++ digest ∷ []

abbrev pub added : List Digest → Read (Option Digest) → Read (List Digest)
added digests found = found >>= λ digest. Ok (and_digest digests digest)

abbrev pub hashes : List Tree → Read (List Digest)
hashes [] = Ok []
hashes (hash ∷ others) =
    hash_of hash >>= λ digest. hashes others >>= λ digests. Ok (with_digest digest digests)

abbrev pub some_digest : List ℕ → List Digest → Read (List Digest)
some_digest file [] = Err (NoDigest file)
some_digest file (digest ∷ digests) = Ok (digest ∷ digests)

-- at most eight hashes
abbrev pub counted : List Tree → Read (List Digest)
counted found = if nat_lt HASH_LIMIT (length found) then Err (TooMany Hashes) else hashes found

-- the digests of a file, from the elements `hash`
unfoldable pub digests_of : List ℕ → Tree → Read (List Digest)
digests_of file t = counted (children_called (codes "hash") t) >>= some_digest file

-- ---- manifests

-- the root, once it is no signed manifest and is an `assembly`
unfoldable pub root_of : Tree → Read Tree
root_of t =
    if has_called (codes "Signature") t then Err Signed else
    if called (codes "assembly") t then Ok t else Err (Missing (codes "assembly"))

-- what a manifest of this root says
unfoldable pub manifest_of : {A : Type 0} → (Tree → Read A) → Tree → Read A
manifest_of facts t = root_of t >>= facts

-- the bytes spell a tree of which this is read
pub record Tells {A : Type 0} (facts : Tree → Read A) (bytes : List ℕ) (read : Read A)
    : Type 0 where
  pub tree : Tree
  pub spelled : SpellsTree bytes tree
  pub facts_are : facts tree ≡ read

-- a refusal of the bytes: that of their text, or else the first one of what they spell
abbrev pub RefusesBytes : {A : Type 0} → (Tree → Read A) → List ℕ → ManifestFault → Type 0
RefusesBytes facts bytes fault.Memory = Unit {0}
RefusesBytes facts bytes (fault.Tree error) = Refuses bytes (Refused error)
RefusesBytes facts bytes e = Tells facts bytes (Err e)

-- what reading the bytes answers: the facts of the tree that they spell, or their refusal
abbrev pub Answers : {A : Type 0} → (Tree → Read A) → List ℕ → Read A → Type 0
Answers facts bytes (Ok a) = Tells facts bytes (Ok a)
Answers facts bytes (Err e) = RefusesBytes facts bytes e
