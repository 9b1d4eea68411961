-- The elements that both kinds of manifests have, as they are written.
use Rattle.std.specs.Prelude.{ℕ, List, [], ◌∷◌, ◌++◌, map, codes}
use Rattle.std.specs.Borrow.{Bor}
use Rattle.base64.specs.Engines.{standard}
use Rattle.base64.specs.GeneralPurpose.{encode_of}
use Rattle.identity.specs.declared.identity.Identity.{Identity}
use Rattle.identity.specs.declared.key.Key.{Key}
use Rattle.identity.specs.Version.{version_text}
use Rattle.digest_list.specs.declared.digest.Digest.{Digest}
use Rattle.digest_list.specs.Algorithm.{uri_of}
use Rattle.manifest_tree.specs.declared.node.Attribute.{Attribute}
use Rattle.manifest_tree.specs.Tree.{Tree, tree, none, trees}

-- an attribute
abbrev pub named : List ℕ → List ℕ → Attribute
named name value = record { name = name; value = value }

-- the attribute of a name and a value that are pointed to
abbrev pub pair_named : Bor (List ℕ) × Bor (List ℕ) → Attribute
pair_named pair = named pair.0.now pair.1.now

-- an element without text
abbrev pub element : List ℕ → List Attribute → List Tree → Tree
element name attributes children = tree name attributes (trees children) []

-- an element with neither children nor text
abbrev pub leaf : List ℕ → List Attribute → Tree
leaf name attributes = element name attributes []

-- ---- the root

abbrev pub root_attributes : List Attribute
root_attributes =
    named (codes "manifestVersion") (codes "1.0")
    ∷ named (codes "xmlns:asmv1") (codes "urn:schemas-microsoft-com:asm.v1")
    ∷ named (codes "xmlns") (codes "urn:schemas-microsoft-com:asm.v2")
    ∷ named (codes "xmlns:asmv2") (codes "urn:schemas-microsoft-com:asm.v2")
    ∷ named (codes "xmlns:dsig") (codes "http://www.w3.org/2000/09/xmldsig#")
    ∷ []

-- the root of a manifest
unfoldable pub root_tree : List Tree → Tree
root_tree children = element (codes "asmv1:assembly") root_attributes children

-- ---- identities

-- the kind, where it is not empty
abbrev pub kind_attributes : List ℕ → List Attribute
kind_attributes [] = []
kind_attributes (c ∷ cs) = named (codes "type") (c ∷ cs) ∷ []

abbrev pub key_attributes : Key → List ℕ → List Attribute
key_attributes key version =
    named (codes "name") key.name
    ∷ named (codes "version") version
    ∷ named (codes "publicKeyToken") key.token
    ∷ named (codes "language") key.language
    ∷ named (codes "processorArchitecture") key.architecture
    ∷ []

abbrev pub identity_attributes : Identity → List Attribute
identity_attributes identity =
    key_attributes identity.key (version_text identity.version) ++ kind_attributes identity.kind

-- an identity under a name, which is `assemblyIdentity` with a prefix or without
unfoldable pub identity_tree : List ℕ → Identity → Tree
identity_tree name identity = leaf name (identity_attributes identity)

-- the identity of a manifest
abbrev pub own_identity_tree : Identity → Tree
own_identity_tree identity = identity_tree (codes "asmv1:assemblyIdentity") identity

-- ---- digests

-- the transform that leaves the bytes as they are
abbrev pub transforms_tree : Tree
transforms_tree =
    element (codes "dsig:Transforms") []
    (leaf (codes "dsig:Transform")
    (named (codes "Algorithm") (codes "urn:schemas-microsoft-com:HashTransforms.Identity") ∷ [])
    ∷ [])

abbrev pub method_tree : Digest → Tree
method_tree digest =
    leaf (codes "dsig:DigestMethod") (named (codes "Algorithm") (uri_of digest.algorithm) ∷ [])

-- its text is the digest in base64
abbrev pub value_tree : Digest → Tree
value_tree digest = tree (codes "dsig:DigestValue") [] none (encode_of standard digest.value)

unfoldable pub hash_tree : Digest → Tree
hash_tree digest =
    element (codes "hash") [] (transforms_tree ∷ method_tree digest ∷ value_tree digest ∷ [])

-- one `hash` per digest, in order
abbrev pub hash_trees : List Digest → List Tree
hash_trees digests = map hash_tree digests
