-- How values are spelled as bytes: each field behind the one before it, in the order of its type.
use Rattle.std.specs.Prelude.{ℕ, Bool, true, false, List, [], ◌∷◌, ◌++◌, flat_map, length, Option, Some, None}
use Rattle.std.specs.Int.{to_be_bytes, w16, w32, w64}
use Rattle.small_types.specs.declared.target.Target.{Target}
use Rattle.identity.specs.declared.identity.Identity.{Identity}
use Rattle.digest_list.specs.declared.algorithm.Algorithm.{Algorithm}
use Rattle.digest_list.specs.declared.algorithm.Algorithm.TheVariants.{Sha1, Sha256, Sha384, Sha512}
use Rattle.digest_list.specs.declared.digest.Digest.{Digest}
use Rattle.manifests.specs.declared.facts.Application.{Application}
use Rattle.manifests.specs.declared.facts.Deployment.{Deployment}
use Rattle.manifests.specs.declared.facts.FileEntry.{FileEntry}
use Rattle.manifests.specs.declared.facts.Rule.{Rule}
use Rattle.manifests.specs.declared.facts.Rule.TheVariants.{Never, Before, Age}
use Rattle.record_fields.specs.declared.numbers.TheConstants.{AGE_RULE, BEFORE_RULE, FALSE_BYTE, NEVER_RULE, SHA1_NUMBER, SHA256_NUMBER, SHA384_NUMBER, SHA512_NUMBER, TRUE_BYTE}
use Rattle.record_fields.specs.Fields.{text_field, key_field, version_field}

-- ---- forms

-- a truth value is a byte
abbrev pub truth_field : Bool → List ℕ
truth_field false = FALSE_BYTE ∷ []
truth_field true = TRUE_BYTE ∷ []

-- an optional value says whether it is there, and then what it is
abbrev pub option_field : {X : Type 0} → (X → List ℕ) → Option X → List ℕ
option_field field None = FALSE_BYTE ∷ []
option_field field (Some x) = TRUE_BYTE ∷ field x

-- a list is the number of its items and the items
unfoldable pub list_field : {X : Type 0} → (X → List ℕ) → List X → List ℕ
list_field field items = to_be_bytes w32 (length items) ++ flat_map field items

-- ---- addresses and identities

unfoldable pub target_field : Target → List ℕ
target_field t = text_field t.host ++ (to_be_bytes w16 t.port ++ text_field t.path)

unfoldable pub identity_field : Identity → List ℕ
identity_field i = key_field i.key ++ (version_field i.version ++ text_field i.kind)

-- ---- rules

-- the number of the variant, and its field
unfoldable pub rule_field : Rule → List ℕ
rule_field Never = NEVER_RULE ∷ []
rule_field Before = BEFORE_RULE ∷ []
rule_field (Age seconds) = AGE_RULE ∷ to_be_bytes w64 seconds

-- ---- digests

abbrev pub algorithm_number : Algorithm → ℕ
algorithm_number Sha1 = SHA1_NUMBER
algorithm_number Sha256 = SHA256_NUMBER
algorithm_number Sha384 = SHA384_NUMBER
algorithm_number Sha512 = SHA512_NUMBER

unfoldable pub digest_field : Digest → List ℕ
digest_field d = algorithm_number d.algorithm ∷ text_field d.value

-- ---- manifests

unfoldable pub entry_field : FileEntry → List ℕ
entry_field e =
    text_field e.name ++ (to_be_bytes w64 e.size ++ (list_field digest_field e.list
    ++ (option_field text_field e.group ++ truth_field e.local)))

-- what comes before the codebase, and what comes from it on
unfoldable pub terms_field : Deployment → List ℕ
terms_field d =
    identity_field d.identity ++ (truth_field d.install ++ (option_field version_field d.minimum
    ++ (truth_field d.mapped ++ (rule_field d.rule ++ option_field text_field d.provider))))

unfoldable pub listed_field : Deployment → List ℕ
listed_field d =
    text_field d.codebase ++ (identity_field d.app ++ (to_be_bytes w64 d.app_size
    ++ list_field digest_field d.app_list))

unfoldable pub deployment_field : Deployment → List ℕ
deployment_field d = terms_field d ++ listed_field d

unfoldable pub application_field : Application → List ℕ
application_field a =
    identity_field a.identity ++ (text_field a.entry ++ (text_field a.parameters
    ++ list_field entry_field a.files))
