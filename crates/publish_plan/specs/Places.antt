-- The names that a publish writes.
use Rattle.std.specs.Prelude.{ℕ, Bool, List, [], ◌∷◌, ◌++◌, length, decimal, map, filter, drop, codes, ◌==◌, ◌&&◌, ◌||◌, nat_eq, nat_lt, nat_le, if◌then◌else◌}
use Rattle.std.specs.Char.{is_ascii_alphanumeric}
use Rattle.std.specs.List.{join_with_byte, list_all, starts_with}
use Rattle.identity.specs.declared.version.Version.{Version}
use Rattle.publish_plan.specs.declared.options.Options.{Options}
use Rattle.publish_plan.specs.declared.places.TheConstants.{PLAIN_NAME_LIMIT}

-- a letter, a digit, `.`, `_`, `-` or a space
abbrev pub is_plain_byte : ℕ → Bool
is_plain_byte b = is_ascii_alphanumeric b || b == 46 || b == 95 || b == 45 || b == 32

-- 1 to 100 such bytes
unfoldable pub is_plain_name : List ℕ → Bool
is_plain_name word =
    nat_lt 0 (length word) && nat_le (length word) PLAIN_NAME_LIMIT && list_all is_plain_byte word

-- a name in a folder
abbrev pub within : List ℕ → List ℕ → List ℕ
within folder name = folder ++ 47 ∷ name

-- with what the names in a folder begin
abbrev pub front_of : List ℕ → List ℕ
front_of folder = within folder []

-- a name has this front
abbrev pub has_front : List ℕ → List ℕ → Bool
has_front front name = starts_with nat_eq name front

-- what stands behind it
abbrev pub behind : List ℕ → List ℕ → List ℕ
behind front name = drop (length front) name

-- those of the names that have this front, without it, in their order
abbrev pub all_behind : List ℕ → List (List ℕ) → List (List ℕ)
all_behind front names = map (behind front) (filter (has_front front) names)

-- a name begins with that of a folder and a slash
abbrev pub lies_below : List ℕ → List ℕ → Bool
lies_below folder name = has_front (front_of folder) name

-- the names of the files that are published: those below the folder, without it, in their order
abbrev pub input_names : List ℕ → List (List ℕ) → List (List ℕ)
input_names folder names = all_behind (front_of folder) names

-- the four numbers with `_` between them
unfoldable pub version_word : Version → List ℕ
version_word v = join_with_byte 95 (decimal v.a ∷ decimal v.b ∷ decimal v.c ∷ decimal v.d ∷ [])

-- the name and the version
unfoldable pub release_word : Options → List ℕ
release_word o = o.name ++ 95 ∷ version_word o.version

-- the folder of the version
unfoldable pub version_folder : Options → List ℕ
version_folder o = within o.to (within (codes "Application Files") (release_word o))

abbrev pub deploy_end : Bool → List ℕ
deploy_end mapped = if mapped then codes ".deploy" else []

-- the name that a file is written under
unfoldable pub target_name : Options → List ℕ → List ℕ
target_name o file = within (version_folder o) (file ++ deploy_end o.mapped)

abbrev pub manifest_end : List ℕ
manifest_end = codes ".manifest"

-- the name that the application manifest is written under
unfoldable pub manifest_name : Options → List ℕ
manifest_name o = within (version_folder o) (o.entry ++ manifest_end)

-- the name that the deployment manifest is written under
unfoldable pub deployment_name : Options → List ℕ
deployment_name o = within o.to (o.name ++ codes ".application")

-- the address of the application manifest in that of the deployment, with backslashes
unfoldable pub codebase : Options → List ℕ
codebase o = codes "Application Files" ++ 92 ∷ (release_word o ++ 92 ∷ (o.entry ++ manifest_end))
