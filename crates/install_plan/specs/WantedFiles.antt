-- How the wanted files are found: contents that were wanted before are looked up by a text of each.
use Rattle.std.specs.Prelude.{◌≡◌, ℕ, Bool, false, List, [], ◌∷◌, ◌++◌, String, codes, decimal, flat_map, slice_get, Option, Some, None, Result, Err, if◌then◌else◌}
use Rattle.std.specs.BTreeMap.{BTreeMap, get_by_text}
use Rattle.std.specs.List.{list_any}
use Rattle.hex.specs.Hex.{encode_lower}
use Rattle.small_types.specs.declared.target.Target.{Target}
use Rattle.addresses.specs.declared.fault.UrlFault.{UrlFault}
use Rattle.addresses.specs.declared.fault.UrlFault.TheVariants.{BadUrl}
use Rattle.addresses.specs.declared.file_base.FileBase.{FileBase}
use Rattle.addresses.specs.FileBase.{document_of}
use Rattle.addresses.specs.Join.{file_target_beside, file_target_of}
use Rattle.digest_list.specs.declared.digest.Digest.{Digest}
use Rattle.digest_list.specs.Algorithm.{name_of}
use Rattle.manifests.specs.declared.facts.FileEntry.{FileEntry}
use Rattle.machine.specs.Blocks.{blocks_of}
use Rattle.machine.specs.Views.{same_content}
use Rattle.machine.specs.Wanted.{is_held, wanted_beside}

-- ---- the texts of contents

abbrev pub digest_text : Digest → List ℕ
digest_text digest = codes " " ++ name_of digest.algorithm ++ encode_lower digest.value

-- files of one content have one text
abbrev pub content_text : ℕ → List Digest → List ℕ
content_text size list = decimal size ++ flat_map digest_text list

-- ---- contents that were wanted

-- the places that stand under a text
abbrev pub places_in : Option (List ℕ) → List ℕ
places_in None = []
places_in (Some places) = places

abbrev pub row : {A : Type 0} → BTreeMap (String A) (List ℕ) → List ℕ → List ℕ
row table text = places_in (get_by_text table text)

-- the file at the place has the content
abbrev pub has_content : FileEntry → Option FileEntry → Bool
has_content entry None = false
has_content entry (Some other) = same_content entry other

-- one of the files at the places has it
abbrev pub is_among : List FileEntry → FileEntry → List ℕ → Bool
is_among files entry places = list_any (λ place. has_content entry (slice_get files place)) places

-- the table has the contents of these files, and no others
abbrev pub Knows : {A : Type 0} → List FileEntry → BTreeMap (String A) (List ℕ)
    → List FileEntry → Type 0
Knows files table taken = (entry : FileEntry)
    → is_among files entry (row table (content_text entry.size entry.list)) ≡ is_held taken entry

-- A file is wanted or not, beside the held ones and those that were taken before. The table has
-- what is taken then.
pub record Takes {A : Type 0} (files held taken : List FileEntry) (entry : FileEntry)
    (table : BTreeMap (String A) (List ℕ)) (wanted : Bool) : Type 0 where
  pub next : List FileEntry
  pub knows : Knows files table next
  pub same : (rest : List FileEntry) → wanted_beside (taken ++ held) (entry ∷ rest)
      ≡ (if wanted then entry ∷ wanted_beside (next ++ held) rest
      else wanted_beside (next ++ held) rest)

-- ---- what is found at places

-- the address of the file at a place
abbrev pub target_at : Target → Bool → Option FileEntry → Result Target UrlFault
target_at base mapped None = Err BadUrl
target_at base mapped (Some entry) = file_target_of base mapped entry.name

-- the same where the base was read
abbrev pub joined_at : FileBase → Bool → Option FileEntry → Result Target UrlFault
joined_at base mapped None = Err BadUrl
joined_at base mapped (Some entry) = file_target_beside (document_of base) mapped entry.name

-- its blocks
abbrev pub blocks_at : Option FileEntry → ℕ
blocks_at None = 0
blocks_at (Some entry) = blocks_of entry.size
