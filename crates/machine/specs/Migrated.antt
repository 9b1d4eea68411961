-- The data files of a new version: which old ones stay, which are kept aside, and which come fresh.
-- The listed digests decide, never the bytes that are there now.
use Rattle.std.specs.Prelude.{◌≡◌, ◌≢◌, ◌⊎◌, ◌↔◌, ℕ, Bool, true, false, not, ◌&&◌, List, [], ◌∷◌, ◌++◌, AllPairs, Contains, codes, filter, find, flat_map, map, bytes_eq, Option, Some, None, if◌then◌else◌}
use Rattle.std.specs.List.{list_any}
use Rattle.std.specs.declared.cmp.Ordering.TheVariants.{Less}
use Rattle.small_types.specs.Name.{IsBelowPre}
use Rattle.identity.specs.Printed.{text_cmp}
use Rattle.manifests.specs.declared.facts.FileEntry.{FileEntry}
use Rattle.manifests.specs.Applications.{is_below_pre}
use Rattle.machine.specs.Views.{DataFile, ListedFile, same_content}

-- ---- names

-- the data file of that name that a release deploys
abbrev pub deployed : List FileEntry → List ℕ → Option FileEntry
deployed files name = find (λ entry. entry.local && bytes_eq entry.name name) files

-- the new release does not deploy it, or both releases do, with equal content keys
abbrev pub is_same : Option FileEntry → Option FileEntry → Bool
is_same before None = true
is_same None (Some now) = false
is_same (Some before) (Some now) = same_content before now

-- an old data file of that name stays under it
abbrev pub stays : List FileEntry → List FileEntry → List ℕ → Bool
stays old_files new_files name = is_same (deployed old_files name) (deployed new_files name)

-- else it is kept below `.pre`
abbrev pub aside : List ℕ → List ℕ
aside name = codes ".pre/" ++ name

-- ---- data files

-- an old data file outside `.pre` that stays
pub record IsKept (old : List DataFile) (old_files new_files : List FileEntry)
    (file : DataFile) : Type 0 where
  pub there : Contains old file
  pub outside : ¬ IsBelowPre file.name
  pub same : stays old_files new_files file.name ≡ true

-- the bytes of an old data file outside `.pre` that does not stay
pub record IsAside (old : List DataFile) (old_files new_files : List FileEntry)
    (file : DataFile) : Type 0 where
  pub from : DataFile
  pub there : Contains old from
  pub outside : ¬ IsBelowPre from.name
  pub other : stays old_files new_files from.name ≡ false
  pub name : file.name ≡ aside from.name
  pub bytes : file.bytes ≡ from.bytes

-- a data file that the new release deploys, where no old one stays under its name
pub record IsFresh (old : List DataFile) (old_files new_files : List FileEntry)
    (originals : List ListedFile) (file : DataFile) : Type 0 where
  pub original : ListedFile
  pub deployed : Contains originals original
  pub name : file.name ≡ original.entry.name
  pub bytes : file.bytes ≡ original.bytes
  pub alone : (kept : DataFile) → IsKept old old_files new_files kept
      → ◌≢◌ {A = List ℕ} kept.name file.name

-- These and no others, in order of their names. The originals are the data files that the new
-- release deploys, as listed.
pub record Migrated (old : List DataFile) (old_files new_files : List FileEntry)
    (originals : List ListedFile) (new : List DataFile) : Type 0 where
  pub order : AllPairs (λ (f g : DataFile). text_cmp f.name g.name ≡ Less) new
  pub files : (file : DataFile) → Contains new file
      ↔ (IsKept old old_files new_files file ⊎ IsAside old old_files new_files file
      ⊎ IsFresh old old_files new_files originals file)

-- ---- the same of names alone, before a file is there

-- an old data file outside `.pre` keeps the name or is kept aside; one below it is dropped
abbrev pub moved : List FileEntry → List FileEntry → List ℕ → List (List ℕ)
moved old_files new_files name =
    if is_below_pre name then []
    else if stays old_files new_files name then name ∷ [] else aside name ∷ []

-- no old data file stays under the name
abbrev pub is_fresh : List (List ℕ) → List FileEntry → List FileEntry → List ℕ → Bool
is_fresh old old_files new_files name =
    not (list_any
    (λ other. bytes_eq other name && not (is_below_pre other) && stays old_files new_files other)
    old)

-- the names of the new data files, in no order
abbrev pub migrated_names : List (List ℕ) → List FileEntry → List FileEntry → List (List ℕ)
migrated_names old old_files new_files =
    flat_map (moved old_files new_files) old
    ++ filter (is_fresh old old_files new_files)
    (map (λ entry. entry.name) (filter (λ entry. entry.local) new_files))
