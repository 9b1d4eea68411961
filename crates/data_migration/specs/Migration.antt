-- Which data files plans make, and when they are those of a new version.
use Rattle.std.specs.Prelude.{◌≡◌, ◌≢◌, ◌≤◌, ◌⊎◌, ℕ, List, [], All, AllPairs, Contains, bytes_eq, filter, find, length, map, Option, Some, None}
use Rattle.small_types.specs.declared.limits.TheConstants.{LOCAL_NAME_LIMIT}
use Rattle.small_types.specs.Name.{IsBelowPre}
use Rattle.manifests.specs.declared.facts.FileEntry.{FileEntry}
use Rattle.machine.specs.Migrated.{Migrated, aside}
use Rattle.machine.specs.Views.{DataFile, ListedFile}
use Rattle.store_state.specs.declared.view.LocalFile.{LocalFile}
use Rattle.data_migration.specs.declared.plan.LocalPlan.{LocalPlan}
use Rattle.data_migration.specs.declared.plan.LocalPlan.TheVariants.{Copy, Fresh}
use Rattle.data_migration.specs.Plans.{local_names}

-- the data files that a release deploys
abbrev pub deployed_files : List FileEntry → List FileEntry
deployed_files files = filter (λ entry. entry.local) files

-- ---- what is given

-- the name of an old data file outside `.pre` leaves room for `.pre/` before it
abbrev pub IsMovable : LocalFile → Type 0
IsMovable file = ¬ IsBelowPre file.name → length file.name ≤ LOCAL_NAME_LIMIT

-- The names of the old data files differ, as do those of the data files that the new release
-- deploys, none of which is below `.pre`.
pub record AreApart (old : List LocalFile) (new_files : List FileEntry) : Type 0 where
  pub old_names : AllPairs (λ (f g : LocalFile). ◌≢◌ {A = List ℕ} f.name g.name) old
  pub new_names : AllPairs (λ (e f : FileEntry). ◌≢◌ {A = List ℕ} e.name f.name)
      (deployed_files new_files)
  pub outside : All (λ entry. ¬ IsBelowPre entry.name) (deployed_files new_files)

-- ---- plans

-- there is an old data file of the name, which keeps it or is kept aside; or the new release deploys
-- one
abbrev pub HasSource : List LocalFile → List FileEntry → LocalPlan → Type 0
HasSource old new_files (Copy from to) =
    Contains (local_names old) from × ((to ≡ from) ⊎ (to ≡ aside from))
HasSource old new_files (Fresh name) =
    Contains (map (λ entry. entry.name) (deployed_files new_files)) name

-- the bytes of the data file of the name
abbrev pub bytes_in : Option DataFile → List ℕ
bytes_in None = []
bytes_in (Some file) = file.bytes

abbrev pub data_bytes : List DataFile → List ℕ → List ℕ
data_bytes files name = bytes_in (find (λ file. bytes_eq file.name name) files)

-- the bytes of the listed file of the name
abbrev pub listed_in : Option ListedFile → List ℕ
listed_in None = []
listed_in (Some file) = file.bytes

abbrev pub listed_bytes : List ListedFile → List ℕ → List ℕ
listed_bytes files name = listed_in (find (λ file. bytes_eq file.entry.name name) files)

-- the data file that a plan makes of the old ones, and of those that the new release deploys
abbrev pub made : List DataFile → List ListedFile → LocalPlan → DataFile
made old originals (Copy from to) = record { name = to; bytes = data_bytes old from }
made old originals (Fresh name) = record { name = name; bytes = listed_bytes originals name }

abbrev pub applied : List DataFile → List ListedFile → List LocalPlan → List DataFile
applied old originals plans = map (made old originals) plans

-- Whatever bytes the old data files have, and the ones that the new release deploys, the plans make the
-- data files of the new version.
abbrev pub IsMigration :
    List LocalFile → List FileEntry → List FileEntry → List LocalPlan → Type 0
IsMigration old old_files new_files plans = (files : List DataFile) (originals : List ListedFile)
    → map (λ file. file.name) files ≡ local_names old → AreApart old new_files
    → map (λ file. file.entry) originals ≡ deployed_files new_files
    → Migrated files old_files new_files originals (applied files originals plans)
