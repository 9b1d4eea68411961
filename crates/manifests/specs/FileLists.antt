-- What holds of the files of each application.
use Rattle.std.specs.Prelude.{◌≡◌, ◌≤◌, List, length, Ok}
use Rattle.std.specs.List.{AllPairs}
use Rattle.small_types.specs.declared.limits.TheConstants.{FILE_COUNT_LIMIT, LOCAL_COUNT_LIMIT}
use Rattle.manifest_tree.specs.Tree.{Tree}
use Rattle.manifests.specs.declared.facts.FileEntry.{FileEntry}
use Rattle.manifests.specs.declared.facts.Application.{Application}
use Rattle.manifests.specs.Applications.{locals, application_of}

-- no two files have one name
abbrev pub NamesDiffer : List FileEntry → Type 0
NamesDiffer entries = AllPairs (λ (e : FileEntry) (f : FileEntry). ¬ (e.name ≡ f.name)) entries

-- at most 16,384 files, of names that differ, and among them at most 256 data files
pub record AreFiles (entries : List FileEntry) : Type 0 where
  pub few : length entries ≤ FILE_COUNT_LIMIT
  pub few_local : locals entries ≤ LOCAL_COUNT_LIMIT
  pub differ : NamesDiffer entries

-- the files of each application are so
abbrev pub ApplicationsHaveFiles : Type 0
ApplicationsHaveFiles = (t : Tree) (a : Application) → application_of t ≡ Ok a → AreFiles a.files
