-- A store whose files are those of whole releases.
use Rattle.std.specs.Prelude.{◌≡◌, ◌≢◌, List, All, AllPairs, flat_map}
use Rattle.digest_list.specs.Matches.{Matches}
use Rattle.machine.specs.Store.{Store}
use Rattle.machine.specs.Valid.{Valid}
use Rattle.machine.specs.Views.{DataFile, ListedFile, View, content_key}

-- the bytes have the size and the digests that the manifest lists
abbrev pub IsWhole : ListedFile → Type 0
IsWhole file = Matches file.entry.list file.entry.size file.bytes

-- One release: the application is the listed one, each program file has the listed bytes, and no
-- two data files have one name. Which program files stand, a valid store says.
pub record IsSoundView (view : View) : Type 0 where
  pub key : view.application.identity.key ≡ view.deployment.app.key
  pub version : view.application.identity.version ≡ view.deployment.app.version
  pub whole : All IsWhole view.program_files
  pub data_names : AllPairs (λ (f g : DataFile). ◌≢◌ {A = List _} f.name g.name) view.data_files

-- the program files of all kept views
abbrev pub program_files_of : Store → List ListedFile
program_files_of store = flat_map (λ view. view.program_files) store.views

-- files with equal content keys have equal bytes
abbrev pub ShareBytes : List ListedFile → Type 0
ShareBytes files =
    AllPairs (λ (f g : ListedFile).
    content_key f.entry ≡ content_key g.entry → f.bytes ≡ g.bytes) files

pub record Sound (store : Store) : Type 0 where
  pub valid : Valid store
  pub views : All IsSoundView store.views
  pub shared : ShareBytes (program_files_of store)
