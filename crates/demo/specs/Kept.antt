-- The program files of kept views, in a store and in tables.
use Rattle.std.specs.Prelude.{◌≡◌, ◌&&◌, ℕ, false, not, List, [], All, filter, map, None}
use Rattle.small_types.specs.declared.room.Room.{Room}
use Rattle.folders.specs.declared.folder.Held.{Held}
use Rattle.manifests.specs.declared.facts.FileEntry.{FileEntry}
use Rattle.machine.specs.Store.{Store}
use Rattle.machine.specs.Views.{ListedFile, standing_entries, stands_by}
use Rattle.store_state.specs.declared.view.Content.{Content}
use Rattle.store_state.specs.declared.view.View.{View}
use Rattle.store_state.specs.Contents.{content_of}
use Rattle.store_state.specs.Shows.{bytes_in}
use Rattle.store_state.specs.Tables.{Tables}
use Rattle.generated_release.specs.Files.{file_below, file_name, generated_files}

-- ---- in a store

-- a program file by its name and its bytes
abbrev pub held_of : ListedFile → Held
held_of file = record { name = file.entry.name; bytes = file.bytes }

-- the program files of each kept view are the generated ones of its version, in their order
abbrev pub KeepsGenerated : ℕ → Store → Type 0
KeepsGenerated seed store =
    All (λ view. map held_of view.program_files
    ≡ generated_files seed view.deployment.identity.version.a) store.views

-- ---- in tables

-- those of the files that stand where these groups do
abbrev pub standing_of : List (List ℕ) → List FileEntry → List FileEntry
standing_of groups files =
    filter (λ entry. not entry.local && stands_by groups entry.group) files

-- a program file of tables by its name and its bytes in an image of the disk
abbrev pub held_in : Room → List ℕ → List Content → FileEntry → Held
held_in room image contents entry =
    record { name = entry.name; bytes = bytes_in room image (content_of contents entry) }

-- a program file in no group that has the name of the generated one
pub record IsProgramFile (file : ℕ) (entry : FileEntry) : Type 0 where
  pub program : entry.local ≡ false
  pub alone : entry.group ≡ None
  pub named : entry.name ≡ file_name file

-- the file stands whatever groups do, and is the generated one
pub record IsGenerated (held : FileEntry → Held) (seed version file : ℕ) (entry : FileEntry)
    : Type 0 where
  pub program : entry.local ≡ false
  pub alone : entry.group ≡ None
  pub is : held entry ≡ file_below [] seed version file

-- the program files of a view in tables are the generated ones of its version, in their order
abbrev pub HasGenerated : Room → List ℕ → ℕ → List Content → View → Type 0
HasGenerated room image seed contents view =
    map (held_in room image contents) (standing_entries view.groups view.application)
    ≡ generated_files seed view.deployment.identity.version.a

-- so are those of each view
abbrev pub TablesKeep : Room → List ℕ → ℕ → Tables → Type 0
TablesKeep room image seed tables =
    All (HasGenerated room image seed tables.contents) tables.views
