-- Which store tables show, given its room and the image of its disk.
use Rattle.std.specs.Prelude.{◌≡◌, ℕ, List, [], ◌∷◌, All, IsSome, Option, Some, None, map}
use Rattle.small_types.specs.declared.room.Room.{Room}
use Rattle.manifests.specs.declared.facts.FileEntry.{FileEntry}
use Rattle.machine.specs.Store.{Store}
use Rattle.machine.specs.Views.{DataFile, ListedFile, standing_entries}
use Rattle.machine.specs.Views.{View as KeptView}
use Rattle.store_state.specs.declared.change.Change.{Change}
use Rattle.store_state.specs.declared.change.Change.TheVariants.{Boot, Require, Install, Heard, Unheard, Skip, Rollback, Launch, Finish, Group, Put, Remove, Clean}
use Rattle.store_state.specs.declared.view.Content.{Content}
use Rattle.store_state.specs.declared.view.LocalFile.{LocalFile}
use Rattle.store_state.specs.declared.view.View.{View}
use Rattle.store_state.specs.Contents.{content_of}
use Rattle.store_state.specs.Stored.{HasContents, HasLocals, SameContents, SameLocals, content_bytes, data_bytes}
use Rattle.store_state.specs.Tables.{Tables}

-- the bytes of a file: those of its content
abbrev pub bytes_in : Room → List ℕ → Option Content → List ℕ
bytes_in room image None = []
bytes_in room image (Some content) = content_bytes room image content

abbrev pub shown_file : Room → List ℕ → List Content → FileEntry → ListedFile
shown_file room image contents entry =
    record { entry = entry; bytes = bytes_in room image (content_of contents entry) }

abbrev pub shown_data : Room → List ℕ → LocalFile → DataFile
shown_data room image file = record { name = file.name; bytes = data_bytes room image file }

-- the view with the whole bytes of its files
abbrev pub shown_view : Room → List ℕ → List Content → View → KeptView
shown_view room image contents view = record {
  number = view.number;
  deployment = view.deployment;
  application = view.application;
  base = view.base;
  groups = view.groups;
  program_files = map (shown_file room image contents)
      (standing_entries view.groups view.application);
  data_files = map (shown_data room image) view.locals;
}

abbrev pub shown_store : Room → List ℕ → Tables → Store
shown_store room image tables = record {
  room = room;
  boot = tables.boot;
  next_view = tables.next_view;
  next_lease = tables.next_lease;
  leases = tables.leases;
  views = map (shown_view room image tables.contents) tables.views;
  apps = tables.apps;
}

-- both images have the same bytes in the files that the tables name
pub record SameFiles (room : Room) (tables : Tables) (image later : List ℕ) : Type 0 where
  pub contents : SameContents room image later tables.contents
  pub locals : All (λ view. SameLocals room image later view.locals) tables.views

-- the image has the bytes of the files that the change brings
abbrev pub HoldsNew : Room → Change → List ℕ → Type 0
HoldsNew room (Install view contents provider now) image =
    HasContents room image contents × HasLocals room image view.locals
HoldsNew room (Group number group contents) image = HasContents room image contents
HoldsNew room (Put number file) image = HasLocals room image (file ∷ [])
HoldsNew room (Boot boot) image = Unit {0}
HoldsNew room (Require key version) image = Unit {0}
HoldsNew room (Heard key version minimum now) image = Unit {0}
HoldsNew room (Unheard key) image = Unit {0}
HoldsNew room (Skip app) image = Unit {0}
HoldsNew room (Rollback app) image = Unit {0}
HoldsNew room (Launch app) image = Unit {0}
HoldsNew room (Finish lease) image = Unit {0}
HoldsNew room (Remove number name) image = Unit {0}
HoldsNew room Clean image = Unit {0}

-- Each program file that stands has its content, and each content and each data file has as many
-- bytes in the image as its length says.
pub record Shows (room : Room) (tables : Tables) (image : List ℕ) (store : Store) : Type 0 where
  pub is : store ≡ shown_store room image tables
  pub held : All (λ view. All (λ entry. IsSome (content_of tables.contents entry))
      (standing_entries view.groups view.application)) tables.views
  pub whole : HasContents room image tables.contents
  pub measured : All (λ view. HasLocals room image view.locals) tables.views
