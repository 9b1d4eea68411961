-- The program files that tables show, by their names.
use Rattle.std.proofs.Common.{◌≡◌, ◌∙◌, refl, sym, ap, ◌==◌, bytes_eq, ℕ, List, map, Option, Some, None}
use Rattle.std.specs.Prelude.{is_some, option_and_then, option_map}
use Rattle.small_types.specs.declared.room.Room.{Room}
use Rattle.manifests.specs.declared.facts.FileEntry.{FileEntry}
use Rattle.machine.specs.Current.{bare_view_at, view_at}
use Rattle.machine.specs.ReadRow.{entry_named, file_named}
use Rattle.machine.specs.Shape.{BareView}
use Rattle.machine.specs.Store.{Store}
use Rattle.machine.specs.Views.{ListedFile, standing_entries}
use Rattle.machine.specs.Views.{View as KeptView}
use Rattle.machine.proofs.FirstFound.{find-map}
use Rattle.store_state.specs.declared.view.Content.{Content}
use Rattle.store_state.specs.declared.view.View.{View}
use Rattle.store_state.specs.Contents.{content_of}
use Rattle.store_state.specs.Named.{file_at, named_at, named_in}
use Rattle.store_state.specs.Rows.{row_at}
use Rattle.store_state.specs.Shows.{Shows, bytes_in, shown_file, shown_view}
use Rattle.store_state.specs.Tables.{Tables, bare_row, table_shape}
use Rattle.store_state.proofs.Current.{bare_at}

-- the view of a number, as it is shown
pub row_shown : (room : Room) (image : List ℕ) (number : ℕ) (contents : List Content)
    (views : List View)
    → view_at number (map (shown_view room image contents) views) ≡ option_map (shown_view room image contents)
    (row_at number views)
row_shown room image number contents views =
    find-map (shown_view room image contents) (λ (view : KeptView). view.number == number) views

-- ---- the bytes

file_bytes : Option ListedFile → Option (List ℕ)
file_bytes o = option_map (λ (file : ListedFile). file.bytes) o

module _ (room : Room) (image name : List ℕ) (contents : List Content) where
  bytes_of : (o : Option FileEntry)
      → option_map (λ (entry : FileEntry). bytes_in room image (content_of contents entry)) o ≡ file_bytes
      (option_map (shown_file room image contents) o)
  unfolding file_bytes
  bytes_of None = refl
  bytes_of (Some entry) = refl

  shown_named : (view : View) → option_map (shown_file room image contents) (named_in name view) ≡ file_named
      name (shown_view room image contents view).program_files
  shown_named view =
      sym (find-map (shown_file room image contents) (λ (file : ListedFile). bytes_eq file.entry.name name)
      (standing_entries view.groups view.application))

  shown_bytes : (row : Option View)
      → option_map (λ (entry : FileEntry). bytes_in room image (content_of contents entry))
      (option_and_then (named_in name) row) ≡ option_and_then
      (λ (view : KeptView). file_bytes (file_named name view.program_files))
      (option_map (shown_view room image contents) row)
  shown_bytes None = refl
  shown_bytes (Some view) = bytes_of (named_in name view) ∙ ap file_bytes (shown_named view)

pub files_shown : (room : Room) (tables : Tables) (number : ℕ) (name image : List ℕ) (store : Store)
    → Shows room tables image store
    → file_at room image number name tables ≡ option_and_then
    (λ (view : KeptView). option_map (λ (file : ListedFile). file.bytes)
    (file_named name view.program_files)) (view_at number store.views)
unfolding file_bytes
files_shown room tables number name image store shows =
    shown_bytes room image name tables.contents (row_at number tables.views)
    ∙ ap (λ (o : Option KeptView). option_and_then
    (λ (view : KeptView). file_bytes (file_named name view.program_files)) o)
    (sym (row_shown room image number tables.contents tables.views))
    ∙ ap (λ (s : Store). option_and_then
    (λ (view : KeptView). file_bytes (file_named name view.program_files))
    (view_at number s.views)) (sym shows.is)

-- ---- whether there is one

pub mapped_some : {X Y : Type 0} (f : X → Y) (o : Option X) → is_some (option_map f o) ≡ is_some o
mapped_some f None = refl
mapped_some f (Some x) = refl

bare_named : (name : List ℕ) (row : Option View)
    → option_and_then (named_in name) row ≡ option_and_then
    (λ (view : BareView). entry_named name (standing_entries view.groups view.application))
    (option_map bare_row row)
bare_named name None = refl
bare_named name (Some view) = refl

pub names_shown : (room : Room) (tables : Tables) (number : ℕ) (name : List ℕ)
    → is_some (named_at number name tables) ≡ is_some
    (option_and_then
    (λ (view : BareView). entry_named name (standing_entries view.groups view.application))
    (bare_view_at number (table_shape room tables).views))
names_shown room tables number name =
    ap is_some (bare_named name (row_at number tables.views)
    ∙ ap (λ (o : Option BareView). option_and_then
    (λ (view : BareView). entry_named name (standing_entries view.groups view.application)) o)
    (bare_at number tables.views))
