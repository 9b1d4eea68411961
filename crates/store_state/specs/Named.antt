-- Program files by their names.
use Rattle.std.specs.Prelude.{◌≡◌, ℕ, List, Option, Some, AllPairs, length, map, option_and_then, option_map, slice_get}
use Rattle.small_types.specs.declared.room.Room.{Room}
use Rattle.identity.specs.Printed.{text_cmp}
use Rattle.manifests.specs.declared.facts.FileEntry.{FileEntry}
use Rattle.machine.specs.ReadRow.{entry_named}
use Rattle.machine.specs.Views.{standing_entries}
use Rattle.store_state.specs.declared.view.Content.{Content}
use Rattle.store_state.specs.declared.view.View.{View}
use Rattle.store_state.specs.Contents.{content_of}
use Rattle.store_state.specs.Places.{ArePlaces}
use Rattle.store_state.specs.Rows.{row_at}
use Rattle.store_state.specs.Shows.{bytes_in}
use Rattle.store_state.specs.Tables.{Tables}

-- the program file of that name that stands in the view
abbrev pub named_in : List ℕ → View → Option FileEntry
named_in name view = entry_named name (standing_entries view.groups view.application)

-- the program file of that name that stands in the view of that number
abbrev pub named_at : ℕ → List ℕ → Tables → Option FileEntry
named_at number name tables = option_and_then (named_in name) (row_at number tables.views)

-- its content
abbrev pub content_at : ℕ → List ℕ → Tables → Option Content
content_at number name tables =
    option_and_then (content_of tables.contents) (named_at number name tables)

-- its bytes in an image of the disk
abbrev pub file_at : Room → List ℕ → ℕ → List ℕ → Tables → Option (List ℕ)
file_at room image number name tables =
    option_map (λ entry. bytes_in room image (content_of tables.contents entry))
    (named_at number name tables)

-- ---- the index of a view

abbrev pub names_of : List FileEntry → List (List ℕ)
names_of files = map (λ entry. entry.name) files

-- the names of the files differ, and the index has the place of each
pub record IsNameIndex (files : List FileEntry) (places : List ℕ) : Type 0 where
  pub differ : AllPairs (λ (e f : FileEntry). ¬ (e.name ≡ f.name)) files
  pub placed : ArePlaces text_cmp (names_of files) places

-- each view has its index, in the order of the views
pub record AreNameIndexes (views : List View) (indexes : List (List ℕ)) : Type 0 where
  pub long : length indexes ≡ length views
  pub each : (k : ℕ) (view : View) (places : List ℕ) → slice_get views k ≡ Some view
      → slice_get indexes k ≡ Some places → IsNameIndex view.application.files places
