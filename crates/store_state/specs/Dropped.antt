-- Tables without some of their views.
use Rattle.std.specs.Prelude.{ℕ, ◌==◌, Bool, not, List, filter, map}
use Rattle.std.specs.List.{list_any}
use Rattle.manifests.specs.declared.facts.FileEntry.{FileEntry}
use Rattle.machine.specs.Blocks.{standing_files}
use Rattle.machine.specs.CleanRow.{removable}
use Rattle.machine.specs.Store.{plain_room}
use Rattle.store_state.specs.declared.view.Content.{Content}
use Rattle.store_state.specs.declared.view.View.{View}
use Rattle.store_state.specs.Contents.{is_content_of}
use Rattle.store_state.specs.Tables.{Tables, bare_row, table_shape}

-- the views but those of these numbers
abbrev pub is_among : List ℕ → View → Bool
is_among numbers view = list_any (λ number. number == view.number) numbers

abbrev pub without_rows : List ℕ → List View → List View
without_rows numbers views = filter (λ view. not (is_among numbers view)) views

-- one of the files has the content
abbrev pub is_needed : List FileEntry → Content → Bool
is_needed entries content = list_any (λ entry. is_content_of entry content) entries

-- those of the contents that program files which stand in the views have
abbrev pub needed : List View → List Content → List Content
needed views contents = filter (is_needed (standing_files (map bare_row views))) contents

-- the tables without the views of these numbers, and so without the contents that no program file
-- has then
abbrev pub dropped : List ℕ → Tables → Tables
dropped numbers old = record old {
  views = without_rows numbers old.views;
  contents = needed (without_rows numbers old.views) old.contents;
}

-- the numbers of the views that a clean takes, which do not depend on the room
abbrev pub removable_in : Tables → List ℕ
removable_in tables = removable (table_shape (plain_room 0) tables)
