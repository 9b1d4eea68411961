-- What putting a data file comes to where it is not refused.
use Rattle.std.specs.Prelude.{◌≡◌, ℕ, List, Some}
use Rattle.small_types.specs.declared.room.Room.{Room}
use Rattle.machine.specs.PutRow.{put_refusals}
use Rattle.machine.specs.Rows.{PassesAll}
use Rattle.store_state.specs.declared.view.LocalFile.{LocalFile}
use Rattle.store_state.specs.declared.view.View.{View}
use Rattle.store_state.specs.Rows.{leased_row}
use Rattle.store_state.specs.Tables.{Tables, table_shape}

-- No refusal holds, and the view is the leased one.
pub record IsPutStep (room : Room) (lease : ℕ) (name bytes : List ℕ) (tables : Tables)
    (number : ℕ) : Type 0 where
  pub passes : PassesAll (put_refusals lease name bytes (table_shape room tables))
  pub row : View
  pub leased : leased_row lease tables ≡ Some row
  pub view : number ≡ row.number

-- the data file of the name with so many bytes in these blocks
abbrev pub file_of : List ℕ → ℕ → List ℕ → LocalFile
file_of name size blocks = record { name = name; length = size; held = blocks }
