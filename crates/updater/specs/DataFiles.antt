-- Data files of a leased view, in the tables.
use Rattle.std.specs.Prelude.{◌≡◌, ℕ, List, Option, Some, IsSome, option_map}
use Rattle.small_types.specs.declared.room.Room.{Room}
use Rattle.store_state.specs.declared.view.LocalFile.{LocalFile}
use Rattle.store_state.specs.declared.view.View.{View}
use Rattle.store_state.specs.Locals.{local_named}
use Rattle.store_state.specs.Rows.{leased_row}
use Rattle.store_state.specs.Stored.{data_bytes}
use Rattle.store_state.specs.Tables.{Tables}

-- the data file of that name that the leased view has
pub record IsLocalOf (lease : ℕ) (name : List ℕ) (tables : Tables) (file : LocalFile)
    : Type 0 where
  pub row : View
  pub leased : leased_row lease tables ≡ Some row
  pub found : local_named name row.locals ≡ Some file

-- the number of the leased view, which has a data file of that name
pub record IsRemoval (lease : ℕ) (name : List ℕ) (tables : Tables) (number : ℕ) : Type 0 where
  pub row : View
  pub leased : leased_row lease tables ≡ Some row
  pub numbered : number ≡ row.number
  pub there : IsSome (local_named name row.locals)

-- the bytes of the data file of that name in an image of the disk
abbrev pub bytes_named : Room → List ℕ → List ℕ → View → Option (List ℕ)
bytes_named room image name view =
    option_map (data_bytes room image) (local_named name view.locals)
