-- Which tables of a journal are those of a store.
use Rattle.std.specs.Prelude.{◌≤◌, ℕ, List, All, map}
use Rattle.small_types.specs.declared.limits.TheConstants.{BLOCK_LIMIT}
use Rattle.small_types.specs.declared.room.Room.{Room}
use Rattle.machine.specs.Blocks.{used_blocks}
use Rattle.machine.specs.Weight.{IsLight}
use Rattle.store_state.specs.Measured.{AreMeasured}
use Rattle.store_state.specs.Stored.{HasContents, HasLocals}
use Rattle.store_state.specs.Tables.{Tables, bare_row}
use Rattle.table_check.specs.OrderedTables.{AreOrderedTables}
use Rattle.table_weight.specs.Weight.{tables_weight}

-- They are within the order and the limits of a store, and its files and its tables have room. Each file
-- has as many blocks as its length needs.
pub record AreOfStore (room : Room) (tables : Tables) : Type 0 where
  pub few_blocks : room.blocks ≤ BLOCK_LIMIT
  pub within : used_blocks (map bare_row tables.views) ≤ room.blocks
  pub light : IsLight room (tables_weight tables)
  pub ordered : AreOrderedTables tables
  pub measured : AreMeasured tables

-- the image has as many bytes of each file as its length says
pub record HasAllFiles (room : Room) (image : List ℕ) (tables : Tables) : Type 0 where
  pub contents : HasContents room image tables.contents
  pub locals : All (λ view. HasLocals room image view.locals) tables.views
