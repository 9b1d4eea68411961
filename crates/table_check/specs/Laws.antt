-- What ordered tables show.
use Rattle.std.specs.Prelude.{◌↔◌, ◌≤◌, ℕ, List, All}
use Rattle.small_types.specs.declared.limits.TheConstants.{BLOCK_LIMIT}
use Rattle.small_types.specs.declared.room.Room.{Room}
use Rattle.machine.specs.Store.{Store}
use Rattle.machine.specs.Valid.{Ordered}
use Rattle.store_state.specs.Kept.{AreTables}
use Rattle.store_state.specs.Laws.{ShowsOrdered}
use Rattle.store_state.specs.Shows.{Shows}
use Rattle.store_state.specs.Stored.{HasContents, HasLocals}
use Rattle.store_state.specs.Tables.{Tables}
use Rattle.table_check.specs.OrderedTables.{AreOrderedTables}

-- Where the number of blocks is possible, the store that tables show is within its order and its
-- limits exactly where the tables are ordered.
abbrev pub OrderedTablesAreOfOrderedStores : Type 0
OrderedTablesAreOfOrderedStores = (room : Room) (tables : Tables) (image : List ℕ) (store : Store)
    → AreTables tables → 1 ≤ room.blocks → room.blocks ≤ BLOCK_LIMIT
    → Shows room tables image store → AreOrderedTables tables ↔ Ordered store

-- Ordered tables show such a store, where the image has as many bytes of each content and of each
-- data file as its length says.
abbrev pub OrderedTablesShowAStore : Type 0
OrderedTablesShowAStore = (room : Room) (tables : Tables) (image : List ℕ)
    → AreTables tables → AreOrderedTables tables → 1 ≤ room.blocks → room.blocks ≤ BLOCK_LIMIT
    → HasContents room image tables.contents
    → All (λ view. HasLocals room image view.locals) tables.views
    → ShowsOrdered room tables image
