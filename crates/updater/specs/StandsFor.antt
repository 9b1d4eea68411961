-- What the bytes of a disk stand for.
use Rattle.std.specs.Prelude.{◌⊎◌, ◌<◌, List, ℕ, All}
use Rattle.small_types.specs.Blocks.{AreApart}
use Rattle.small_types.specs.declared.room.Room.{Room}
use Rattle.machine.specs.Store.{Store}
use Rattle.machine.specs.Valid.{Valid}
use Rattle.store_state.specs.Measured.{AreMeasured}
use Rattle.store_state.specs.Tables.{Tables}
use Rattle.store_state.specs.Shows.{Shows}
use Rattle.table_files.specs.Held.{held_by}
use Rattle.table_log.specs.ReadsAs.{ReadsAs}

-- No block is named twice, and each is one of the store's.
pub record ArePlaced (room : Room) (blocks : List ℕ) : Type 0 where
  pub within : All (λ block. block < room.blocks) blocks
  pub apart : AreApart blocks

-- The bytes read as tables that show the store, which is within its order and its limits, and whose
-- files and tables have room. Each file has as many blocks as its length needs, and its own.
pub record StandsFor (image : List ℕ) (store : Store) : Type 0 where
  pub tables : Tables
  pub reads : ReadsAs store.room image tables
  pub shows : Shows store.room tables image store
  pub valid : Valid store
  pub measured : AreMeasured tables
  pub placed : ArePlaced store.room (held_by tables)

-- the bytes stand for no store
abbrev pub StandsForNone : List ℕ → Type 0
StandsForNone image = (store : Store) → StandsFor image store → ⊥

-- the bytes stand for one of two stores
abbrev pub StandsForEither : Store → Store → List ℕ → Type 0
StandsForEither old new image = StandsFor image old ⊎ StandsFor image new
