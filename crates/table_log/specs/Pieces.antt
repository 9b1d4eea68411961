-- A change and tables as the log takes them.
use Rattle.std.specs.Prelude.{◌≡◌, ◌<◌, ◌+◌, ℕ, Bool, true, false, List, length}
use Rattle.journal.specs.declared.log.Log.{Log}
use Rattle.journal.specs.declared.piece.TheConstants.{AROUND, AROUND_TABLES}
use Rattle.journal.specs.Log.{FitsHalf, entry_in, tables_in}
use Rattle.record_codec.specs.Codec.{change_text}
use Rattle.store_state.specs.declared.change.Change.{Change}
use Rattle.store_state.specs.Tables.{Tables}
use Rattle.table_codec.specs.Spelled.{state_text}
use Rattle.table_log.specs.declared.rooms.Rooms.{Rooms}
use Rattle.table_log.specs.Texts.{Spells}

-- the piece has that text as an entry, which is not empty
pub record HasEntry (text piece : List ℕ) : Type 0 where
  pub size : length piece ≡ AROUND + length text
  pub some : AROUND < length piece
  pub is : entry_in piece ≡ text

-- the piece spells the tables, as a checkpoint takes them
pub record HasTables (tables : Tables) (piece : List ℕ) : Type 0 where
  pub size : length piece ≡ AROUND_TABLES + length (state_text tables)
  pub spells : Spells tables (tables_in piece)

-- there are tables for a checkpoint exactly where an entry of that many bytes does not fit the
-- current half
abbrev pub TurnsFor : Log → ℕ → Tables → Bool → List ℕ → Type 0
TurnsFor log n tables false piece = FitsHalf log n
TurnsFor log n tables true piece = ¬ FitsHalf log n × HasTables tables piece

-- what a step of the change writes, where the tables are these before it
pub record ArePieces (log : Log) (tables : Tables) (change : Change) (turns : Bool)
    (rooms : Rooms) : Type 0 where
  pub entry : HasEntry (change_text change) rooms.entry.items
  pub turns_for : TurnsFor log (length (change_text change)) tables turns rooms.tables.items
