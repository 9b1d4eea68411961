-- What one change may write.
use Rattle.std.specs.Prelude.{◌≡◌, ◌⊎◌, ◌+◌, ℕ, length}
use Rattle.journal.specs.declared.piece.TheConstants.{AROUND, AROUND_TABLES}
use Rattle.record_codec.specs.Codec.{change_text}
use Rattle.store_state.specs.declared.change.Change.{Change}
use Rattle.store_state.specs.Tables.{Tables}
use Rattle.table_weight.specs.Weight.{tables_weight}

-- an entry: the encoding of the change, with the log's own bytes around it
abbrev pub entry_cost : Change → ℕ
entry_cost change = AROUND + length (change_text change)

-- a checkpoint: at most what the tables weigh, with the log's own bytes around them, of which one
-- is written twice
abbrev pub checkpoint_cost : Tables → ℕ
checkpoint_cost tables = AROUND_TABLES + 1 + tables_weight tables

-- an entry of the change, or a checkpoint of the tables before it and the entry
abbrev pub CostsOf : Change → Tables → ℕ → Type 0
CostsOf change tables bytes =
    (bytes ≡ entry_cost change) ⊎ (bytes ≡ checkpoint_cost tables + entry_cost change)
