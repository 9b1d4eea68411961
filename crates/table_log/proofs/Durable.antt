-- What a durable step does, by what became of its pieces.
use Rattle.std.proofs.Common.{◌≡◌, ◌+◌, ℕ, List, length, Result, Ok, Err, refl, arith}
use Rattle.std.specs.Prelude.{IfErr}
use Rattle.disks.specs.declared.disk.Disk.{Ghosts}
use Rattle.disks.specs.Spends.{Spends}
use Rattle.journal.specs.declared.log.Log.{Log}
use Rattle.journal.specs.declared.piece.TheConstants.{AROUND, AROUND_TABLES}
use Rattle.journal.specs.Log.{FitsHalf}
use Rattle.record_codec.specs.Codec.{change_text}
use Rattle.store_state.specs.declared.change.Change.{Change}
use Rattle.store_state.specs.Change.{TakesMemory, effect}
use Rattle.store_state.specs.Tables.{Tables}
use Rattle.table_log.specs.declared.fault.StepFault.{StepFault}
use Rattle.table_log.specs.declared.fault.StepFault.TheVariants.{DiskFault, Memory}
use Rattle.table_log.specs.MakesDurable.{MakesDurable, Stores, change_size, tables_size}
use Rattle.table_log.specs.Pieces.{HasEntry, HasTables}
use Rattle.table_log.proofs.StepCosts.{spends_bytes, spends_nothing}
use Rattle.table_log.proofs.Storage.{stores_nothing}

no_memory : {T : Type 0} (result : Result T StepFault) → IfErr result (λ e. e ≡ DiskFault) → result ≡ Err Memory → ⊥
no_memory (Ok done) fault e = cc
no_memory (Err told) fault e = cc

module _ {D : Type 0} (on : Ghosts D) (change : Change) (tables : Tables) (log : Log) (disk : D) where
  -- there was no memory
  pub nothing_made : {T : Type 0} (tables_new : Tables) → tables_new ≡ tables → TakesMemory tables change → MakesDurable {T = T} on change log tables disk (Err Memory) log tables_new disk
  nothing_made tables_new same takes = record {
    stores = stores_nothing on change tables log disk Memory;
    made = λ other. absurd (other refl);
    memory = λ e. (refl, same, refl);
    needs = λ e. takes;
    spends = λ fits. spends_nothing on 4 (AROUND + change_size change) disk;
    spends_more = λ none. spends_nothing on 10 (AROUND + change_size change + AROUND_TABLES + 1 + tables_size tables) disk;
  }

  -- the entry was added
  pub made_by_append : {T : Type 0} (result : Result T StepFault) (log_new : Log) (tables_new : Tables) (disk_new : D) (piece : List ℕ) → HasEntry (change_text change) piece → FitsHalf log (change_size change)
      → Stores on change tables log disk result log_new disk_new → tables_new ≡ effect change tables → IfErr result (λ e. e ≡ DiskFault) → Spends on 4 (length piece) disk disk_new (result ≡ Err DiskFault)
      → MakesDurable on change log tables disk result log_new tables_new disk_new
  made_by_append result log_new tables_new disk_new piece has fits stores same fault spends = record {
    stores = stores;
    made = λ other. same;
    memory = λ e. absurd (no_memory result fault e);
    needs = λ e. absurd (no_memory result fault e);
    spends = λ few. spends_bytes on 4 (length piece) (AROUND + change_size change) disk disk_new _ has.size spends;
    spends_more = λ none. absurd (none fits);
  }

  -- the other half was begun with the tables, and the entry was added there
  pub made_by_turn : {T : Type 0} (result : Result T StepFault) (log_new : Log) (tables_new : Tables) (disk_new : D) (base piece : List ℕ) → HasTables tables base → HasEntry (change_text change) piece → ¬ FitsHalf log (change_size change)
      → Stores on change tables log disk result log_new disk_new → tables_new ≡ effect change tables → IfErr result (λ e. e ≡ DiskFault) → Spends on 10 (length base + 1 + length piece) disk disk_new (result ≡ Err DiskFault)
      → MakesDurable on change log tables disk result log_new tables_new disk_new
  made_by_turn result log_new tables_new disk_new base piece has_tables has none stores same fault spends = record {
    stores = stores;
    made = λ other. same;
    memory = λ e. absurd (no_memory result fault e);
    needs = λ e. absurd (no_memory result fault e);
    spends = λ few. absurd (none few);
    spends_more = λ much. spends_bytes on 10 (length base + 1 + length piece) (AROUND + change_size change + AROUND_TABLES + 1 + tables_size tables) disk disk_new _ (omega (arith, has_tables.size, has.size)) spends;
  }
