-- The durable step: a change is made in the tables and in the journal, or not at all.
use Rattle.std.specs.Prelude.{◌≡◌, ◌≢◌, ◌⊎◌, ◌+◌, ◌≤◌, ℕ, List, [], ◌∷◌, ◌++◌, length, Result, Err, IsErr, OnOk}
use Rattle.small_types.specs.declared.room.Room.{Room}
use Rattle.disks.specs.declared.disk.Disk.{Ghosts}
use Rattle.disks.specs.Disk.{Only}
use Rattle.disks.specs.Moments.{LeavesOnly}
use Rattle.disks.specs.Outside.{AgreesOutside, IsOldOutside}
use Rattle.disks.specs.Spends.{Spends}
use Rattle.journal.specs.declared.log.Log.{Log}
use Rattle.journal.specs.declared.piece.TheConstants.{AROUND, AROUND_TABLES, BEFORE}
use Rattle.small_types.specs.Blocks.{blocks_start}
use Rattle.journal.specs.Log.{FitsHalf, IsEither, IsOpen, half_of}
use Rattle.record_codec.specs.Codec.{change_text}
use Rattle.store_state.specs.declared.change.Change.{Change}
use Rattle.store_state.specs.Change.{TakesMemory, effect}
use Rattle.store_state.specs.Tables.{Tables}
use Rattle.table_codec.specs.Spelled.{state_text}
use Rattle.table_log.specs.declared.fault.StepFault.{StepFault}
use Rattle.table_log.specs.declared.fault.StepFault.TheVariants.{Memory, DiskFault}
use Rattle.table_log.specs.ReadsAs.{IsOpenAs, ReadsAs, ReadsAsEither}

-- how many bytes the encodings of a change and of tables have
abbrev pub change_size : Change → ℕ
change_size change = length (change_text change)

abbrev pub tables_size : Tables → ℕ
tables_size tables = length (state_text tables)

-- the tables and an entry of the change fit one half together
abbrev pub FitsNewHalf : Log → Tables → Change → Type 0
FitsNewHalf log tables change =
    AROUND_TABLES + tables_size tables + BEFORE + change_size change ≤ half_of log

-- behind halves of this length the image is an old one
abbrev pub IsOldBehind : ℕ → (List ℕ → Type 0) → List ℕ → Type 0
IsOldBehind half old image = IsOldOutside 0 (blocks_start half) old image

-- behind them the new bytes are the old ones
abbrev pub AgreesBehind : ℕ → List ℕ → List ℕ → Type 0
AgreesBehind half old new = AgreesOutside 0 (blocks_start half) old new

-- Where the change is added, and what that does. The log is open as the tables there, and each image
-- up to there reads as them. From there the change's encoding comes behind the texts that stand
-- there, by four calls at most: a stop leaves these texts, or these and the encoding.
pub record Adds {D T : Type 0} (on : Ghosts D) (room : Room) (change : Change) (tables : Tables)
    (disk_old : D) (result : Result T StepFault) (log_new : Log) (disk_new : D) : Type 0 where
  pub log : Log
  pub disk : D
  pub same : LeavesOnly on disk_old disk (λ image. ReadsAs room image tables)
  pub opened : IsOpenAs on log room tables disk
  pub stop : LeavesOnly on disk disk_new (IsEither room.blocks room.half opened.text opened.changes
      opened.text (opened.changes ++ change_text change ∷ []))
  pub added : OnOk result (IsOpen on log_new room.blocks opened.text
      (opened.changes ++ change_text change ∷ []) disk_new)
  pub within : on.moment disk_new ≤ on.moment disk + 4

-- or the disk failed before that, and each image reads as the tables
abbrev pub AddsOrFails : {D T : Type 0} → Ghosts D → Room → Change → Tables → D
    → Result T StepFault → Log → D → Type 0
AddsOrFails on room change tables disk_old result log_new disk_new =
    Adds on room change tables disk_old result log_new disk_new
    ⊎ (IsErr result × LeavesOnly on disk_old disk_new (λ image. ReadsAs room image tables))

-- What storing a change of these tables does to the log and to the disk, for any room. Where the
-- log was open as the tables, it is open as the changed ones, and a stop inside leaves an image
-- that reads as either: as the old ones up to where the change is added. What stands behind the
-- halves stays, also where the disk failed.
pub record Stores {D T : Type 0} (on : Ghosts D) (change : Change) (tables : Tables)
    (log_old : Log) (disk_old : D) (result : Result T StepFault) (log_new : Log) (disk_new : D)
    : Type 0 where
  pub opened : (room : Room) → IsOpenAs on log_old room tables disk_old
      → OnOk result (IsOpenAs on log_new room (effect change tables) disk_new)
  pub stop : (room : Room) → IsOpenAs on log_old room tables disk_old
      → LeavesOnly on disk_old disk_new (ReadsAsEither room tables (effect change tables))
  pub adds : (room : Room) → IsOpenAs on log_old room tables disk_old
      → AddsOrFails on room change tables disk_old result log_new disk_new
  pub durable : OnOk result (Only (on.seen disk_new) (on.left_at disk_new (on.moment disk_new)))
  pub behind : LeavesOnly on disk_old disk_new
      (IsOldBehind (half_of log_old) (on.left_at disk_old (on.moment disk_old)))
  pub reads_behind : AgreesBehind (half_of log_old) (on.seen disk_old) (on.seen disk_new)
  pub half : half_of log_new ≡ half_of log_old
  pub marked : OnOk result (on.moment disk_old + 1 ≤ on.moment disk_new)

-- What making a change durable does, in the tables, the log and the disk. For want of memory, which
-- the change alone may take in the tables, it does nothing; else the tables have changed, also where
-- the disk failed. Where the entry fits the current half it costs an append; else at most a
-- checkpoint of the old tables more, which makes up to six calls and closes a gate first.
pub record MakesDurable {D T : Type 0} (on : Ghosts D) (change : Change) (log_old : Log)
    (tables_old : Tables) (disk_old : D) (result : Result T StepFault) (log_new : Log)
    (tables_new : Tables) (disk_new : D) : Type 0 where
  pub stores : Stores on change tables_old log_old disk_old result log_new disk_new
  pub made : result ≢ Err Memory → tables_new ≡ effect change tables_old
  pub memory : result ≡ Err Memory
      → (log_new ≡ log_old) × (tables_new ≡ tables_old) × (disk_new ≡ disk_old)
  pub needs : result ≡ Err Memory → TakesMemory tables_old change
  pub spends : FitsHalf log_old (change_size change)
      → Spends on 4 (AROUND + change_size change) disk_old disk_new (result ≡ Err DiskFault)
  pub spends_more : ¬ FitsHalf log_old (change_size change)
      → Spends on 10 (AROUND + change_size change + AROUND_TABLES + 1 + tables_size tables_old)
      disk_old disk_new (result ≡ Err DiskFault)
