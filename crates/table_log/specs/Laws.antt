-- What holds of images that read as tables, and of a log that is open as some.
use Rattle.std.specs.Prelude.{◌≡◌, ◌≤◌, ℕ, List, []}
use Rattle.small_types.specs.declared.room.Room.{Room}
use Rattle.disks.specs.declared.disk.Disk.{Ghosts}
use Rattle.disks.specs.Moments.{LeavesOnly, Each, Untouched}
use Rattle.disks.specs.Outside.{AgreesOutside, IsOldOutside}
use Rattle.journal.specs.declared.log.Log.{Log}
use Rattle.journal.specs.Laws.{IsOldBefore}
use Rattle.journal.specs.Layout.{AreLimits, IsHalvedJournal, NoJournal}
use Rattle.small_types.specs.Blocks.{blocks_start}
use Rattle.journal.specs.Log.{half_of}
use Rattle.store_state.specs.Tables.{Tables, empty}
use Rattle.table_codec.specs.Spelled.{state_text}
use Rattle.table_log.specs.ReadsAs.{IsOpenAs, ReadsAs, ReadsAsNone}

-- an image reads as one room and one tables at most
abbrev pub ReadsAsOne : Type 0
ReadsAsOne = (image : List ℕ) (room other_room : Room) (tables other : Tables)
    → ReadsAs room image tables → ReadsAs other_room image other
    → (room ≡ other_room) × (tables ≡ other)

-- its room is one that a journal may have
abbrev pub HasLimits : Type 0
HasLimits = (room : Room) (image : List ℕ) (tables : Tables) → ReadsAs room image tables
    → AreLimits room.blocks room.half

-- an image that agrees with another one but for a range behind the halves reads as the same
abbrev pub ReadsOutside : Type 0
ReadsOutside = (place n : ℕ) (room : Room) (tables : Tables) (old new : List ℕ)
    → blocks_start room.half ≤ place → AgreesOutside place n old new → ReadsAs room old tables
    → ReadsAs room new tables

-- a new journal of the empty tables' encoding reads as them
abbrev pub NewReads : Type 0
NewReads = (room : Room) (image : List ℕ)
    → IsHalvedJournal room.blocks room.half (state_text empty) [] image → ReadsAs room image empty

-- what is no journal reads as no tables
abbrev pub NoneReads : Type 0
NoneReads = (image : List ℕ) → NoJournal image → ReadsAsNone image

-- each image of a log that is open as tables reads as them
abbrev pub ReadsEach : {D : Type 0} → Ghosts D → Type 0
ReadsEach {D} on = (log : Log) (room : Room) (tables : Tables) (disk : D)
    → IsOpenAs on log room tables disk → Each on disk (λ image. ReadsAs room image tables)

-- it stays open so while the disk is only read
abbrev pub StaysAsRead : {D : Type 0} → Ghosts D → Type 0
StaysAsRead {D} on = (log : Log) (room : Room) (tables : Tables) (old new : D)
    → IsOpenAs on log room tables old → Untouched on old new → IsOpenAs on log room tables new

-- what a run of writes behind the halves leaves: the log is open as the tables, and each image read
-- as them
pub record StaysAs {D : Type 0} (on : Ghosts D) (log : Log) (room : Room) (tables : Tables)
    (old new : D) : Type 0 where
  pub opened : IsOpenAs on log room tables new
  pub each : LeavesOnly on old new (λ image. ReadsAs room image tables)

-- and while only what stands behind the halves is written
abbrev pub StaysAsBehind : {D : Type 0} → Ghosts D → Type 0
StaysAsBehind {D} on = (log : Log) (room : Room) (tables : Tables) (old new : D) (place n : ℕ)
    → blocks_start (half_of log) ≤ place
    → LeavesOnly on old new (IsOldOutside place n (on.left_at old (on.moment old)))
    → IsOpenAs on log room tables old → StaysAs on log room tables old new

-- and while anything may be written behind a place that is not within the halves
abbrev pub StaysAsFront : {D : Type 0} → Ghosts D → Type 0
StaysAsFront {D} on = (log : Log) (room : Room) (tables : Tables) (old new : D) (place : ℕ)
    → blocks_start (half_of log) ≤ place
    → LeavesOnly on old new (IsOldBefore place (on.left_at old (on.moment old)))
    → IsOpenAs on log room tables old → StaysAs on log room tables old new
