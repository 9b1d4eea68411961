-- What holds of journals, as the layers above use it.
use Rattle.std.specs.Prelude.{◌≡◌, ℕ, ◌+◌, ◌≤◌, min, List, length, sum_by, take}
use Rattle.disks.specs.declared.disk.Disk.{Ghosts}
use Rattle.disks.specs.Moments.{LeavesOnly, Each, Untouched}
use Rattle.disks.specs.Outside.{AgreesOutside, IsOldOutside}
use Rattle.journal.specs.declared.log.Log.{Log}
use Rattle.journal.specs.declared.piece.TheConstants.{BEFORE, AROUND_TABLES}
use Rattle.journal.specs.Layout.{part_at, IsHalvedJournal}
use Rattle.small_types.specs.Blocks.{blocks_start}
use Rattle.journal.specs.Log.{IsOpen, half_of, used_of, end_of, other_half_start, need_of, room_left}

-- an image is one journal at most
abbrev pub IsOne : Type 0
IsOne = (image : List ℕ) (blocks half : ℕ) (tables : List ℕ) (changes : List (List ℕ))
    (other_blocks other_half : ℕ) (other_tables : List ℕ) (other_changes : List (List ℕ))
    → IsHalvedJournal blocks half tables changes image
    → IsHalvedJournal other_blocks other_half other_tables other_changes image
    → (blocks ≡ other_blocks) × (half ≡ other_half) × (tables ≡ other_tables)
    × (changes ≡ other_changes)

-- an image that agrees with a journal but for a range behind the halves is that journal
abbrev pub StaysOutside : Type 0
StaysOutside = (place n blocks half : ℕ) (tables : List ℕ) (changes : List (List ℕ))
    (old new : List ℕ) → blocks_start half ≤ place → AgreesOutside place n old new
    → IsHalvedJournal blocks half tables changes old
    → IsHalvedJournal blocks half tables changes new

-- what stands behind the halves is as it was, where a range before it alone was written
abbrev pub StaysBehind : Type 0
StaysBehind = (place n half from size : ℕ) (old new : List ℕ) → place + n ≤ blocks_start half
    → blocks_start half ≤ from → AgreesOutside place n old new
    → part_at from size new ≡ part_at from size old

-- the range of an append lies before the blocks, where the entry fits
abbrev pub AppendsBefore : Type 0
AppendsBefore = (log : Log) (piece : List ℕ) → 1 ≤ length piece → need_of piece ≤ room_left log
    → end_of log + length piece ≤ blocks_start (half_of log)

-- and that of a checkpoint, where the tables do
abbrev pub TurnsBefore : Type 0
TurnsBefore = (log : Log) (piece : List ℕ) → length piece ≤ half_of log
    → other_half_start log + length piece ≤ blocks_start (half_of log)

-- the bytes that a half with these tables and changes uses, its first closed gate included
abbrev pub used_by : List ℕ → List (List ℕ) → ℕ
used_by tables changes =
    AROUND_TABLES + length tables + sum_by (λ change. BEFORE + length change) changes

-- an open log uses those
abbrev pub UsesBytes : {D : Type 0} → Ghosts D → Type 0
UsesBytes {D} on = (log : Log) (blocks : ℕ) (tables : List ℕ) (changes : List (List ℕ)) (disk : D)
    → IsOpen on log blocks tables changes disk → used_of log ≡ used_by tables changes

-- each image of an open log is its journal
abbrev pub IsEachJournal : {D : Type 0} → Ghosts D → Type 0
IsEachJournal {D} on = (log : Log) (blocks : ℕ) (tables : List ℕ) (changes : List (List ℕ))
    (disk : D) → IsOpen on log blocks tables changes disk
    → Each on disk (IsHalvedJournal blocks (half_of log) tables changes)

-- an open log stays open while the disk is only read
abbrev pub StaysOpenRead : {D : Type 0} → Ghosts D → Type 0
StaysOpenRead {D} on = (log : Log) (blocks : ℕ) (tables : List ℕ) (changes : List (List ℕ))
    (old new : D) → IsOpen on log blocks tables changes old → Untouched on old new
    → IsOpen on log blocks tables changes new

-- what a run of writes behind the halves leaves: the log is open, and each image was its journal
pub record StaysOpen {D : Type 0} (on : Ghosts D) (log : Log) (blocks : ℕ) (tables : List ℕ)
    (changes : List (List ℕ)) (old new : D) : Type 0 where
  pub opened : IsOpen on log blocks tables changes new
  pub each : LeavesOnly on old new (IsHalvedJournal blocks (half_of log) tables changes)

-- and while only what stands behind the halves is written
abbrev pub StaysOpenBehind : {D : Type 0} → Ghosts D → Type 0
StaysOpenBehind {D} on = (log : Log) (blocks : ℕ) (tables : List ℕ) (changes : List (List ℕ))
    (old new : D) (place n : ℕ) → blocks_start (half_of log) ≤ place
    → LeavesOnly on old new (IsOldOutside place n (on.left_at old (on.moment old)))
    → IsOpen on log blocks tables changes old → StaysOpen on log blocks tables changes old new

-- the image begins with what stood before this place in some old image
abbrev pub IsOldBefore : ℕ → (List ℕ → Type 0) → List ℕ → Type 0
IsOldBefore place old image = (before : List ℕ) × old before
    × (take (min place (length before)) image ≡ take place before)

-- and while anything may be written behind a place that is not within the halves
abbrev pub StaysOpenFront : {D : Type 0} → Ghosts D → Type 0
StaysOpenFront {D} on = (log : Log) (blocks : ℕ) (tables : List ℕ) (changes : List (List ℕ))
    (old new : D) (place : ℕ) → blocks_start (half_of log) ≤ place
    → LeavesOnly on old new (IsOldBefore place (on.left_at old (on.moment old)))
    → IsOpen on log blocks tables changes old → StaysOpen on log blocks tables changes old new
