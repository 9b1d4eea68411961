-- What an open log knows, and what its calls write.
use Rattle.std.specs.Prelude.{◌≡◌, ◌⊎◌, ℕ, ◌+◌, ◌-◌, ◌≤◌, Bool, true, false, List, length, take, drop}
use Rattle.disks.specs.Moments.{Each}
use Rattle.disks.specs.declared.disk.Disk.{Ghosts}
use Rattle.journal.specs.declared.log.Log.{Log}
use Rattle.journal.specs.declared.piece.TheConstants.{BEFORE, AROUND, BEFORE_TABLES, AROUND_TABLES}
use Rattle.journal.specs.Layout.{log_of, half_head, start_of, other_side, HalvesStand, IsHalvedJournal}

-- the length of a half
abbrev pub half_of : Log → ℕ
half_of log = log.half

-- the bytes of the current half up to its first closed gate, that one included
abbrev pub used_of : Log → ℕ
used_of log = log.gate + 1

-- where that gate stands, which is where the next entry of the log goes
abbrev pub end_of : Log → ℕ
end_of log = start_of log.side log.half + log.gate

-- where the other half begins, which a checkpoint writes
abbrev pub other_half_start : Log → ℕ
other_half_start log = start_of (other_side log.side) log.half

-- whether that half's gate is open
abbrev pub both_of : Log → Bool
both_of log = log.both

-- The log ends behind these changes, which each stop now leaves behind these tables. The images may
-- differ from one another elsewhere, as in the blocks behind the halves.
pub record IsOpen {D : Type 0} (on : Ghosts D) (log : Log) (blocks : ℕ) (tables : List ℕ)
    (changes : List (List ℕ)) (disk : D) : Type 0 where
  pub at : log.gate ≡ length (log_of (half_head log.serial tables) changes)
  pub each : Each on disk (HalvesStand log.side log.serial log.both blocks log.half tables changes)

-- the change in a piece: all but the room for gates and a length
abbrev pub entry_in : List ℕ → List ℕ
entry_in piece = take (length piece - AROUND) (drop BEFORE piece)

-- the tables in a piece: all but the room for gates, a serial and a length
abbrev pub tables_in : List ℕ → List ℕ
tables_in piece = take (length piece - AROUND_TABLES) (drop BEFORE_TABLES piece)

-- an entry of that many bytes has room in the current half, with its length and the next gate
abbrev pub FitsHalf : Log → ℕ → Type 0
FitsHalf log n = used_of log + BEFORE + n ≤ half_of log

-- the bytes that an entry takes, and those that are left for it
abbrev pub need_of : List ℕ → ℕ
need_of piece = length piece - 1

abbrev pub room_left : Log → ℕ
room_left log = half_of log - used_of log

-- the calls of a checkpoint and the bytes that it hands over: one more write and sync where the
-- other half is open, to close its gate
abbrev pub calls_of : Bool → ℕ
calls_of true = 6
calls_of false = 4

abbrev pub closing_of : Bool → ℕ
closing_of true = 1
closing_of false = 0

-- an image that has these tables and changes, or those
abbrev pub IsEither : ℕ → ℕ → List ℕ → List (List ℕ) → List ℕ → List (List ℕ) → List ℕ → Type 0
IsEither blocks half tables changes tables_new changes_new image =
    IsHalvedJournal blocks half tables changes image
    ⊎ IsHalvedJournal blocks half tables_new changes_new image
