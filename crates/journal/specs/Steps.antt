-- What the steps of reading and writing a journal leave.
use Rattle.std.specs.Prelude.{◌≡◌, ◌⊎◌, ℕ, ◌+◌, ◌<◌, ◌≤◌, ◌^◌, Bool, true, false, slice_index, List, [], ◌∷◌, ◌++◌, length, drop}
use Rattle.std.specs.List.{flat_map}
use Rattle.std.specs.Int.{from_be_bytes, w32}
use Rattle.journal.specs.declared.form.TheConstants.{SERIAL_COUNT}
use Rattle.journal.specs.declared.piece.TheConstants.{BEFORE}
use Rattle.journal.specs.declared.read.HalfStart.{HalfStart}
use Rattle.journal.specs.declared.read.HalfStart.TheVariants.{Closed, Opened}
use Rattle.journal.specs.declared.read.Step.{Step}
use Rattle.journal.specs.declared.read.Step.TheVariants.{Change, End, Broken}
use Rattle.journal.specs.declared.side.Side.{Side}
use Rattle.journal.specs.declared.side.Side.TheVariants.{First, Second}
use Rattle.journal.specs.Layout.{long_bytes, entry_of, log_of, half_head, ClosedAfter, AreSmall, IsHalf, OpensWith, IsNextSerial, IsOtherHalf, part_at, start_of, other_side}

-- the bytes begin with the base, and an open gate and the tail behind it
pub record OpenAfter (base tail bytes : List ℕ) : Type 0 where
  pub rest : List ℕ
  pub split : bytes ≡ base ++ (1 ∷ (tail ++ rest))

abbrev pub IsBeforeOrAfter : List ℕ → List ℕ → List ℕ → Type 0
IsBeforeOrAfter base tail bytes = ClosedAfter base bytes ⊎ OpenAfter base tail bytes

-- a gate stands at the place, and it is closed
pub record ClosedAt (place : ℕ) (bytes : List ℕ) : Type 0 where
  pub base : List ℕ
  pub at : place ≡ length base
  pub closed : ClosedAfter base bytes

-- The new bytes are the old ones but for the gate at a place and as many bytes behind it as the
-- tail has: there the gate is closed, or it is open and the tail stands behind it.
pub record Commits (place : ℕ) (tail old new : List ℕ) : Type 0 where
  pub base : List ℕ
  pub at : place ≡ length base
  pub rest : List ℕ
  pub was : old ≡ base ++ rest
  pub is : IsBeforeOrAfter base tail new
  pub after : drop (place + 1 + length tail) new ≡ drop (place + 1 + length tail) old

-- the same, and the gate is open
pub record OpensGate (place : ℕ) (tail old new : List ℕ) : Type 0 where
  pub base : List ℕ
  pub at : place ≡ length base
  pub rest : List ℕ
  pub was : old ≡ base ++ rest
  pub is : OpenAfter base tail new
  pub after : drop (place + 1 + length tail) new ≡ drop (place + 1 + length tail) old

-- the image comes of an old one by a step
abbrev pub ComesByStep : (List ℕ → Type 0) → (List ℕ → List ℕ → Type 0) → List ℕ → Type 0
ComesByStep old step image = (before : List ℕ) × old before × step before image

-- the bytes begin with the entries of these changes, and behind them, at a place, a closed gate
-- stands
pub record AtGate (changes : List (List ℕ)) (place : ℕ) (bytes : List ℕ) : Type 0 where
  pub closed : ClosedAfter (flat_map entry_of changes) bytes
  pub small : AreSmall changes
  pub at : place ≡ length (flat_map entry_of changes)

-- the bytes begin with an open gate and a size, and behind them these stand
pub record OpensSize (n : ℕ) (after bytes : List ℕ) : Type 0 where
  pub size : List ℕ
  pub four : length size ≡ 4
  pub fits : (i : ℕ) → slice_index size i < 256
  pub value : n ≡ from_be_bytes w32 size
  pub split : bytes ≡ 1 ∷ (size ++ after)

-- the bytes are no entries with a closed gate behind them
abbrev pub NoEntries : List ℕ → Type 0
NoEntries bytes = (changes : List (List ℕ)) → AreSmall changes
    → ClosedAfter (flat_map entry_of changes) bytes → ⊥

-- the bytes are the first of these
pub record AreFirstOf (bytes whole : List ℕ) : Type 0 where
  pub rest : List ℕ
  pub split : whole ≡ bytes ++ rest

-- how a half begins
abbrev pub StartsSo : HalfStart → List ℕ → Type 0
StartsSo Closed bytes = ClosedAfter [] bytes
StartsSo (Opened serial) bytes = OpensWith serial bytes

-- the start of the other half of one with this serial
abbrev pub IsOtherStart : Bool → ℕ → HalfStart → Type 0
IsOtherStart true serial start = (before : ℕ) × (start ≡ Opened before) × IsNextSerial before serial
IsOtherStart false serial start = start ≡ Closed

-- of halves that begin so, this one is current and has this serial
abbrev pub IsChosen : Side → ℕ → Bool → HalfStart → HalfStart → Type 0
IsChosen First serial both first second = (first ≡ Opened serial) × (serial < SERIAL_COUNT)
    × IsOtherStart both serial second
IsChosen Second serial both first second = (second ≡ Opened serial) × (serial < SERIAL_COUNT)
    × IsOtherStart both serial first

-- the halves of an image begin so that this one is current and has this serial
pub record HalvesBegin (side : Side) (serial : ℕ) (both : Bool) (half : ℕ) (image : List ℕ)
    : Type 0 where
  pub opens : OpensWith serial (part_at (start_of side half) half image)
  pub is_serial : serial < SERIAL_COUNT
  pub other : IsOtherHalf both serial (part_at (start_of (other_side side) half) half image)

-- behind two bytes the length of these tables stands, and then the tables
pub record TablesAt (tables part : List ℕ) : Type 0 where
  pub front : List ℕ
  pub two : length front ≡ 2
  pub rest : List ℕ
  pub split : part ≡ front ++ (long_bytes (length tables) ++ (tables ++ rest))

-- the bytes are no half
abbrev pub NoTables : List ℕ → Type 0
NoTables part = (serial : ℕ) (tables : List ℕ) (changes : List (List ℕ))
    → IsHalf serial tables changes part → ⊥

-- what stands at a place in a half, where an entry may begin
abbrev pub IsStepAt : Step → ℕ → List ℕ → Type 0
IsStepAt (Change change) gate part =
    (drop gate part ≡ entry_of change ++ drop (gate + BEFORE + length change) part)
    × (length change < 2 ^ 32)
IsStepAt End gate part = ClosedAfter [] (drop gate part)
IsStepAt Broken gate part = NoEntries (drop gate part)

-- what stands at the front of bytes that begin with no head of an entry
abbrev pub IsLastStep : Step → List ℕ → Type 0
IsLastStep (Change change) bytes = ⊥
IsLastStep End bytes = ClosedAfter [] bytes
IsLastStep Broken bytes = (length bytes ≡ 0) ⊎ (slice_index bytes 0 ≡ 1)

-- it is among as many bytes
abbrev pub IsStepWithin : Step → ℕ → ℕ → Type 0
IsStepWithin (Change change) gate n = gate + BEFORE + length change ≤ n
IsStepWithin End gate n = gate < n
IsStepWithin Broken gate n = Unit {0}

-- a half was found, and its first closed gate
pub record FoundHalf (serial : ℕ) (tables : List ℕ) (changes : List (List ℕ)) (gate : ℕ)
    (part : List ℕ) : Type 0 where
  pub log : IsHalf serial tables changes part
  pub at : gate ≡ length (log_of (half_head serial tables) changes)
