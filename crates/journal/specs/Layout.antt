-- The bytes of a journal: a head block, two halves, and anything behind them.
use Rattle.std.specs.Prelude.{◌≡◌, ◌≢◌, ℕ, ◌+◌, ◌%◌, ◌<◌, ◌≤◌, ◌^◌, ◌-◌, Bool, true, false, replicate, List, [], ◌∷◌, ◌++◌, length, take, drop}
use Rattle.std.specs.List.{flat_map}
use Rattle.std.specs.Int.{to_be_bytes, w32, w64}
use Rattle.small_types.specs.declared.limits.TheConstants.{HEAD_BLOCK_SIZE, BLOCK_LIMIT, HALF_LEAST, HALF_LIMIT, HALF_STEP}
use Rattle.journal.specs.declared.form.TheConstants.{SIGN, HEAD_GATE, SERIAL_COUNT}
use Rattle.journal.specs.declared.side.Side.{Side}
use Rattle.journal.specs.declared.side.Side.TheVariants.{First, Second}

-- the four bytes of a length, the greatest first
unfoldable pub size_bytes : ℕ → List ℕ
size_bytes n = to_be_bytes w32 n

-- the eight bytes of one
unfoldable pub long_bytes : ℕ → List ℕ
long_bytes n = to_be_bytes w64 n

-- a length and a change
abbrev pub sized : List ℕ → List ℕ
sized change = size_bytes (length change) ++ change

-- behind an open gate
abbrev pub entry_of : List ℕ → List ℕ
entry_of change = 1 ∷ sized change

-- a head and the entries of these changes
abbrev pub log_of : List ℕ → List (List ℕ) → List ℕ
log_of head changes = head ++ flat_map entry_of changes

-- the bytes begin with the base, behind which a closed gate stands
pub record ClosedAfter (base bytes : List ℕ) : Type 0 where
  pub gate : ℕ
  pub rest : List ℕ
  pub shut : gate ≢ 1
  pub split : bytes ≡ base ++ gate ∷ rest

-- each change has a length that four bytes hold
abbrev pub AreSmall : List (List ℕ) → Type 0
AreSmall [] = Unit {0}
AreSmall (change ∷ changes) = (length change < 2 ^ 32) × AreSmall changes

-- The bytes are a log of these changes behind this head: entries one after another, and then a
-- closed gate.
pub record IsLog (head : List ℕ) (changes : List (List ℕ)) (bytes : List ℕ) : Type 0 where
  pub closed : ClosedAfter (log_of head changes) bytes
  pub small : AreSmall changes

-- how an open half begins: its gate, its serial, the length of its tables and the tables
abbrev pub half_head : ℕ → List ℕ → List ℕ
half_head serial tables = 1 ∷ serial ∷ (long_bytes (length tables) ++ tables)

-- the bytes are an open half with this serial, these tables and these changes
abbrev pub IsHalf : ℕ → List ℕ → List (List ℕ) → List ℕ → Type 0
IsHalf serial tables changes bytes = IsLog (half_head serial tables) changes bytes

-- the bytes are a half whose gate is open and whose serial is this one
pub record OpensWith (serial : ℕ) (bytes : List ℕ) : Type 0 where
  pub rest : List ℕ
  pub split : bytes ≡ 1 ∷ serial ∷ rest

-- a serial and the next one: 0, 1, 2, and 0 again
abbrev pub IsNextSerial : ℕ → ℕ → Type 0
IsNextSerial before serial = (before < SERIAL_COUNT) × (serial ≡ (before + 1) % SERIAL_COUNT)

-- The bytes are the other half of one with this serial: an open half with the serial before it, or
-- a half whose gate is closed.
abbrev pub IsOtherHalf : Bool → ℕ → List ℕ → Type 0
IsOtherHalf true serial bytes = (before : ℕ) × OpensWith before bytes × IsNextSerial before serial
IsOtherHalf false serial bytes = ClosedAfter [] bytes

unfoldable pub zeros : ℕ → List ℕ
zeros n = replicate n 0

-- the head block before its gate: the sign, the number of blocks, the half's length, and zeros
unfoldable pub head_front : ℕ → ℕ → List ℕ
head_front blocks half =
    SIGN ++ (to_be_bytes w64 blocks ++ (to_be_bytes w64 half ++ zeros (HEAD_GATE - 24)))

-- the bytes of a head block whose gate is this byte
abbrev pub head_with : ℕ → ℕ → ℕ → List ℕ
head_with blocks half gate =
    head_front blocks half ++ gate ∷ zeros (HEAD_BLOCK_SIZE - (HEAD_GATE + 1))

-- the head block of a journal: its gate is open
unfoldable pub head_of : ℕ → ℕ → List ℕ
head_of blocks half = head_with blocks half 1

-- what a journal's number of blocks and half length may be
pub record AreLimits (blocks half : ℕ) : Type 0 where
  pub some : 1 ≤ blocks
  pub most : blocks ≤ BLOCK_LIMIT
  pub least : HALF_LEAST ≤ half
  pub greatest : half ≤ HALF_LIMIT
  pub steps : half % HALF_STEP ≡ 0

-- the n bytes from a place on, as far as the image goes
unfoldable pub part_at : ℕ → ℕ → List ℕ → List ℕ
part_at place n image = take n (drop place image)

-- where a half begins
abbrev pub start_of : Side → ℕ → ℕ
start_of First half = HEAD_BLOCK_SIZE
start_of Second half = HEAD_BLOCK_SIZE + half

abbrev pub other_side : Side → Side
other_side First = Second
other_side Second = First

-- The image is a journal whose current half is this one and has this serial; `both` says whether
-- the other half is open too. What stands behind the halves is not looked at.
pub record HalvesStand (side : Side) (serial : ℕ) (both : Bool) (blocks half : ℕ) (tables : List ℕ)
    (changes : List (List ℕ)) (image : List ℕ) : Type 0 where
  pub limits : AreLimits blocks half
  pub head : take HEAD_BLOCK_SIZE image ≡ head_of blocks half
  pub is_serial : serial < SERIAL_COUNT
  pub current : IsHalf serial tables changes (part_at (start_of side half) half image)
  pub other : IsOtherHalf both serial (part_at (start_of (other_side side) half) half image)

-- The image is a journal: one of its halves is the current one.
pub record IsHalvedJournal (blocks half : ℕ) (tables : List ℕ) (changes : List (List ℕ))
    (image : List ℕ) : Type 0 where
  pub side : Side
  pub serial : ℕ
  pub both : Bool
  pub stands : HalvesStand side serial both blocks half tables changes image

-- the image is no journal
abbrev pub NoJournal : List ℕ → Type 0
NoJournal image = (blocks half : ℕ) (tables : List ℕ) (changes : List (List ℕ))
    → IsHalvedJournal blocks half tables changes image → ⊥
