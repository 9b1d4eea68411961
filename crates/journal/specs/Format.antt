-- What stops leave while a journal is made.
use Rattle.std.specs.Prelude.{◌≡◌, ◌⊎◌, ℕ, ◌+◌, ◌<◌, ◌≤◌, List, [], ◌∷◌, ◌++◌, length}
use Rattle.disks.specs.Disk.{Torn, CutOff}
use Rattle.disks.specs.declared.disk.Disk.{Ghosts}
use Rattle.small_types.specs.Bytes.{put}
use Rattle.small_types.specs.declared.limits.TheConstants.{HEAD_BLOCK_SIZE}
use Rattle.journal.specs.declared.piece.TheConstants.{AROUND_TABLES}
use Rattle.journal.specs.Layout.{head_with, half_head, IsHalvedJournal, NoJournal}

-- the head block with this gate, and behind it the first half with these tables and no change
abbrev pub front_with : ℕ → ℕ → ℕ → List ℕ → List ℕ
front_with blocks half gate tables = head_with blocks half gate ++ (half_head 0 tables ++ 0 ∷ [])

-- a whole new journal, whose second half has a closed gate: with a gate of 1 it is one
abbrev pub new_with : ℕ → ℕ → ℕ → List ℕ → List ℕ
new_with blocks half gate tables =
    put (HEAD_BLOCK_SIZE + half) (0 ∷ []) (front_with blocks half gate tables)

-- an old image, or what a cut to nothing makes of one before it is synced
abbrev pub IsCutOrOld : (List ℕ → Type 0) → List ℕ → Type 0
IsCutOrOld old bytes = old bytes ⊎ ((image : List ℕ) × old image × CutOff 0 image bytes)

-- what two writes make of nothing before they are synced: of n bytes at 0, and then of one byte at
-- a place
abbrev pub IsFilled : ℕ → ℕ → List ℕ → Type 0
IsFilled n place bytes = Torn 0 n [] bytes
    ⊎ ((first : List ℕ) × Torn 0 n [] first × Torn place 1 first bytes)

-- the bytes are the new journal, which has no change, or no journal at all
abbrev pub IsNewOrNone : ℕ → ℕ → List ℕ → List ℕ → Type 0
IsNewOrNone blocks half tables bytes = IsHalvedJournal blocks half tables [] bytes ⊎ NoJournal bytes

-- What stops leave over a format. It makes seven calls: a cut and a sync, a write of the head with
-- the first half, a write of the second half's gate and a sync, the write of the head gate and a
-- sync. A stop leaves an old image or a cut one, until the first sync is done; then nothing stands
-- there, and at the writes what they make of nothing; once the second sync is done no journal; and
-- from then on the new journal or none.
pub record Formats {D : Type 0} (on : Ghosts D) (old new : D) (blocks half : ℕ) (tables : List ℕ)
    : Type 0 where
  pub later : on.moment old ≤ on.moment new
  pub past : (t : ℕ) (bytes : List ℕ) → t ≤ on.moment old → on.left_at new t bytes
      → on.left_at old t bytes
  pub first : (t : ℕ) (bytes : List ℕ) → on.moment old ≤ t → t ≤ on.moment new
      → t ≤ on.moment old + 2 → on.left_at new t bytes
      → IsCutOrOld (on.left_at old (on.moment old)) bytes
  pub empty : (bytes : List ℕ) → on.moment old + 2 < on.moment new
      → on.left_at new (on.moment old + 2) bytes → bytes ≡ []
  pub second : (t : ℕ) (bytes : List ℕ) → on.moment old + 2 < t → t ≤ on.moment new
      → t ≤ on.moment old + 5 → on.left_at new t bytes
      → IsFilled (HEAD_BLOCK_SIZE + AROUND_TABLES + length tables) (HEAD_BLOCK_SIZE + half) bytes
  pub closed : (bytes : List ℕ) → on.moment old + 5 < on.moment new
      → on.left_at new (on.moment old + 5) bytes → NoJournal bytes
  pub third : (t : ℕ) (bytes : List ℕ) → on.moment old + 5 < t → t ≤ on.moment new
      → on.left_at new t bytes → IsNewOrNone blocks half tables bytes
