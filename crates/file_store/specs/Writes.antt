-- What a run of calls that write into blocks does to a disk.
use Rattle.std.specs.Prelude.{◌≡◌, ℕ, ◌+◌, ◌-◌, ◌/◌, List, ◌++◌, length}
use Rattle.disks.specs.declared.disk.Disk.{Ghosts}
use Rattle.disks.specs.Moments.{LeavesOnly}
use Rattle.small_types.specs.Blocks.{IsContent, KeepsOutside, count_for}
use Rattle.small_types.specs.declared.limits.TheConstants.{BLOCK_SIZE}

-- outside these blocks the image is an old one
abbrev pub IsOldOutsideBlocks : ℕ → List ℕ → (List ℕ → Type 0) → List ℕ → Type 0
IsOldOutsideBlocks base blocks old image =
    (before : List ℕ) × old before × KeepsOutside base blocks before image

-- Nothing is written outside these blocks: neither in what a stop leaves at any moment, nor in what
-- reads give.
pub record WritesOnly {D : Type 0} (on : Ghosts D) (base : ℕ) (blocks : List ℕ) (old new : D)
    : Type 0 where
  pub stops : LeavesOnly on old new
      (IsOldOutsideBlocks base blocks (on.left_at old (on.moment old)))
  pub reads : KeepsOutside base blocks (on.seen old) (on.seen new)

-- what reads give in these blocks after a piece more
abbrev pub AddsPiece : {D : Type 0} → Ghosts D → ℕ → List ℕ → ℕ → List ℕ → D → D → Type 0
AddsPiece on base blocks from piece old new = (content : List ℕ) → length content ≡ from
    → IsContent base blocks content (on.seen old)
    → IsContent base blocks (content ++ piece) (on.seen new)

-- in how many blocks so many bytes of a content stand, from one of them on
abbrev pub touched : ℕ → ℕ → ℕ
touched from n = count_for (from + n) - from / BLOCK_SIZE
