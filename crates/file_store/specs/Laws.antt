-- What stays while drafts are written.
use Rattle.std.specs.Prelude.{◌≡◌, ℕ, ◌*◌, ◌≤◌, min, List, length, take, Contains}
use Rattle.disks.specs.declared.disk.Disk.{Ghosts}
use Rattle.disks.specs.Moments.{Each, LeavesOnly}
use Rattle.small_types.specs.Blocks.{IsContent, KeepsOutside, ShareNone}
use Rattle.small_types.specs.declared.limits.TheConstants.{BLOCK_SIZE}
use Rattle.file_store.specs.Stores.{AreUsed, free_of}
use Rattle.file_store.specs.Writes.{WritesOnly}
use Rattle.file_store.specs.declared.store.FileStore.{FileStore}

-- A content in free blocks stays while drafts are written. It may be lost only once `begin` has
-- handed one of its blocks out.
abbrev pub FreedContentStays : Type 0
FreedContentStays = (store : FileStore) (base : ℕ) (blocks written content old new : List ℕ)
    → length content ≤ BLOCK_SIZE * length blocks → AreUsed store written
    → ((block : ℕ) → Contains blocks block → Contains (free_of store) block)
    → KeepsOutside base written old new
    → IsContent base blocks content old → IsContent base blocks content new

-- a content that each image has, and of which no block is written, is in each image at each moment
-- of the writing
abbrev pub ImagesKeepContents : {D : Type 0} → Ghosts D → Type 0
ImagesKeepContents {D = D} on = (base : ℕ) (blocks written content : List ℕ) (old new : D)
    → length content ≤ BLOCK_SIZE * length blocks → ShareNone blocks written
    → Each on old (IsContent base blocks content) → WritesOnly on base written old new
    → LeavesOnly on old new (IsContent base blocks content)

-- the image begins with what stood before the first block of some old image
abbrev pub HasOldFront : ℕ → (List ℕ → Type 0) → List ℕ → Type 0
HasOldFront base old image = (before : List ℕ) × old before
    × (take (min base (length before)) image ≡ take base before)

-- and so it is with the bytes before the first block, as a journal
abbrev pub ImagesKeepFronts : {D : Type 0} → Ghosts D → Type 0
ImagesKeepFronts {D = D} on = (base : ℕ) (written : List ℕ) (old new : D)
    → WritesOnly on base written old new
    → LeavesOnly on old new (HasOldFront base (on.left_at old (on.moment old)))
