-- What stays while blocks are written that were free.
use Rattle.std.specs.Prelude.{ℕ, ◌*◌, ◌≤◌, List, length, Contains}
use Rattle.disks.specs.declared.disk.Disk.{Ghosts}
use Rattle.disks.specs.Moments.{Each, LeavesOnly}
use Rattle.small_types.specs.Blocks.{IsContent}
use Rattle.small_types.specs.declared.limits.TheConstants.{BLOCK_SIZE}
use Rattle.file_store.specs.Stores.{AreUsed, free_of}
use Rattle.file_store.specs.Writes.{WritesOnly}
use Rattle.file_store.specs.declared.store.FileStore.{FileStore}

-- A content in used blocks that each image has is in each image at each moment, while only blocks
-- are written that were free.
abbrev pub ImagesKeepUsed : {D : Type 0} → Ghosts D → Type 0
ImagesKeepUsed {D = D} on = (store : FileStore) (base : ℕ) (used blocks content : List ℕ)
    (old new : D) → length content ≤ BLOCK_SIZE * length blocks → AreUsed store used
    → ((block : ℕ) → Contains blocks block → Contains used block)
    → WritesOnly on base (free_of store) old new
    → Each on old (IsContent base blocks content)
    → LeavesOnly on old new (IsContent base blocks content)

-- and reads still give one that they gave
abbrev pub ReadsKeepUsed : {D : Type 0} → Ghosts D → Type 0
ReadsKeepUsed {D = D} on = (store : FileStore) (base : ℕ) (used blocks content : List ℕ)
    (old new : D) → length content ≤ BLOCK_SIZE * length blocks → AreUsed store used
    → ((block : ℕ) → Contains blocks block → Contains used block)
    → WritesOnly on base (free_of store) old new
    → IsContent base blocks content (on.seen old) → IsContent base blocks content (on.seen new)
