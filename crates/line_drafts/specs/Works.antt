-- What calls that add drafts, one after another, do to the drafts, to the store and to the disk.
use Rattle.std.specs.Prelude.{◌≡◌, ℕ, List, ◌++◌}
use Rattle.disks.specs.declared.disk.Disk.{Ghosts}
use Rattle.disks.specs.Spends.{Spends}
use Rattle.file_store.specs.Stores.{AreUsed, SameRange, blocks_of_all, free_of, store_base}
use Rattle.file_store.specs.Writes.{WritesOnly}
use Rattle.file_store.specs.declared.draft.Draft.{Draft}
use Rattle.file_store.specs.declared.store.FileStore.{FileStore}
use Rattle.line_drafts.specs.Added.{StayUsed}
use Rattle.line_drafts.specs.Held.{AreHeld}

-- the books of calls of a disk that are as many as they may be, and write at most so many bytes
abbrev pub SpendsWithin : {D : Type 0} → Ghosts D → ℕ → D → D → Type 0 → Type 0
SpendsWithin on most old new fault = (calls : ℕ) × Spends on calls most old new fault

-- Such a call, or several one after another, also where the last of them failed. At each moment
-- nothing is written but in blocks that were free. The drafts that came stand behind the others, and
-- their blocks were the first free ones. What the drafts held they hold still, and the blocks of all
-- of them are in use. At most so many bytes are written, and the count of faults rises where `fault`
-- is so, which says that the disk failed, and else stays.
pub record Works {D : Type 0} (on : Ghosts D) (drafts_old drafts_new : List Draft)
    (files_old files_new : FileStore) (disk_old disk_new : D) (most : ℕ) (fault : Type 0)
    : Type 0 where
  pub only : WritesOnly on (store_base files_old) (free_of files_old) disk_old disk_new
  pub range : SameRange files_old files_new
  pub more : List Draft
  pub added : drafts_new ≡ drafts_old ++ more
  pub taken : free_of files_old ≡ blocks_of_all more ++ free_of files_new
  pub used : AreUsed files_new (blocks_of_all drafts_new)
  pub others : StayUsed drafts_old drafts_new files_old files_new
  pub held : (contents : List (List ℕ))
      → AreHeld (store_base files_old) drafts_old contents (on.seen disk_old)
      → AreHeld (store_base files_old) drafts_old contents (on.seen disk_new)
  pub spends : SpendsWithin on most disk_old disk_new fault
