-- What a call that adds a draft does to the drafts, to the store and to the disk.
use Rattle.std.specs.Prelude.{◌≡◌, ℕ, List, [], ◌∷◌, ◌++◌, length}
use Rattle.disks.specs.declared.disk.Disk.{Ghosts}
use Rattle.file_store.specs.Stores.{AreUsed, blocks_of_all, draft_blocks, draft_size, free_of, store_base}
use Rattle.file_store.specs.declared.draft.Draft.{Draft}
use Rattle.file_store.specs.declared.store.FileStore.{FileStore}
use Rattle.line_drafts.specs.Held.{AreHeld}

-- One draft more, behind the others, for a content of these bytes: its blocks were the first free
-- ones, and what the others hold they hold still.
pub record AddsDraft {D : Type 0} (on : Ghosts D) (drafts_old drafts_new : List Draft)
    (files_old files_new : FileStore) (disk_old disk_new : D) (bytes : List ℕ) : Type 0 where
  pub draft : Draft
  pub added : drafts_new ≡ drafts_old ++ draft ∷ []
  pub blocks : free_of files_old ≡ draft_blocks draft ++ free_of files_new
  pub size : draft_size draft ≡ length bytes
  pub held : (contents : List (List ℕ))
      → AreHeld (store_base files_old) drafts_old contents (on.seen disk_old)
      → AreHeld (store_base files_old) drafts_new (contents ++ bytes ∷ []) (on.seen disk_new)

-- None: the drafts and the free blocks are as they were, and what the drafts hold they hold still.
pub record AddsNone {D : Type 0} (on : Ghosts D) (drafts_old drafts_new : List Draft)
    (files_old files_new : FileStore) (disk_old disk_new : D) : Type 0 where
  pub drafts : drafts_new ≡ drafts_old
  pub blocks : free_of files_new ≡ free_of files_old
  pub held : (contents : List (List ℕ))
      → AreHeld (store_base files_old) drafts_old contents (on.seen disk_old)
      → AreHeld (store_base files_old) drafts_new contents (on.seen disk_new)

-- One draft more, behind the others, which is to have so many bytes.
pub record AddsOne (drafts_old drafts_new : List Draft) (bytes : ℕ) : Type 0 where
  pub draft : Draft
  pub added : drafts_new ≡ drafts_old ++ draft ∷ []
  pub size : draft_size draft ≡ bytes

-- where the blocks of the drafts and any others are in use, those of the new drafts and these
-- others are
abbrev pub StayUsed : List Draft → List Draft → FileStore → FileStore → Type 0
StayUsed drafts_old drafts_new files_old files_new = (others : List ℕ)
    → AreUsed files_old (others ++ blocks_of_all drafts_old)
    → AreUsed files_new (others ++ blocks_of_all drafts_new)
