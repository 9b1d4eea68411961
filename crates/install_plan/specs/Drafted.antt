-- How the drafts of a line end.
use Rattle.std.specs.Prelude.{◌≡◌, ◌⊎◌, ℕ, List, ◌++◌, Result, Ok, Err, length, map}
use Rattle.std.specs.List.{AllZip}
use Rattle.disks.specs.declared.disk.Disk.{Ghosts}
use Rattle.disks.specs.Moments.{Each, LeavesOnly}
use Rattle.disks.specs.Spends.{Spends}
use Rattle.file_store.specs.Stores.{SameRange, blocks_of_all, draft_blocks, draft_size, free_of, store_base}
use Rattle.file_store.specs.declared.draft.Draft.{Draft}
use Rattle.file_store.specs.declared.store.FileStore.{FileStore}
use Rattle.line_drafts.specs.Held.{AreContents, AreHeld}
use Rattle.install_plan.specs.declared.drafted.Drafted.{Drafted}
use Rattle.install_plan.specs.declared.lack.Lack.{Lack}
use Rattle.install_plan.specs.declared.lack.Lack.TheVariants as by
use Rattle.install_plan.specs.declared.prepared.PreparedFiles.{PreparedFiles}
use Rattle.install_plan.specs.declared.prepared.PreparedFiles.TheVariants as to

-- each draft is to have as many bytes as its content has, in their order
abbrev pub AreSized : List Draft → List (List ℕ) → Type 0
AreSized drafts contents =
    AllZip (λ draft content. draft_size draft ≡ length content) drafts contents

-- a change that is made durable, or none where the disk fails; a reply; or the disk's fault
abbrev pub EndsAs : Result Drafted Lack → PreparedFiles → Type 0
EndsAs (Ok drafted) ended =
    (ended ≡ to.Change drafted.change drafted.reply drafted.taken drafted.unused)
    ⊎ (ended ≡ to.DiskFault)
EndsAs (Err (by.Reply reply)) ended = ended ≡ to.Reply reply
EndsAs (Err by.DiskFault) ended = ended ≡ to.DiskFault

-- the free blocks at the end: the same, or those of the drafts too
abbrev pub FreesFor : List Draft → FileStore → FileStore → PreparedFiles → Type 0
FreesFor drafts files_old files_new (to.Change change reply taken unused) = files_new ≡ files_old
FreesFor drafts files_old files_new (to.Reply reply) =
    free_of files_new ≡ blocks_of_all drafts ++ free_of files_old
FreesFor drafts files_old files_new to.DiskFault =
    free_of files_new ≡ blocks_of_all drafts ++ free_of files_old

-- at a change each image has what the drafts held
abbrev pub IsSealed : {D : Type 0} → Ghosts D → ℕ → List Draft → D → D → PreparedFiles → Type 0
IsSealed on base drafts disk_old disk_new (to.Change change reply taken unused) =
    (contents : List (List ℕ)) → AreHeld base drafts contents (on.seen disk_old)
    → Each on disk_new (AreContents base (map draft_blocks drafts) contents)
IsSealed on base drafts disk_old disk_new _ = Unit {0}

-- nothing is written; a stop inside leaves what it could leave before
pub record Seals {D : Type 0} (on : Ghosts D) (drafts : List Draft)
    (drafted : Result Drafted Lack) (files_old files_new : FileStore) (disk_old disk_new : D)
    (ended : PreparedFiles) : Type 0 where
  pub range : SameRange files_old files_new
  pub free : FreesFor drafts files_old files_new ended
  pub contents : IsSealed on (store_base files_old) drafts disk_old disk_new ended
  pub seen : on.seen disk_new ≡ on.seen disk_old
  pub stop : LeavesOnly on disk_old disk_new (on.left_at disk_old (on.moment disk_old))
  pub spends : Spends on 1 0 disk_old disk_new
      ((ended ≡ to.DiskFault) × (drafted ≡ Err by.DiskFault → ⊥))
