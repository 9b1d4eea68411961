-- What a command that asks links comes to: a change of the tables and a reply, or a reply alone.
use Rattle.std.specs.Prelude.{◌≡◌, ◌⊎◌, ◌++◌, ℕ, List}
use Rattle.std.specs.List.Sorted.{IsPermutation}
use Rattle.small_types.specs.declared.room.Room.{Room}
use Rattle.disks.specs.declared.disk.Disk.{Ghosts}
use Rattle.disks.specs.Moments.{Each, Rests}
use Rattle.identity.specs.declared.key.Key.{Key}
use Rattle.machine.specs.declared.reply.Reply.{Reply}
use Rattle.machine.specs.declared.reply.Reply.TheVariants.{AllLinks, Memory}
use Rattle.machine.specs.Store.{Store}
use Rattle.store_state.specs.declared.change.Change.{Change}
use Rattle.store_state.specs.Shows.{Shows}
use Rattle.store_state.specs.Tables.{Tables, table_shape}
use Rattle.table_files.specs.Freed.{brought}
use Rattle.file_store.specs.Stores.{SameRange, free_of, store_base}
use Rattle.file_store.specs.Writes.{WritesOnly}
use Rattle.file_store.specs.declared.store.FileStore.{FileStore}
use Rattle.line_drafts.specs.Works.{SpendsWithin}
use Rattle.links.specs.Links.{LinksState}
use Rattle.install_plan.specs.declared.prepared.Prepared.{Prepared}
use Rattle.install_plan.specs.declared.prepared.Prepared.TheVariants as to
use Rattle.install_plan.specs.declared.prepared.PreparedFiles.{PreparedFiles}
use Rattle.install_plan.specs.declared.prepared.PreparedFiles.TheVariants as with_files
use Rattle.install_plan.specs.Checks.{IsCheckOver, IsCheckReady}
use Rattle.install_plan.specs.GroupReady.{IsGroupOver, IsGroupReady}
use Rattle.install_plan.specs.LeadsIn.{HasNew}
use Rattle.install_plan.specs.Plans.{IsRefused}
use Rattle.install_plan.specs.Ready.{IsReady}

-- ---- a check

abbrev pub IsCheckPrepared : Room → Tables → Key → List (List ℕ) → LinksState → LinksState → ℕ
    → Prepared → Type 0
IsCheckPrepared room tables key texts before after now (to.Change change reply) =
    IsCheckReady room tables key texts before after now change reply
IsCheckPrepared room tables key texts before after now (to.Reply reply) =
    IsCheckOver room tables key texts before after now reply

-- ---- what brings files

-- The blocks that were taken were the first free ones. They are those that the change brings, and those
-- that are not needed any more.
pub record TakesBlocks (files_old files_new : FileStore) (change : Change)
    (taken unused : List ℕ) : Type 0 where
  pub blocks : free_of files_old ≡ taken ++ free_of files_new
  pub same : IsPermutation taken (brought change ++ unused)

-- Nothing is written but in blocks that were free, and at most so many bytes, whatever comes of it.
pub record WritesFree {D : Type 0} (on : Ghosts D) (files_old files_new : FileStore)
    (disk_old disk_new : D) (most : ℕ) (fault : Type 0) : Type 0 where
  pub only : WritesOnly on (store_base files_old) (free_of files_old) disk_old disk_new
  pub range : SameRange files_old files_new
  pub spends : SpendsWithin on most disk_old disk_new fault

-- a reply behind which files may stand in free blocks: one did not come, or there was no memory
abbrev pub MayLeaveFiles : Reply → Type 0
MayLeaveFiles (AllLinks target causes) = Unit {0}
MayLeaveFiles Memory = Unit {0}
MayLeaveFiles _ = ⊥

-- behind any other reply alone no call was made that changes the disk
abbrev pub LeavesDisk : {D : Type 0} → Ghosts D → D → D → PreparedFiles → Type 0
LeavesDisk on disk_old disk_new (with_files.Reply reply) =
    MayLeaveFiles reply ⊎ Rests on disk_old disk_new
LeavesDisk on disk_old disk_new _ = Unit {0}

-- An install. Each image that a stop may leave has the new files, where the disk told and the tables
-- showed a store with what reads gave before. Where there is no change the same blocks are free as
-- before; where the disk failed, the links are as for want of memory.
abbrev pub IsPrepared : {D : Type 0} → Ghosts D → Room → Tables → List ℕ → List (List ℕ)
    → LinksState → LinksState → ℕ → FileStore → FileStore → D → D → PreparedFiles → Type 0
IsPrepared on room tables url texts before after now files_old files_new disk_old disk_new
    (with_files.Change change reply taken unused) =
    (ready : IsReady (on.tells disk_new) (on.seen disk_old) (on.seen disk_new) room tables url
    texts before after now change reply)
    × (on.tells disk_new → (store : Store) → Shows room tables (on.seen disk_old) store
    → Each on disk_new (HasNew room change ready.bytes))
    × TakesBlocks files_old files_new change taken unused
IsPrepared on room tables url texts before after now files_old files_new disk_old disk_new
    (with_files.Reply reply) =
    IsRefused (table_shape room tables) url texts before after reply
    × (free_of files_new ≡ free_of files_old)
IsPrepared on room tables url texts before after now files_old files_new disk_old disk_new
    with_files.DiskFault =
    IsRefused (table_shape room tables) url texts before after Memory
    × (free_of files_new ≡ free_of files_old)

-- a group, likewise
abbrev pub IsGroupPrepared : {D : Type 0} → Ghosts D → Room → Tables → ℕ → List ℕ
    → LinksState → LinksState → FileStore → FileStore → D → PreparedFiles → Type 0
IsGroupPrepared on room tables lease group before after files_old files_new disk
    (with_files.Change change reply taken unused) =
    (ready : IsGroupReady (on.seen disk) room tables lease group before after change reply)
    × Each on disk (HasNew room change ready.bytes)
    × TakesBlocks files_old files_new change taken unused
IsGroupPrepared on room tables lease group before after files_old files_new disk
    (with_files.Reply reply) =
    IsGroupOver room tables lease group before after reply
    × (free_of files_new ≡ free_of files_old)
IsGroupPrepared on room tables lease group before after files_old files_new disk
    with_files.DiskFault =
    IsGroupOver room tables lease group before after Memory
    × (free_of files_new ≡ free_of files_old)
