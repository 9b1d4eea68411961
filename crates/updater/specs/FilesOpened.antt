-- What judging tables that a disk reads as comes to.
use Rattle.std.specs.Prelude.{◌≡◌, ℕ, List, Result, Err, IfOk}
use Rattle.disks.specs.declared.disk.Disk.{Ghosts}
use Rattle.disks.specs.Moments.{Untouched}
use Rattle.disks.specs.Spends.{Spends}
use Rattle.small_types.specs.declared.room.Room.{Room}
use Rattle.file_store.specs.declared.store.FileStore.{FileStore}
use Rattle.store_state.specs.Tables.{Tables}
use Rattle.table_files.specs.Held.{held_by}
use Rattle.table_log.specs.declared.rooms.Rooms.{Rooms}
use Rattle.table_log.specs.Rooms.{HaveRooms}
use Rattle.install_plan.specs.Blocks.{UsesBlocks}
use Rattle.updater.specs.declared.fault.RecoverFault.{RecoverFault}
use Rattle.updater.specs.declared.fault.RecoverFault.TheVariants.{DiskFault, NotAStore}
use Rattle.updater.specs.StandsFor.{ArePlaced}
use Rattle.updater.specs.StoreTables.{AreOfStore, HasAllFiles}

-- the tables are those of a store, each block is one of its own, and the image has all bytes of the
-- files
pub record IsWholeStore (room : Room) (image : List ℕ) (tables : Tables) : Type 0 where
  pub of_store : AreOfStore room tables
  pub placed : ArePlaced room (held_by tables)
  pub files : HasAllFiles room image tables

-- Exactly the tables of a whole store are found good, where there is memory and the disk does not fail.
-- Then each block that they hold is in use, and each other one is free. The disk is asked for its
-- length alone.
pub record OpensFiles {D : Type 0} (on : Ghosts D) (room : Room) (tables : Tables) (disk_old : D)
    (result : Result (FileStore × Rooms) RecoverFault) (disk_new : D) : Type 0 where
  pub of_store : IfOk result (λ parts. AreOfStore room tables)
  pub whole : on.tells disk_new → IfOk result (λ parts. IsWholeStore room (on.seen disk_old) tables)
  pub files : IfOk result (λ parts. UsesBlocks parts.0 room (held_by tables))
  pub rooms : IfOk result (λ parts. HaveRooms room.half parts.1)
  pub not_a_store : on.tells disk_new → result ≡ Err NotAStore
      → ¬ IsWholeStore room (on.seen disk_old) tables
  pub still : Untouched on disk_old disk_new
  pub spends : Spends on 0 0 disk_old disk_new (result ≡ Err DiskFault)
