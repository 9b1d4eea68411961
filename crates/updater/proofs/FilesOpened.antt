-- How judging tables ends.
use Rattle.std.proofs.Common.{◌≡◌, ◌≢◌, Result, Err}
use Rattle.disks.specs.declared.disk.Disk.{Ghosts}
use Rattle.disks.specs.Moments.{Untouched}
use Rattle.disks.specs.Spends.{Spends}
use Rattle.disks.proofs.Books.{spends_as, spends_none}
use Rattle.disks.proofs.MomentLemmas.{untouched_start}
use Rattle.small_types.specs.declared.room.Room.{Room}
use Rattle.file_store.specs.declared.store.FileStore.{FileStore}
use Rattle.store_state.specs.Tables.{Tables}
use Rattle.table_log.specs.declared.rooms.Rooms.{Rooms}
use Rattle.updater.specs.declared.fault.RecoverFault.{RecoverFault}
use Rattle.updater.specs.declared.fault.RecoverFault.TheVariants.{DiskFault, NotAStore}
use Rattle.updater.specs.FilesOpened.{IsWholeStore, OpensFiles}

module _ {D : Type 0} (on : Ghosts D) (room : Room) (tables : Tables) (disk_old disk_new : D) where
  -- nothing was answered
  pub refused : (fault : RecoverFault) (failed : Type 0) → Untouched on disk_old disk_new
      → Spends on 0 0 disk_old disk_new failed → (failed → fault ≡ DiskFault) → (fault ≡ DiskFault → failed)
      → (on.tells disk_new → fault ≡ NotAStore → ¬ IsWholeStore room (on.seen disk_old) tables)
      → OpensFiles on room tables disk_old (Err fault) disk_new
  refused fault failed still spends to from none = record {
    of_store = tt;
    whole = λ told. tt;
    files = tt;
    rooms = tt;
    not_a_store = λ told e. none told (err_is e);
    still = still;
    spends = spends_as on 0 0 disk_old disk_new failed _ (λ f. ends (to f)) (λ e. from (err_is e)) spends;
  }
    where
      err_is : {other : RecoverFault} → ◌≡◌ {A = Result (FileStore × Rooms) RecoverFault} (Err fault) (Err other) → fault ≡ other
      err_is e = cc

      ends : fault ≡ DiskFault → ◌≡◌ {A = Result (FileStore × Rooms) RecoverFault} (Err fault) (Err DiskFault)
      ends e = cc

module _ {D : Type 0} (on : Ghosts D) (room : Room) (tables : Tables) (disk : D) where
  -- before the disk was asked
  pub refused_before : (fault : RecoverFault) → fault ≢ DiskFault → (fault ≡ NotAStore → ¬ IsWholeStore room (on.seen disk) tables)
      → OpensFiles on room tables disk (Err fault) disk
  refused_before fault other none =
      refused on room tables disk disk fault ⊥ (untouched_start on disk) (spends_none on disk) (λ no. absurd no) (λ e. absurd (other e)) (λ told. none)
