-- What reading a store does, before its boot number is looked at.
use Rattle.std.specs.Prelude.{◌≡◌, ◌≢◌, ◌+◌, ◌≤◌, Result, Err, IfOk}
use Rattle.disks.specs.declared.disk.Disk.{Ghosts}
use Rattle.disks.specs.Disk.{Only}
use Rattle.disks.specs.Moments.{LeavesOnly}
use Rattle.disks.specs.Spends.{Spends}
use Rattle.machine.specs.Store.{Store, session_over}
use Rattle.updater.specs.declared.fault.RecoverFault.{RecoverFault}
use Rattle.updater.specs.declared.fault.RecoverFault.TheVariants.{NotAStore, DiskFault}
use Rattle.updater.specs.Shown.{Updater}
use Rattle.updater.specs.StandsFor.{StandsFor, StandsForNone}
use Rattle.updater.specs.Updater.{Holds}

-- a store for which reads stood is held, with no job
pub record IsLoaded {D : Type 0} (on : Ghosts D) (disk_old : D) (updater : Updater) (disk_new : D)
    : Type 0 where
  pub store : Store
  pub stands : StandsFor (on.seen disk_old) store
  pub holds : Holds on updater disk_new (session_over store)

-- It makes one call that may change the disk, a sync, and writes nothing. From then on each stop
-- leaves what reads give.
pub record Loaded {D : Type 0} (on : Ghosts D) (disk_old : D)
    (result : Result Updater RecoverFault) (disk_new : D) : Type 0 where
  pub found : on.tells disk_new → IfOk result (λ updater. IsLoaded on disk_old updater disk_new)
  pub not_a_store : on.tells disk_new → result ≡ Err NotAStore → StandsForNone (on.seen disk_old)
  pub seen : on.seen disk_new ≡ on.seen disk_old
  pub stop : LeavesOnly on disk_old disk_new (on.left_at disk_old (on.moment disk_old))
  pub durable : result ≢ Err DiskFault
      → Only (on.seen disk_old) (on.left_at disk_new (on.moment disk_new))
  pub synced : result ≢ Err DiskFault → on.moment disk_old + 1 ≤ on.moment disk_new
  pub spends : Spends on 1 0 disk_old disk_new (result ≡ Err DiskFault)
