-- What reading the tables of a disk does.
use Rattle.std.specs.Prelude.{◌≡◌, ◌≢◌, ◌+◌, ◌≤◌, Result, Err, IfOk}
use Rattle.disks.specs.declared.disk.Disk.{Ghosts}
use Rattle.disks.specs.Disk.{Only}
use Rattle.disks.specs.Moments.{LeavesOnly}
use Rattle.disks.specs.Spends.{Spends}
use Rattle.journal.specs.Layout.{AreLimits}
use Rattle.journal.specs.Log.{half_of}
use Rattle.table_codec.specs.Values.{HaveFields}
use Rattle.table_log.specs.declared.fault.OpenFault.{OpenFault}
use Rattle.table_log.specs.declared.fault.OpenFault.TheVariants.{NotTables, DiskFault}
use Rattle.table_log.specs.declared.recovery.OpenTables.{OpenTables}
use Rattle.table_log.specs.ReadsAs.{IsOpenAs, ReadsAs, ReadsAsNone}

-- what reads gave reads as the tables that are answered, and the log is open as them
pub record IsReadFrom {D : Type 0} (on : Ghosts D) (disk_old : D) (opened : OpenTables)
    (disk_new : D) : Type 0 where
  pub reads : ReadsAs opened.room (on.seen disk_old) opened.state
  pub log : IsOpenAs on opened.log opened.room opened.state disk_new

-- What is known of an answer over every disk, also one that does not tell. Each field of its tables
-- has an encoding.
pub record HasRoom (opened : OpenTables) : Type 0 where
  pub limits : AreLimits opened.room.blocks opened.room.half
  pub half : half_of opened.log ≡ opened.room.half
  pub fields : HaveFields opened.state

-- It makes one call that may change the disk, a sync, and writes nothing. From then on each stop
-- leaves what reads give. It answers that there are no tables exactly where reads give none.
pub record Recovers {D : Type 0} (on : Ghosts D) (disk_old : D)
    (result : Result OpenTables OpenFault) (disk_new : D) : Type 0 where
  pub found : on.tells disk_new → IfOk result (λ opened. IsReadFrom on disk_old opened disk_new)
  pub not_tables : on.tells disk_new → result ≡ Err NotTables → ReadsAsNone (on.seen disk_old)
  pub room : IfOk result HasRoom
  pub seen : on.seen disk_new ≡ on.seen disk_old
  pub stop : LeavesOnly on disk_old disk_new (on.left_at disk_old (on.moment disk_old))
  pub durable : result ≢ Err DiskFault
      → Only (on.seen disk_old) (on.left_at disk_new (on.moment disk_new))
  pub synced : result ≢ Err DiskFault → on.moment disk_old + 1 ≤ on.moment disk_new
  pub spends : Spends on 1 0 disk_old disk_new (result ≡ Err DiskFault)
