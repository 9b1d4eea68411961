-- What opening a store does: what is held then, what a stop leaves, and what it costs the disk.
use Rattle.std.specs.Prelude.{◌≡◌, ◌≢◌, ◌+◌, ◌≤◌, ℕ, List, Bool, true, false, Result, Err, IfOk, IfErr, OnOk}
use Rattle.disks.specs.declared.disk.Disk.{Ghosts}
use Rattle.disks.specs.Spends.{Spends}
use Rattle.machine.specs.Store.{Store, booted, session_over}
use Rattle.updater.specs.declared.fault.RecoverFault.{RecoverFault}
use Rattle.updater.specs.declared.fault.RecoverFault.TheVariants.{NotAStore, DiskFault, Memory}
use Rattle.updater.specs.Shown.{Updater}
use Rattle.updater.specs.Costs.{Costs}
use Rattle.updater.specs.Moments.{LeavesSince, LeavesSinceOrNot}
use Rattle.updater.specs.StandsFor.{StandsFor, StandsForNone, StandsForEither}
use Rattle.updater.specs.Updater.{Holds}

-- Where the disk tells, the store is the one that reads stand for, after a boot of that number
-- where its number was another, and has no job. The answer is true exactly there.
pub record OpeningHolds {D : Type 0} (on : Ghosts D) (boot : ℕ) (disk_old : D)
    (result : Result (Updater × Bool) RecoverFault) (disk_new : D) : Type 0 where
  pub found : on.tells disk_new → OnOk result ((old : Store) × StandsFor (on.seen disk_old) old)
  pub stored : on.tells disk_new → (old : Store) → StandsFor (on.seen disk_old) old
      → IfOk result (λ r. Holds on r.0 disk_new (session_over (booted boot old)))
  pub same_boot : on.tells disk_new → (old : Store) → StandsFor (on.seen disk_old) old
      → IfOk result (λ r. r.1 ≡ false → old.boot ≡ boot)
  pub other_boot : on.tells disk_new → (old : Store) → StandsFor (on.seen disk_old) old
      → IfOk result (λ r. r.1 ≡ true → old.boot ≢ boot)
  pub not_a_store : on.tells disk_new → result ≡ Err NotAStore → StandsForNone (on.seen disk_old)

-- From its first sync on a stop leaves the store as it was or with the given boot number. Where
-- that sync fails a stop leaves what it could leave before.
pub record OpeningLeaves {D : Type 0} (on : Ghosts D) (boot : ℕ) (disk_old : D)
    (result : Result (Updater × Bool) RecoverFault) (disk_new : D) : Type 0 where
  pub past : (t : ℕ) (image : List ℕ) → t ≤ on.moment disk_old
      → on.left_at disk_new t image → on.left_at disk_old t image
  pub stop : on.tells disk_new → (old : Store) → StandsFor (on.seen disk_old) old
      → result ≢ Err DiskFault
      → LeavesSince on (on.moment disk_old + 1) disk_new (StandsForEither old (booted boot old))
  pub stop_fault : on.tells disk_new → (old : Store) → StandsFor (on.seen disk_old) old
      → LeavesSinceOrNot on disk_old disk_new (StandsForEither old (booted boot old))
  pub stop_memory : (old : Store) → StandsFor (on.seen disk_old) old → result ≡ Err Memory
      → LeavesSince on (on.moment disk_old + 1) disk_new (λ image. StandsFor image old)

pub record OpeningSpends {D : Type 0} (on : Ghosts D) (boot : ℕ) (disk_old : D)
    (result : Result (Updater × Bool) RecoverFault) (disk_new : D) : Type 0 where
  -- Without a fault of the disk a refusal wrote nothing.
  pub seen : IfErr result (λ fault. fault ≢ DiskFault → on.seen disk_new ≡ on.seen disk_old)
  pub within : IfErr result (λ fault. fault ≢ DiskFault
      → on.moment disk_new ≤ on.moment disk_old + 1)
  pub unwritten : IfErr result (λ fault. fault ≢ DiskFault → on.total disk_new ≡ on.total disk_old)
  -- It makes one call that may change the disk where the boot number is the kept one, and writes
  -- nothing. It makes more of them where it is another, and writes at most what that boot costs.
  pub synced : OnOk result (on.moment disk_old + 1 ≤ on.moment disk_new)
  pub quiet : IfOk result (λ r. r.1 ≡ false → (on.moment disk_new ≤ on.moment disk_old + 1)
      × (on.total disk_new ≡ on.total disk_old))
  pub marked : IfOk result (λ r. r.1 ≡ true → on.moment disk_old + 2 ≤ on.moment disk_new)
  pub bytes : ℕ
  pub costs : on.tells disk_new → (old : Store) → StandsFor (on.seen disk_old) old
      → Costs old (booted boot old) bytes
  -- What the disk tells afterwards it told before. Its count of faults rises exactly where it
  -- failed.
  pub spends : Spends on 11 bytes disk_old disk_new (result ≡ Err DiskFault)

pub record Opened {D : Type 0} (on : Ghosts D) (boot : ℕ) (disk_old : D)
    (result : Result (Updater × Bool) RecoverFault) (disk_new : D) : Type 0 where
  pub holds : OpeningHolds on boot disk_old result disk_new
  pub leaves : OpeningLeaves on boot disk_old result disk_new
  pub spent : OpeningSpends on boot disk_old result disk_new
