-- What stops leave over a run of disk calls, at each moment.
use Rattle.std.specs.Prelude.{◌≡◌, ℕ, ◌≤◌, List}
use Rattle.disks.specs.Disk.{Elapses}
use Rattle.disks.specs.declared.disk.Disk.{Ghosts}

-- Each image that a stop may leave, at each moment from old's to new's, has P. Before old nothing
-- changed.
pub record LeavesOnly {D : Type 0} (on : Ghosts D) (old new : D) (P : List ℕ → Type 0)
    : Type 0 where
  pub later : on.moment old ≤ on.moment new
  pub past : (t : ℕ) (c : List ℕ) → t ≤ on.moment old → on.left_at new t c → on.left_at old t c
  pub each : (t : ℕ) (c : List ℕ) → on.moment old ≤ t → t ≤ on.moment new → on.left_at new t c → P c

-- each image that a stop may leave now has P
abbrev pub Each : {D : Type 0} → Ghosts D → D → (List ℕ → Type 0) → Type 0
Each on disk P = (c : List ℕ) → on.left_at disk (on.moment disk) c → P c

-- calls that only read
pub record Untouched {D : Type 0} (on : Ghosts D) (old new : D) : Type 0 where
  pub no_tick : on.moment new ≡ on.moment old
  pub same_reads : on.seen new ≡ on.seen old
  pub time : Elapses (on.moment old) (on.left_at old) (on.left_at new)

-- no call that changes the disk was made, and reads give the same
pub record Rests {D : Type 0} (on : Ghosts D) (old new : D) : Type 0 where
  pub untouched : Untouched on old new
  pub total : on.total new ≡ on.total old
