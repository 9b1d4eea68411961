-- What calls cost a disk.
use Rattle.std.specs.Prelude.{◌≡◌, ◌⊎◌, ℕ, ◌+◌, ◌<◌, ◌≤◌}
use Rattle.outside.specs.Streams.{Rose}
use Rattle.disks.specs.declared.disk.Disk.{Ghosts}

-- The disk has no number left for a call that writes so many bytes.
abbrev pub HasNoNumber : ℕ → ℕ → ℕ → Type 0
HasNoNumber moment total n =
    (0xffff_ffff_ffff_ffff ≤ moment) ⊎ (0xffff_ffff_ffff_ffff < total + n)

-- The books of a call, or of several one after another. What the disk tells after them it told
-- before. At most so many calls may have changed it, and they were handed at most so many bytes,
-- also where one of them failed. The count of faults never falls: it rose where `fault` is so, which
-- says that the answer was the disk's fault, and else it stays.
pub record Spends {D : Type 0} (on : Ghosts D) (calls bytes : ℕ) (old new : D) (fault : Type 0)
    : Type 0 where
  pub told : on.tells new → on.tells old
  pub later : on.moment old ≤ on.moment new
  pub within : on.moment new ≤ on.moment old + calls
  pub total_later : on.total old ≤ on.total new
  pub total_within : on.total new ≤ on.total old + bytes
  pub count : on.count old ≤ on.count new
  pub cause : fault → Rose (on.count old) (on.count new)
  pub quiet : (fault → ⊥) → on.count new ≡ on.count old
