-- What a session has of its devices, and what it asks of them.
use Rattle.std.specs.Prelude.{◌≡◌, ℕ, ◌≤◌}
use Rattle.outside.specs.Streams.{Rose}
use Rattle.disks.specs.declared.disk.Disk.{Ghosts}

-- the devices of a session
pub record Devices (S K D L : Type 0) : Type 0 where
  pub source : S
  pub sink : K
  pub disk : D
  pub links : L

abbrev pub devices_of : {S K D L : Type 0} → S → K → D → L → Devices S K D L
devices_of source sink disk links =
    record { source = source; sink = sink; disk = disk; links = links }

-- a count of faults rises with that fault, and with nothing else
pub record RisesWith (fault : Type 0) (old new : ℕ) : Type 0 where
  pub later : old ≤ new
  pub rose : fault → Rose old new
  pub quiet : (fault → ⊥) → new ≡ old

-- what is asked of a disk: what it tells afterwards it told before, its moment goes on, and its
-- count rises with that fault and with nothing else
pub record Asks {D : Type 0} (on : Ghosts D) (fault : Type 0) (old new : D) : Type 0 where
  pub told : on.tells new → on.tells old
  pub later : on.moment old ≤ on.moment new
  pub count : RisesWith fault (on.count old) (on.count new)
