use Rattle.std.specs.Prelude.{◌≡◌, ◌+◌, ℕ, min, List, [], ◌∷◌, ◌++◌, Bool, false, Result, OnErr, OnOk, IsTrue}
use Rattle.outside.specs.declared.failed.Failed.{Failed}
use Rattle.outside.specs.FailingCalls.{fails_next}
use Rattle.outside.specs.WantOfMemory.{WorksOrStarves}
use Rattle.disks.specs.History.{first_of}
use Rattle.disks.specs.Moves.{IsImage, MayRecord, RecordsOrStarves, picked_after, until}
use Rattle.disks.specs.Spends.{HasNoNumber}
use Rattle.disks.specs.declared.call.Call.{Call}
use Rattle.disks.specs.declared.call.Move.{Move}
use Rattle.disks.specs.declared.call.Pick.{Pick}
use Rattle.disks.specs.declared.mem_disk.MemDisk.{MemDisk}

abbrev pub disk_bytes : MemDisk → List ℕ
disk_bytes m = m.history.bytes

abbrev pub calls_of : MemDisk → ℕ
calls_of m = m.calls

abbrev pub written_of : MemDisk → ℕ
written_of m = m.written

abbrev pub faults_of : MemDisk → ℕ
faults_of m = m.failing.faults

-- how many calls failed for want of memory
abbrev pub starved_of : MemDisk → ℕ
starved_of m = m.history.starved

-- how many calls there were, those that read among them
abbrev pub turns_of : MemDisk → ℕ
turns_of m = m.failing.calls

-- the numbers of the calls that are to fail
abbrev pub failing_of : MemDisk → List ℕ
failing_of m = m.failing.numbers

-- whether the next call is one of them
abbrev pub disk_fails : MemDisk → Bool
disk_fails m = fails_next m.failing

-- what it noted of its calls that may change it, the first first
abbrev pub noted_of : MemDisk → List Call
noted_of m = m.history.moves.items

-- what a stop at that moment may leave
abbrev pub left_of : MemDisk → ℕ → List ℕ → Type 0
left_of m t c = IsImage (first_of m.history) (first_of m.history) (until t m.history.moves.items) c

-- what a stop at that moment leaves with a pick
abbrev pub picked_of : Pick → MemDisk → ℕ → List ℕ
picked_of pick m t =
    picked_after pick (first_of m.history) (first_of m.history) (until t m.history.moves.items)

-- A call took its turn, and the numbers of those that are to fail stay. The count of faults rises
-- by one where it failed, and stays where it did not.
pub record TakesTurn {T : Type 0} (old new : MemDisk) (result : Result T Failed) : Type 0 where
  pub turns : turns_of new ≡ min (turns_of old + 1) 0xffff_ffff_ffff_ffff
  pub failing : failing_of new ≡ failing_of old
  pub quiet : OnOk result (faults_of new ≡ faults_of old)
  pub raised : OnErr result (faults_of new ≡ min (faults_of old + 1) 0xffff_ffff_ffff_ffff)

-- A call that may have changed the disk is noted behind the earlier ones, with its number. One that
-- failed may be missing: where there was no memory for the note, no number or no place for the call.
-- What the disk began with stays.
pub record IsNoted {T : Type 0} (act : Move) (old new : MemDisk) (result : Result T Failed)
    : Type 0 where
  pub began : first_of new.history ≡ first_of old.history
  pub done : OnOk result
      (noted_of new ≡ noted_of old ++ record { number = calls_of new; act = act } ∷ [])
  pub failed : OnErr result
      (MayRecord (record { number = calls_of new; act = act }) (noted_of old) (noted_of new))

-- How a call ends that may change the disk and hands it n bytes, which `placed` says have a place.
-- Where there is a number for it, it works, or fails where it is to fail, and is then noted as
-- `failed`; else there was no memory for it, which alone is counted as such. One that is not to
-- fail and does not work is not noted.
pub record EndsAs {T : Type 0} (n : ℕ) (placed : Type 0) (failed : Move) (old new : MemDisk)
    (result : Result T Failed) : Type 0 where
  pub works : disk_fails old ≡ false → ¬ HasNoNumber (calls_of old) (written_of old) n → placed
      → WorksOrStarves (starved_of old) (starved_of new) result
  pub listed : IsTrue (disk_fails old) → ¬ HasNoNumber (calls_of old) (written_of old) n → placed
      → RecordsOrStarves (record { number = calls_of new; act = failed }) (noted_of old)
      (noted_of new) (starved_of old) (starved_of new)
  pub unlisted : disk_fails old ≡ false → OnErr result (noted_of new ≡ noted_of old)
  pub unnumbered : HasNoNumber (calls_of old) (written_of old) n → starved_of new ≡ starved_of old
  pub unplaced : ¬ placed → starved_of new ≡ starved_of old
