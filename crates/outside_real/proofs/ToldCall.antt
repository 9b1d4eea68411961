-- A call of the file, by what it made of what was told.
use Rattle.std.proofs.Common.{◌≡◌, ◌+◌, ℕ, List, true}
use Rattle.std.specs.Prelude.{Result, IsErr, OnErr, min}
use Rattle.outside.specs.Streams.{Causes}
use Rattle.disks.specs.declared.answer.Answer.{Answer}
use Rattle.disks.specs.declared.start.Start.{Ghosts}
use Rattle.disks.proofs.NextAnswer.{still}
use Rattle.outside_real.specs.declared.file_disk.FileDisk.{FileDisk}
use Rattle.outside_real.specs.FileDisk.{IsCall, disk_answers, disk_calls, disk_faults, is_lost}
use Rattle.outside_real.proofs.DiskTells.{Passes, Quiet}

pub quiet_passes : {first : List ℕ} {left : List ℕ → Type 0} {now : ℕ} {old new : List Answer} → Quiet old new → Passes first left now old new
quiet_passes {first = first} {left = left} {now = now} {old = old} {new = new} quiet = record {
  time = still first left old new now quiet.same;
  told = quiet.told first;
}

pub called : {R S Dir T E : Type 0} (start : Ghosts S) {old new : FileDisk R S Dir} {result : Result T E} → Passes start.first start.left (disk_calls old) (disk_answers old) (disk_answers new)
    → Causes (disk_faults old) (disk_faults new) result → OnErr result (disk_faults new ≡ min (disk_faults old + 1) 0xffff_ffff_ffff_ffff) → (is_lost old ≡ true → IsErr result)
    → IsCall start old new result
called start passes cause raised stays = record { time = passes.time; told = passes.told; cause = cause; raised = raised; stays = stays }
