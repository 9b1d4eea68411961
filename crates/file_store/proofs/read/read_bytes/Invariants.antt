use Rattle.std.proofs.Common.{◌≡◌, ◌-◌, ◌<◌, ◌≤◌, ◌+◌, ℕ, List, length, get_or}
use Rattle.disks.specs.Moments.{Untouched}
use Rattle.disks.specs.Spends.{Spends}
use Rattle.small_types.specs.Blocks.{IsContent}
use Rattle.file_store.proofs.read.read_bytes.Given as goal

abbrev pub invariant-loop-done : goal.invariant-loop-done
invariant-loop-done g l = record {
  within : l.done ≤ length l.buf;
  still : Untouched g.D.Disk l.initial.disk l.disk;
  spends : Spends g.D.Disk 0 0 l.initial.disk l.disk ⊥;
  bytes : g.D.Disk.tells l.disk → (content : List ℕ) → l.from + length l.buf ≤ length content
      → IsContent l.base l.blocks content (g.D.Disk.seen l.initial.disk)
      → (k : ℕ) → k < l.done → get_or l.buf k 0 ≡ get_or content (l.from + k) 0;
}

abbrev pub decreases-loop-done : goal.decreases-loop-done
decreases-loop-done g l = length l.buf - l.done
