use Rattle.std.proofs.Common.{◌≡◌, ◌-◌, ◌≤◌, ℕ, List, length, take}
use Rattle.disks.specs.Moments.{Untouched}
use Rattle.disks.specs.Spends.{Spends}
use Rattle.file_store.specs.Stores.{store_base}
use Rattle.small_types.specs.Blocks.{IsContent}
use Rattle.block_files.proofs.sameness.are_bytes.Given as goal

abbrev pub invariant-loop-done : goal.invariant-loop-done
invariant-loop-done g l = record {
  within : l.done ≤ length l.bytes;
  still : Untouched g.D.Disk l.initial.disk l.disk;
  spends : Spends g.D.Disk 0 0 l.initial.disk l.disk ⊥;
  same : g.D.Disk.tells l.disk → (content : List ℕ) → length content ≡ length l.bytes
      → IsContent (store_base l.files) l.blocks content (g.D.Disk.seen l.initial.disk)
      → take l.done content ≡ take l.done l.bytes;
}

abbrev pub decreases-loop-done : goal.decreases-loop-done
decreases-loop-done g l = length l.bytes - l.done
