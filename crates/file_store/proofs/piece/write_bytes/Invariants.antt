use Rattle.std.proofs.Common.{◌≡◌, ◌-◌, ◌<◌, ◌≤◌, ◌+◌, ◌/◌, length, take}
use Rattle.file_store.specs.Writes.{AddsPiece, WritesOnly}
use Rattle.file_store.specs.Stretches.{AreNeighbours}
use Rattle.file_store.proofs.WriteCalls.{Calls, Goes}
use Rattle.file_store.proofs.piece.write_bytes.Given as goal

abbrev pub invariant-loop-done : goal.invariant-loop-done
invariant-loop-done g l = record {
  within : l.done ≤ length l.bytes;
  only : WritesOnly g.D.Disk l.base l.blocks l.initial.disk l.disk;
  added : AddsPiece g.D.Disk l.base l.blocks l.from (take l.done l.bytes) l.initial.disk l.disk;
  written : g.D.Disk.total l.disk ≡ g.D.Disk.total l.initial.disk + l.done;
  goes : Goes g.D.Disk l.initial.disk l.disk;
  counted : Calls l.from l.done (length l.bytes) (g.D.Disk.moment l.initial.disk) (g.D.Disk.moment l.disk);
  some : 0 < l.done → g.D.Disk.moment l.initial.disk + 1 ≤ g.D.Disk.moment l.disk;
  calls : AreNeighbours l.blocks (l.from / 4096) ((l.from + length l.bytes - 1) / 4096) → 0 < l.done
      → (l.done ≡ length l.bytes) × (g.D.Disk.moment l.disk ≤ g.D.Disk.moment l.initial.disk + 1);
}

abbrev pub decreases-loop-done : goal.decreases-loop-done
decreases-loop-done g l = length l.bytes - l.done
