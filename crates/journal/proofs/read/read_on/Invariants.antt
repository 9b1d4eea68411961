use Rattle.std.proofs.Common.{◌≡◌, ◌≤◌, ◌-◌, ◌^◌, length, vec_len}
use Rattle.disks.specs.Moments.{Untouched}
use Rattle.journal.specs.Layout.{part_at}
use Rattle.journal.specs.Steps.{AreFirstOf}
use Rattle.journal.proofs.read.read_on.Given as goal

abbrev pub invariant-loop-bytes : goal.invariant-loop-bytes
invariant-loop-bytes g l = record {
  bytes : g.D.Disk.tells l.disk → AreFirstOf l.initial.bytes.items (part_at l.place l.limit (g.D.Disk.seen l.initial.disk)) → AreFirstOf l.bytes.items (part_at l.place l.limit (g.D.Disk.seen l.initial.disk));
  longer : length l.initial.bytes.items ≤ length l.bytes.items;
  limited : length l.bytes.items ≤ l.limit;
  still : Untouched g.D.Disk l.initial.disk l.disk;
  told : g.D.Disk.tells l.disk → g.D.Disk.tells l.initial.disk;
  moment : g.D.Disk.moment l.disk ≡ g.D.Disk.moment l.initial.disk;
  total : g.D.Disk.total l.disk ≡ g.D.Disk.total l.initial.disk;
  count : g.D.Disk.count l.disk ≡ g.D.Disk.count l.initial.disk;
}

abbrev pub decreases-loop-bytes : goal.decreases-loop-bytes
decreases-loop-bytes g l = 2 ^ 64 - vec_len l.bytes
