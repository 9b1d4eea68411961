use Rattle.std.proofs.Common.{◌≡◌, ◌≤◌, ◌+◌, ◌-◌, ◌++◌, length, drop}
use Rattle.std.specs.List.{flat_map}
use Rattle.disks.specs.Moments.{Untouched}
use Rattle.journal.specs.Layout.{entry_of, AreSmall, part_at}
use Rattle.journal.specs.Steps.{AreFirstOf}
use Rattle.journal.proofs.read.read_changes.Given as goal

abbrev pub invariant-entries : goal.invariant-entries
invariant-entries g l = record {
  first : g.D.Disk.tells l.disk → AreFirstOf l.initial.bytes.items (part_at l.place l.half (g.D.Disk.seen l.initial.disk)) → AreFirstOf l.bytes.items (part_at l.place l.half (g.D.Disk.seen l.initial.disk));
  read : g.D.Disk.tells l.disk → AreFirstOf l.initial.bytes.items (part_at l.place l.half (g.D.Disk.seen l.initial.disk))
      → (drop l.from (part_at l.place l.half (g.D.Disk.seen l.initial.disk)) ≡ flat_map entry_of l.changes ++ drop l.gate (part_at l.place l.half (g.D.Disk.seen l.initial.disk)))
      × (l.gate ≡ l.from + length (flat_map entry_of l.changes)) × AreSmall l.changes;
  later : l.from ≤ l.gate;
  within : l.gate ≤ length l.bytes.items;
  limited : length l.bytes.items ≤ l.half;
  still : Untouched g.D.Disk l.initial.disk l.disk;
  told : g.D.Disk.tells l.disk → g.D.Disk.tells l.initial.disk;
  moment : g.D.Disk.moment l.disk ≡ g.D.Disk.moment l.initial.disk;
  total : g.D.Disk.total l.disk ≡ g.D.Disk.total l.initial.disk;
  count : g.D.Disk.count l.disk ≡ g.D.Disk.count l.initial.disk;
}

abbrev pub decreases-entries : goal.decreases-entries
decreases-entries g l = l.half - l.gate
