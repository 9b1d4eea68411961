use Rattle.std.proofs.Common.{◌≤◌, length}
use Rattle.manifest_tree.specs.Spots.{Reads, before}
use Rattle.manifest_tree.proofs.reader.root_at.Given as goal

abbrev pub invariant-loop-first : goal.invariant-loop-first
invariant-loop-first l = record { reads : Reads before l.bytes before l.rest; shorter : length l.rest ≤ length l.bytes }

abbrev pub decreases-loop-first : goal.decreases-loop-first
decreases-loop-first l = length l.rest
