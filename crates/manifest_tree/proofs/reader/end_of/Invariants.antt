use Rattle.std.proofs.Common.{length}
use Rattle.manifest_tree.specs.Spots.{Reads, behind}
use Rattle.manifest_tree.specs.Tree.{Tree}
use Rattle.manifest_tree.proofs.reader.end_of.Given as goal

abbrev pub invariant-loop-first : goal.invariant-loop-first
invariant-loop-first l = (t : Tree) → Reads (behind t) l.bytes (behind t) l.rest

abbrev pub decreases-loop-first : goal.decreases-loop-first
decreases-loop-first l = length l.rest
