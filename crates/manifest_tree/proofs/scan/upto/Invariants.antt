use Rattle.std.proofs.Common.{◌≡◌, ◌≤◌, length}
use Rattle.manifest_tree.specs.Lexis.{upto}
use Rattle.manifest_tree.proofs.scan.upto.Given as goal

abbrev pub invariant-loop-first : goal.invariant-loop-first
invariant-loop-first l = (upto l.mark l.rest ≡ upto l.mark l.bytes) × (length l.rest ≤ length l.bytes)

abbrev pub decreases-loop-first : goal.decreases-loop-first
decreases-loop-first l = length l.rest
