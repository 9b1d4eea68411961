use Rattle.std.proofs.Common.{◌≡◌, ◌≤◌, length}
use Rattle.manifest_tree.specs.Lexis.{past}
use Rattle.manifest_tree.specs.Pieces.{itself}
use Rattle.manifest_tree.proofs.units.past_run.Given as goal

abbrev pub invariant-loop-first : goal.invariant-loop-first
invariant-loop-first l = (past (itself l.until) l.rest ≡ past (itself l.until) l.bytes) × (length l.rest ≤ length l.bytes)

abbrev pub decreases-loop-first : goal.decreases-loop-first
decreases-loop-first l = length l.rest
