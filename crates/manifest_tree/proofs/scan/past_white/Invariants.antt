use Rattle.std.proofs.Common.{◌≡◌, ◌≤◌, length}
use Rattle.manifest_tree.specs.Lexis.{white, past}
use Rattle.manifest_tree.proofs.scan.past_white.Given as goal

abbrev pub invariant-loop-first : goal.invariant-loop-first
invariant-loop-first l = (past white l.rest ≡ past white l.bytes) × (length l.rest ≤ length l.bytes)

abbrev pub decreases-loop-first : goal.decreases-loop-first
decreases-loop-first l = length l.rest
