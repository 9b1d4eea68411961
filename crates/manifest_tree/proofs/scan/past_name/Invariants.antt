use Rattle.std.proofs.Common.{◌≡◌, ◌≤◌, length}
use Rattle.manifest_tree.specs.Lexis.{name_byte, past}
use Rattle.manifest_tree.proofs.scan.past_name.Given as goal

abbrev pub invariant-loop-first : goal.invariant-loop-first
invariant-loop-first l = (past name_byte l.rest ≡ past name_byte l.bytes) × (length l.rest ≤ length l.bytes)

abbrev pub decreases-loop-first : goal.decreases-loop-first
decreases-loop-first l = length l.rest
