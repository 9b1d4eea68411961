use Rattle.std.proofs.Common.{◌≡◌, ◌≤◌, length, drop}
use Rattle.manifest_tree.specs.Lexis.{expect}
use Rattle.manifest_tree.proofs.scan.expect.Given as goal

abbrev pub invariant-loop-want : goal.invariant-loop-want
invariant-loop-want l = (expect (drop l.want-index l.mark) l.rest ≡ expect l.mark l.bytes) × (length l.rest ≤ length l.bytes)
