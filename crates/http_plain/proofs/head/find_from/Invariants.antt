use Rattle.std.proofs.Common.{◌≡◌, drop}
use Rattle.http_plain.specs.Head.{head_end}
use Rattle.http_plain.proofs.Ends.{later}
use Rattle.http_plain.proofs.head.find_from.Given as goal

abbrev pub invariant-loop-place : goal.invariant-loop-place
invariant-loop-place l = head_end l.text ≡ later l.place (head_end (drop l.place l.text))
