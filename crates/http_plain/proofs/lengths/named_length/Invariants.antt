use Rattle.std.proofs.Common.{◌≡◌, ◌≤◌, length, drop, codes}
use Rattle.http_plain.specs.Fields.{values_at}
use Rattle.http_plain.specs.Exchange.{named_by}
use Rattle.http_plain.proofs.lengths.named_length.Given as goal

abbrev pub decreases-loop-left : goal.decreases-loop-left
decreases-loop-left l = l.left

abbrev pub invariant-loop-left : goal.invariant-loop-left
invariant-loop-left l =
    (l.left ≤ length l.headers) × (l.named ≡ named_by (values_at l.bytes (drop l.left l.headers) (codes "content-length")))
