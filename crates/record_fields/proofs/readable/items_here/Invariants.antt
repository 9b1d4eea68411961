use Rattle.record_fields.proofs.Items.{IsLeft}
use Rattle.record_fields.proofs.readable.items_here.Given as goal

abbrev pub invariant-loop-left : goal.invariant-loop-left
invariant-loop-left g l = IsLeft g.T.Readable.at l.bytes l.place l.count l.items.items l.next l.left

abbrev pub decreases-loop-left : goal.decreases-loop-left
decreases-loop-left g l = l.left
