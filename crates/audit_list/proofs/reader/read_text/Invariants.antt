use Rattle.std.proofs.Common.{◌-◌, length}
use Rattle.audit_list.proofs.RefusedLines.{IsFront}
use Rattle.audit_list.proofs.reader.read_text.Given as goal

abbrev pub invariant-loop-alloc : goal.invariant-loop-alloc
invariant-loop-alloc l = IsFront l.fn.bytes l.count l.lines.items l.rest

abbrev pub decreases-loop-alloc : goal.decreases-loop-alloc
decreases-loop-alloc l = l.count - length l.lines.items
