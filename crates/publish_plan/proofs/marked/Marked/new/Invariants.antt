use Rattle.publish_plan.specs.Places.{all_behind}
use Rattle.publish_plan.proofs.MarkLemmas.{Marking}
use Rattle.publish_plan.proofs.marked.Marked.new.Given as goal

abbrev pub invariant-loop-mark : goal.invariant-loop-mark
invariant-loop-mark l = Marking (all_behind l.front l.names) l.marks l.table l.bad l.mark-index
