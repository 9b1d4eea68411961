use Rattle.publish_plan.proofs.IndexLemmas.{Indexing}
use Rattle.publish_plan.proofs.marked.index.Given as goal

abbrev pub invariant-loop-name : goal.invariant-loop-name
invariant-loop-name l = Indexing l.front l.names l.table l.name-index
