use Rattle.publish_plan.specs.Places.{all_behind}
use Rattle.publish_plan.proofs.MarkLemmas.{marking_more}
use Rattle.publish_plan.proofs.marked.Marked.new.Goals as goal

pub loop-mark-preserved : goal.loop-mark-preserved
loop-mark-preserved c =
    marking_more (all_behind c.args.front.now c.args.names.now) c.args.marks.now c.loop-mark.table c.add_mark.new.table c.loop-mark.bad c.in_ok-bad.bad c.loop-mark.mark-index c.mark-item.result c.in_ok-is_good.is_good
    c.loop-mark-test.true c.mark-item.is c.loop-mark.invariant c.in_ok-is_good.ensures.added c.in_ok-is_good.ensures.good c.in_ok-bad.ensures.made
