use Rattle.cleaner.proofs.NamedViews.{one_free, one_used}
use Rattle.cleaner.proofs.unused_views.unused_among.Goals as goal
use Rattle.cleaner.proofs.unused_views.unused_among.Goals.{then-not-is_among+in_ok-push, else-not-is_among}

pub loop-view-preserved : goal.loop-view-preserved
loop-view-preserved c = elim c.if-not-is_among.branch [
  | then-not-is_among+in_ok-push w ↦ rw w.found-is
      (one_free c.args.used.now c.args.views.now c.loop-view.view-index c.view-item.result
      c.view-item.is c.loop-view-test.true c.is_among.result c.loop-view.found.items
      w.push.new.self.items _ c.is_among.ensures w.if-not-is_among.true w.in_ok-push.ensures.items
      c.loop-view.invariant)
  | else-not-is_among w ↦ rw w.found-is
      (one_used c.args.used.now c.args.views.now c.loop-view.view-index c.view-item.result
      c.view-item.is c.loop-view-test.true c.is_among.result c.loop-view.found.items _
      c.is_among.ensures w.if-not-is_among.false c.loop-view.invariant)
]
