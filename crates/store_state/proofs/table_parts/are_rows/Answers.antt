use Rattle.std.proofs.Common.{arith, refl}
use Rattle.store_state.specs.Change.{IsRow}
use Rattle.store_state.proofs.TestLoops.{all_ended, all_more, all_refuted}
use Rattle.store_state.proofs.table_parts.are_rows.Goals as goal

pub returns-then-not-is_one : goal.returns-then-not-is_one
returns-then-not-is_one c = (
  λ no. absurd cc,
  λ all. absurd
      (all_refuted IsRow c.args.views.now c.loop-view.view-index c.view-item.result c.view-item.is
      c.loop-view-test.true (λ row. absurd (grind (arith, c.in_ok-is_one.ensures.1 row))) all),
)

pub loop-view-preserved : goal.loop-view-preserved
loop-view-preserved c =
    all_more IsRow c.args.views.now c.loop-view.view-index c.view-item.result c.view-item.is
    c.loop-view-test.true (c.in_ok-is_one.ensures.0 c.if-not-is_one.false) c.loop-view.invariant

pub returns : goal.returns
returns c = (
  λ ended. all_ended IsRow c.args.views.now c.loop-view.view-index c.loop-view-test.false
      c.loop-view.invariant,
  λ all. refl,
)
