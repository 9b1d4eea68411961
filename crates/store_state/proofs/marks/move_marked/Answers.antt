use Rattle.std.proofs.Common.{◌∙◌, ◌+◌, ap, arith, length, sym}
use Rattle.store_state.proofs.MarkedItems.{all_moved, moved_and_left, one_moved, one_passed, still_long}
use Rattle.store_state.proofs.marks.move_marked.Goals as goal
use Rattle.store_state.proofs.marks.move_marked.Goals.{then-marks-place, else-marks-place}

pub loop-place-preserved : goal.loop-place-preserved
loop-place-preserved g c = elim c.if-marks-place.branch [
  | then-marks-place w ↦ rw (w.items-is, w.kept-is) (record {
    moved =
        ap (moved_and_left c.args.marks.now (c.loop-place.kept + 1) (c.loop-place.place + 1))
        w.swap.ensures.items
        ∙ one_moved c.args.marks.now c.loop-place.items.items c.loop-place.kept c.loop-place.place
        c.loop-place.invariant.behind c.loop-place-test.true c.loop-place.invariant.long
        w.if-marks-place.true
        ∙ c.loop-place.invariant.moved;
    behind = omega (arith, c.loop-place.invariant.behind);
    long =
        still_long c.args.marks.now c.loop-place.items.items c.loop-place.kept c.loop-place.place
        c.loop-place.invariant.behind c.loop-place-test.true c.loop-place.invariant.long
        ∙ sym (ap length w.swap.ensures.items);
  })
  | else-marks-place w ↦ rw (w.items-is, w.kept-is) (record {
    moved =
        one_passed c.args.marks.now c.loop-place.items.items c.loop-place.kept c.loop-place.place
        c.loop-place.invariant.behind c.loop-place-test.true c.loop-place.invariant.long
        w.if-marks-place.false
        ∙ c.loop-place.invariant.moved;
    behind = omega (arith, c.loop-place.invariant.behind);
    long = c.loop-place.invariant.long;
  })
]

pub returns : goal.returns
returns g c =
    sym (all_moved c.args.marks.now c.loop-place.items.items c.loop-place.kept c.loop-place.place
    c.loop-place-test.false)
    ∙ c.loop-place.invariant.moved
