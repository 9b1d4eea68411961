use Rattle.std.proofs.Common.{◌≡◌, ◌<◌, Bool, true, false, List, length, get_or, refl, sym, ◌∙◌, ap, subst, arith, All}
use Rattle.std.proofs.lemmas.List.{length-set}
use Rattle.small_types.specs.Blocks.{AreApart}
use Rattle.file_store.proofs.Judged.{judged_apart, judged_below, judged_more}
use Rattle.file_store.proofs.MarkedBlocks.{marked_more, only_more}
use Rattle.file_store.proofs.marks.are_apart.Goals as goal

pub loop-block-preserved : goal.loop-block-preserved
loop-block-preserved c =
    let listed = c.as_slice-listed.result.now in
    let i = c.loop-block.block-index in
    let marks = c.loop-block.marks.items in
    let first = c.if-not-mark_once.ensures.first.0 refl in
    let fits : get_or c.as_slice-listed.result.now c.loop-block.block-index 0 < length c.loop-block.marks.items = first.0 in
    let marked = c.if-not-mark_once.ensures.marked in
    record {
      count = ap length marked ∙ length-set marks (get_or listed i 0) true ∙ c.loop-block.invariant.count;
      marked = λ k low. subst (λ (m : List Bool). get_or m (get_or listed k 0) false ≡ true) (sym marked) (marked_more marks listed i c.loop-block-test.true fits c.loop-block.invariant.marked k low);
      only = λ b is. only_more marks listed i c.loop-block-test.true c.loop-block.invariant.only b (subst (λ (m : List Bool). get_or m b false ≡ true) marked is);
      judged = judged_more listed marks c.args.blocks i (omega (arith, fits, c.loop-block.invariant.count)) first.1 c.loop-block.invariant.marked c.loop-block.invariant.judged;
    }

pub returns : goal.returns
returns c = (
  λ _. (
    subst (All (λ block. block < c.args.blocks)) c.as_slice-listed.ensures
        (judged_below c.as_slice-listed.result.now c.args.blocks c.loop-block.block-index c.loop-block-test.false c.loop-block.invariant.judged),
    subst AreApart c.as_slice-listed.ensures (judged_apart c.as_slice-listed.result.now c.args.blocks c.loop-block.block-index c.loop-block-test.false c.loop-block.invariant.judged),
  ),
  λ _. refl,
)
