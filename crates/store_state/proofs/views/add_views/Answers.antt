use Rattle.std.proofs.Common.{arith}
use Rattle.machine.specs.Blocks.{blocks_of}
use Rattle.store_state.specs.declared.view.LocalFile.{LocalFile}
use Rattle.store_state.specs.declared.view.View.{View}
use Rattle.store_state.proofs.Sums.{cut_more}
use Rattle.store_state.proofs.views.add_views.Goals as goal

pub loop-view-preserved : goal.loop-view-preserved
loop-view-preserved c = record {
  sum = cut_more (λ (file : LocalFile). blocks_of file.length) (λ (view : View). view.locals) c.args.views.now c.loop-view.view-index c.view-item.result c.as_slice.result.now _ _ _ _ c.as_slice.ensures c.view-item.is c.loop-view-test.true c.add_blocks-total.ensures c.loop-view.invariant.sum;
  fits = omega (arith, c.add_blocks-total.ensures);
}
