use Rattle.install_plan.proofs.Planned.{copied_few, copied_sum}
use Rattle.install_plan.proofs.local_plans.copied_in.Goals as goal

pub loop-file-preserved : goal.loop-file-preserved
loop-file-preserved c =
    let files = c.args.files.now in
    let file = c.file-item.result in
    record {
      sum = copied_sum files c.loop-file.file-index file c.loop-file.sum c.copied_blocks_of-sum.result
          c.loop-file-test.true c.file-item.is c.copied_blocks_of-sum.ensures.value c.loop-file.invariant.sum;
      few = copied_few files c.loop-file.file-index file c.loop-file.sum c.copied_blocks_of-sum.result
          c.loop-file-test.true c.file-item.is c.copied_blocks_of-sum.ensures.few c.loop-file.invariant.few;
    }
