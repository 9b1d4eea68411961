use Rattle.std.proofs.Common.{arith}
use Rattle.data_migration.specs.Tables.{stays_by}
use Rattle.table_weight.specs.Releases.{carried_weight}
use Rattle.table_weight.proofs.Cuts.{cut_step}
use Rattle.table_weight.proofs.moves.sum_carried.Goals as goal

pub loop-file-preserved : goal.loop-file-preserved
loop-file-preserved c = record {
  sum = cut_step (carried_weight (stays_by c.args.before.now c.args.after.now)) c.args.old.now
      c.loop-file.file-index c.file-item.result c.loop-file.total c.weigh_carried.result
      c.saturating_add-total.result _ 18446744073709551615 c.file-item.is
      c.loop-file-test.true c.weigh_carried.ensures c.saturating_add-total.ensures
      c.loop-file.invariant.sum;
  fits = omega (arith, c.saturating_add-total.ensures);
}
