use Rattle.std.proofs.Common.{arith}
use Rattle.table_weight.proofs.MovedData.{moved_weigh}
use Rattle.table_weight.proofs.moves.weigh_migrated.Goals as goal

pub returns : goal.returns
returns c =
    let moved = moved_weigh c.args.old.now c.args.old_files.now c.args.new_files.now
    c.in_ok-before.before c.in_ok-after.after c.in_ok-before.ensures c.in_ok-after.ensures
    c.in_ok-kept.kept c.in_ok-kept.ensures in
    omega (
      arith,
      moved,
      c.sum_carried-carried.ensures,
      c.sum_fresh.ensures,
      c.saturating_add.ensures,
    )
