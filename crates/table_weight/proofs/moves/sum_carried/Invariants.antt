use Rattle.std.proofs.Common.{◌≡◌, ◌≤◌, ◌+◌, ◌-◌, ◌^◌, min, sum_by, drop}
use Rattle.data_migration.specs.Tables.{stays_by}
use Rattle.table_weight.specs.Releases.{carried_weight}
use Rattle.table_weight.proofs.moves.sum_carried.Given as goal

abbrev pub invariant-loop-file : goal.invariant-loop-file
invariant-loop-file l =
    let weigh = carried_weight (stays_by l.before l.after) in
    record {
      sum : min (l.total + sum_by weigh (drop l.file-index l.old)) (2 ^ 64 - 1)
          ≡ min (sum_by weigh l.old) (2 ^ 64 - 1);
      fits : l.total ≤ 2 ^ 64 - 1;
    }
