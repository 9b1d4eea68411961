use Rattle.std.proofs.Common.{◌≡◌, ◌≤◌, ◌+◌, ◌-◌, ◌^◌, min, sum_by, drop}
use Rattle.data_migration.specs.Tables.{is_missing}
use Rattle.table_weight.specs.Releases.{fresh_weight}
use Rattle.table_weight.proofs.moves.sum_fresh.Given as goal

abbrev pub invariant-loop-entry : goal.invariant-loop-entry
invariant-loop-entry l =
    let weigh = fresh_weight (is_missing l.kept) in
    record {
      sum : min (l.total + sum_by weigh (drop l.entry-index l.files)) (2 ^ 64 - 1)
          ≡ min (sum_by weigh l.files) (2 ^ 64 - 1);
      fits : l.total ≤ 2 ^ 64 - 1;
    }
