use Rattle.std.proofs.Common.{◌≡◌, ◌≤◌, ◌+◌, ◌-◌, ◌^◌, min, sum_by, drop}
use Rattle.table_weight.proofs.weighs.sum_weights.Given as goal

abbrev pub invariant-loop-item : goal.invariant-loop-item
invariant-loop-item g l = record {
  sum : min (l.total + sum_by g.T.Weighs.weight (drop l.item-index l.items)) (2 ^ 64 - 1)
      ≡ min (sum_by g.T.Weighs.weight l.items) (2 ^ 64 - 1);
  fits : l.total ≤ 2 ^ 64 - 1;
}
