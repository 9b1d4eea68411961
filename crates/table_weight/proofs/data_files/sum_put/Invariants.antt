use Rattle.std.proofs.Common.{◌≡◌, ◌≤◌, ◌+◌, ◌-◌, ◌^◌, min, sum_by, drop, ◌==◌, if◌then◌else◌}
use Rattle.machine.specs.BareViews.{with_bare_data}
use Rattle.machine.specs.Weight.{view_weight}
use Rattle.store_state.specs.declared.view.View.{View}
use Rattle.store_state.specs.Tables.{bare_row}
use Rattle.table_weight.proofs.data_files.sum_put.Given as goal

abbrev pub invariant-loop-view : goal.invariant-loop-view
invariant-loop-view l =
    let weigh = λ (view : View). view_weight (if view.number == l.number
    then with_bare_data (record { name = l.name; length = l.length }) (bare_row view)
    else bare_row view) in
    record {
      sum : min (l.total + sum_by weigh (drop l.view-index l.views)) (2 ^ 64 - 1)
          ≡ min (sum_by weigh l.views) (2 ^ 64 - 1);
      fits : l.total ≤ 2 ^ 64 - 1;
    }
