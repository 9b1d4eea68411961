use Rattle.machine.specs.BareViews.{with_bare_data}
use Rattle.store_state.specs.Tables.{bare_row}
use Rattle.table_weight.proofs.Changed.{as_row, where_other, where_same}
use Rattle.table_weight.proofs.data_files.weigh_where_put.Goals as goal

pub returns-then-view-number : goal.returns-then-view-number
returns-then-view-number c =
    where_same c.args.view.now.number c.args.number
    (with_bare_data (record { name = c.args.name.now; length = c.args.length })
    (bare_row c.args.view.now))
    (bare_row c.args.view.now) c.weigh_put.result 18446744073709551615 c.if-view-number.true
    c.weigh_put.ensures

pub returns : goal.returns
returns c =
    where_other c.args.view.now.number c.args.number
    (with_bare_data (record { name = c.args.name.now; length = c.args.length })
    (bare_row c.args.view.now))
    (bare_row c.args.view.now) c.weigh.result 18446744073709551615 c.if-view-number.false
    (as_row c.args.view.now c.weigh.result 18446744073709551615 c.weigh.ensures)
