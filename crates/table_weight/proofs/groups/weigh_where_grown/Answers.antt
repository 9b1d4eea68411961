use Rattle.std.proofs.Common.{arith}
use Rattle.machine.specs.BareViews.{with_bare_group}
use Rattle.store_state.specs.Tables.{bare_row}
use Rattle.table_weight.proofs.Changed.{as_row, grown_weighs, where_other, where_same}
use Rattle.table_weight.proofs.groups.weigh_where_grown.Goals as goal

pub returns-then-view-number : goal.returns-then-view-number
returns-then-view-number c =
    where_same c.args.view.now.number c.args.number
    (with_bare_group c.args.group.now (bare_row c.args.view.now))
    (bare_row c.args.view.now) c.saturating_add.result 18446744073709551615 c.if-view-number.true
    (omega (
      arith,
      grown_weighs c.args.view.now c.args.group.now,
      c.weigh-known.ensures,
      c.weigh.ensures,
      c.saturating_add.ensures,
    ))

pub returns : goal.returns
returns c =
    where_other c.args.view.now.number c.args.number
    (with_bare_group c.args.group.now (bare_row c.args.view.now))
    (bare_row c.args.view.now) c.weigh-known.result 18446744073709551615 c.if-view-number.false
    (as_row c.args.view.now c.weigh-known.result 18446744073709551615 c.weigh-known.ensures)
