use Rattle.std.proofs.Common.{arith}
use Rattle.data_migration.specs.Tables.{stays_by}
use Rattle.table_weight.proofs.MovedData.{aside_weighs, below_weighs, staying_weighs}
use Rattle.table_weight.proofs.moves.weigh_carried.Goals as goal

pub returns-then-is_below : goal.returns-then-is_below
returns-then-is_below c =
    let weigh = below_weighs (stays_by c.args.before.now c.args.after.now) c.args.file.now
    c.is_below.result c.is_below.ensures c.if-is_below.true in
    omega (arith, weigh)

pub returns-then-stays : goal.returns-then-stays
returns-then-stays c =
    let weigh = staying_weighs (stays_by c.args.before.now c.args.after.now) c.args.file.now
    c.is_below.result c.is_below.ensures c.stays.result c.stays.ensures c.if-is_below.false
    c.if-stays.true in
    omega (arith, weigh, c.weigh_data-own.ensures)

pub returns : goal.returns
returns c =
    let weigh = aside_weighs (stays_by c.args.before.now c.args.after.now) c.args.file.now
    c.is_below.result c.is_below.ensures c.stays.result c.stays.ensures c.if-is_below.false
    c.if-stays.false in
    omega (arith, weigh, c.weigh_data-own.ensures, c.saturating_add.ensures)
