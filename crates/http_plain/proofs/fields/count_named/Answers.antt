use Rattle.std.proofs.Common.{arith}
use Rattle.http_plain.proofs.Values.{count_step, count_done, one_most}
use Rattle.http_plain.proofs.fields.count_named.Goals as goal

pub loop-header-preserved : goal.loop-header-preserved
loop-header-preserved c =
    let most = one_most _ _ c.count_one-count.ensures in (
      count_step c.args.bytes.now c.args.headers.now c.args.name.now c.loop-header.header-index _ c.loop-header.count _ _ c.loop-header-test.true
          c.count_one-count.ensures c.loop-header.invariant.0,
      omega (arith, most, c.loop-header.invariant.1),
    )

pub returns-clause-count : goal.returns-clause-count
returns-clause-count c =
    count_done c.args.bytes.now c.args.headers.now c.args.name.now c.loop-header.header-index c.loop-header.count _ c.loop-header-test.false c.loop-header.invariant.0
