use Rattle.http_plain.proofs.Values.{all_step, all_stop, all_done}
use Rattle.http_plain.proofs.fields.all_are.Goals as goal

pub returns-then-differs : goal.returns-then-differs
returns-then-differs c =
    all_stop c.args.bytes.now c.args.headers.now c.args.name.now c.args.value.now c.loop-header.header-index _ _ _ c.loop-header-test.true
    c.differs.ensures c.if-differs.true c.loop-header.invariant

pub loop-header-preserved : goal.loop-header-preserved
loop-header-preserved c =
    all_step c.args.bytes.now c.args.headers.now c.args.name.now c.args.value.now c.loop-header.header-index _ _ _ c.loop-header-test.true
    c.differs.ensures c.if-differs.false c.loop-header.invariant

pub returns : goal.returns
returns c =
    all_done c.args.bytes.now c.args.headers.now c.args.name.now c.args.value.now c.loop-header.header-index _ c.loop-header-test.false c.loop-header.invariant
