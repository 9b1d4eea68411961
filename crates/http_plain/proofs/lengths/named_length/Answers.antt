use Rattle.std.proofs.Common.{arith, codes}
use Rattle.http_plain.proofs.Values.{named_step, named_first}
use Rattle.http_plain.proofs.lengths.named_length.Goals as goal

pub loop-left-init : goal.loop-left-init
loop-left-init c = (omega arith, named_first c.args.bytes.now c.args.headers.now (codes "content-length"))

pub loop-left-preserved : goal.loop-left-preserved
loop-left-preserved c = (
  omega arith,
  named_step c.args.bytes.now c.args.headers.now (codes "content-length") c.loop-left.left _ _ c.loop-left.named c.loop-left-test.true
      c.loop-left.invariant.0 c.join_field-named.ensures c.loop-left.invariant.1,
)
