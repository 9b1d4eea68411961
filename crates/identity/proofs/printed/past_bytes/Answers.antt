use Rattle.identity.proofs.PrintedLemmas.{carries_byte, ends_byte}
use Rattle.identity.proofs.printed.past_bytes.Goals as goal

pub returns-in-Err : goal.returns-in-Err
returns-in-Err c =
    ends_byte c.args.bytes.now c.args.text.now c.args.bytes.now c.loop-byte.rest.now c.loop-byte.byte-index c.in-Err.order c.loop-byte-test.true c.loop-byte.invariant c.in-Err.ensures

pub loop-byte-preserved : goal.loop-byte-preserved
loop-byte-preserved c =
    carries_byte c.args.bytes.now c.args.text.now c.args.bytes.now c.loop-byte.rest.now c.in-Ok.after.now c.loop-byte.byte-index c.loop-byte-test.true c.loop-byte.invariant c.in-Ok.ensures
