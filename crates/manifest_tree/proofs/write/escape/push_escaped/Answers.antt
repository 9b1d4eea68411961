use Rattle.std.proofs.Common.{◌++◌}
use Rattle.manifest_tree.specs.WrittenText.{escape, escaped}
use Rattle.manifest_tree.proofs.Pushes.{push_item, push_end}
use Rattle.manifest_tree.proofs.write.escape.push_escaped.Goals as goal

pub loop-byte-preserved : goal.loop-byte-preserved
loop-byte-preserved c =
    push_item escape c.args.bytes.now c.loop-byte.byte-index 0 c.loop-byte.out c.push_escape.new.out (c.args.out.now ++ escaped c.args.bytes.now) c.loop-byte-test.true
    c.in_ok-push_escape.ensures c.loop-byte.invariant

pub returns : goal.returns
returns c = push_end escape c.args.bytes.now c.loop-byte.byte-index c.loop-byte.out (c.args.out.now ++ escaped c.args.bytes.now) c.loop-byte-test.false c.loop-byte.invariant
