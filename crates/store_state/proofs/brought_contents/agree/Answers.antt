use Rattle.std.proofs.Common.{map}
use Rattle.store_state.specs.Contents.{held_key}
use Rattle.store_state.proofs.TestLoops.{agree_is}
use Rattle.store_state.proofs.brought_contents.agree.Goals as goal

pub returns : goal.returns
returns c =
    rw c.are_all.ensures (agree_is (map held_key c.args.state.now.contents) c.args.standing.now
    c.args.brought.now c.are_distinct-once.result c.is_each-each.result c.is_only-only.result
    c.is_lacking-lacking.result c.are_distinct-once.ensures c.is_each-each.ensures
    c.is_only-only.ensures c.is_lacking-lacking.ensures)
