use Rattle.std.proofs.Common.{rules}
use Rattle.record_fields.specs.Parts.{items_at}
use Rattle.record_fields.specs.Readers.{Fails}
use Rattle.record_fields.proofs.Items.{one_made, all_given, item_fails}
use Rattle.record_fields.proofs.readable.items_here.Goals as goal

pub returns-in_err-item-clause-exact : goal.returns-in_err-item-clause-exact
returns-in_err-item-clause-exact g c =
    let fails : Fails c.in_err-item.field-0.0 (items_at g.T.Readable.at c.args.count c.args.bytes.now c.args.place) = item_fails g.T.Readable.at c.args.bytes.now c.args.place c.args.count c.loop-left.items.items c.loop-left.next c.loop-left.left c.in_err-item.field-0.0 c.loop-left.invariant c.loop-left-test.true c.in_err-item.ensures.exact in
    search rules

pub loop-left-preserved : goal.loop-left-preserved
loop-left-preserved g c = rw c.in_ok-push.ensures.items (one_made g.T.Readable.at c.args.bytes.now c.args.place c.args.count c.loop-left.items.items c.loop-left.next c.loop-left.left c.in_ok-item.item c.in_ok-item.behind c.loop-left.invariant c.loop-left-test.true c.in_ok-item.ensures.exact c.in_ok-item.ensures.next)

pub returns-clause-exact : goal.returns-clause-exact
returns-clause-exact g c = all_given g.T.Readable.at c.args.bytes.now c.args.place c.args.count c.loop-left.items.items c.from_vec.result c.loop-left.next c.loop-left.left c.loop-left.invariant c.loop-left-test.false c.from_vec.ensures
