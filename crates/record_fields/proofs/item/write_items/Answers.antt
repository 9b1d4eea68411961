use Rattle.std.proofs.Common.{sym, subst, arith}
use Rattle.record_fields.proofs.Listed.{length-left, none_after, rest_after, room_after}
use Rattle.record_fields.proofs.item.write_items.Goals as goal

pub loop-item-init : goal.loop-item-init
loop-item-init g c = record { room = c.requires.room; rest = λ new last w. w }

pub write_item-next-requires-clause-fits : goal.write_item-next-requires-clause-fits
write_item-next-requires-clause-fits g c =
    let fits = c.requires.fits c.loop-item.item-index c.item-item.result c.loop-item-test.true in
    subst g.T.Item.fits (sym c.item-item.is) fits

pub write_item-next-requires-clause-room : goal.write_item-next-requires-clause-room
write_item-next-requires-clause-room g c =
    let parts =
    length-left g.T.Item.field c.args.items.now c.loop-item.item-index c.item-item.result
    c.loop-item-test.true c.item-item.is
    in
    omega (arith, c.loop-item.invariant.room)

pub loop-item-preserved : goal.loop-item-preserved
loop-item-preserved g c = record {
  room =
      room_after g.T.Item.field c.args.items.now c.loop-item.item-index c.item-item.result
      c.loop-item-test.true c.item-item.is c.write_item-next.ensures c.loop-item.invariant.room;
  rest = λ new last w. c.loop-item.invariant.rest new last
      (rest_after g.T.Item.field c.args.items.now c.loop-item.item-index c.item-item.result
      c.loop-item-test.true c.item-item.is c.write_item-next.ensures w);
}

pub returns : goal.returns
returns g c =
    c.loop-item.invariant.rest c.loop-item.out c.loop-item.next
    (none_after g.T.Item.field c.args.items.now c.loop-item.item-index c.loop-item.next
    c.loop-item.out c.loop-item-test.false c.loop-item.invariant.room)
