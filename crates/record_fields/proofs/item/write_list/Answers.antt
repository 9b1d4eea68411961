use Rattle.std.proofs.Common.{arith}
use Rattle.record_fields.specs.Spelled.{list_field}
use Rattle.record_fields.proofs.Long.{length-list_field}
use Rattle.record_fields.proofs.Written.{then}
use Rattle.record_fields.proofs.item.write_list.Goals as goal

pub write_u32-next-requires : goal.write_u32-next-requires
write_u32-next-requires g c =
    omega (arith, c.requires.room, length-list_field g.T.Item.field c.args.items.now)

pub write_items-requires-clause-room : goal.write_items-requires-clause-room
write_items-requires-clause-room g c =
    let behind = c.write_u32-next.ensures.behind in
    omega (arith, c.requires.room, length-list_field g.T.Item.field c.args.items.now)

pub returns : goal.returns
unfolding list_field
returns g c = then c.write_u32-next.ensures c.write_items.ensures
