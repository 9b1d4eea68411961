use Rattle.std.proofs.Common.{◌≡◌, ◌+◌, length, flat_map, drop}
use Rattle.record_fields.proofs.item.items_length.Given as goal

abbrev pub invariant-loop-item : goal.invariant-loop-item
invariant-loop-item g l =
    l.total + length (flat_map g.T.Item.field (drop l.item-index l.items))
    ≡ length (flat_map g.T.Item.field l.items)
