use Rattle.std.proofs.Common.{ℕ, ◌+◌, ◌≤◌, List, length, flat_map}
use Rattle.record_fields.specs.Places.{WritesField}
use Rattle.record_fields.proofs.Listed.{left}
use Rattle.record_fields.proofs.item.write_items.Given as goal

-- what is left has room, and is written behind what was
abbrev pub invariant-loop-item : goal.invariant-loop-item
invariant-loop-item g l = record {
  room : l.next + length (left g.T.Item.field l.items l.item-index) ≤ length l.out;
  rest : (new : List ℕ) (last : ℕ)
      → WritesField l.out l.next (left g.T.Item.field l.items l.item-index) new last
      → WritesField l.initial.out l.fn.place (flat_map g.T.Item.field l.items) new last;
}
