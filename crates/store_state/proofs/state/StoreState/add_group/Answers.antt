use Rattle.store_state.proofs.GrownTables.{group_is, indexes_are, tables_are}
use Rattle.store_state.proofs.Indexed.{placed_more, placed_still}
use Rattle.store_state.proofs.state.StoreState.add_group.Goals as goal

-- the index is still in order
pub add_places-requires-clause-sorted : goal.add_places-requires-clause-sorted
add_places-requires-clause-sorted c =
    placed_still c.self.inside.contents c.args.contents c.append.new.self c.as_slice-2.result.now
    c.self.inside.index.items c.reserve.new.self.items c.self.invariant.2
    c.in_ok-append.ensures.ok c.as_slice-2.ensures c.reserve.ensures.items

-- the group and its contents stand
pub invariant_of-self-2 : goal.invariant_of-self-2
invariant_of-self-2 c = (
  c.self.invariant.0,
  tables_are c.args.number c.args.group c.args.contents c.self.view_is c.self.invariant.1 c.requires c.in-Some.ensures.found
      c.in_default-done.ensures.ok c.in_ok-append.ensures.ok,
  placed_more c.self.inside.contents c.args.contents c.append.new.self c.as_slice-2.result.now
      c.as_slice-held.result.now c.self.inside.index.items c.reserve.new.self.items
      c.add_places.new.index.items c.self.invariant.2 c.in_ok-append.ensures.ok
      c.as_slice-2.ensures c.as_slice-held.ensures c.reserve.ensures.items
      c.add_places.ensures.sorted c.add_places.ensures.same,
  indexes_are c.args.number c.args.group c.args.contents c.self.view_is c.self.invariant.1 c.requires c.in-Some.ensures.found
      c.in_default-done.ensures.ok c.in_ok-append.ensures.ok c.self.inside.names
      c.self.invariant.3,
)

pub returns-clause-ok : goal.returns-clause-ok
returns-clause-ok c =
    group_is c.args.number c.args.group c.args.contents c.self.view_is c.self.invariant.1 c.requires c.in-Some.ensures.found
    c.in_default-done.ensures.ok c.in_ok-append.ensures.ok
