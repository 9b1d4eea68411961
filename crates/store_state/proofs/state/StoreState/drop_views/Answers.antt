use Rattle.std.proofs.Common.{ap, arith, length, map}
use Rattle.store_state.specs.ContentKeys.{content_key_cmp}
use Rattle.store_state.specs.Contents.{held_key}
use Rattle.store_state.proofs.Inserted.{none_sorted}
use Rattle.store_state.proofs.WithoutRows.{few_contents, index_long, kept_contents, kept_rows, left_indexes, left_is, left_tables, needed_fewer, placed_anew}
use Rattle.store_state.proofs.state.StoreState.drop_views.Goals as goal

pub mark_contents-requires-clause-few : goal.mark_contents-requires-clause-few
mark_contents-requires-clause-few c =
    let few = few_contents _ c.self.invariant.1 in
    omega (arith, few, ap length c.as_slice-5.ensures)

pub add_places-requires-clause-room : goal.add_places-requires-clause-room
add_places-requires-clause-room c =
    let left = kept_contents c.keep_marked.new.list c.as_slice-7.result.now c.self.inside.contents
    c.as_slice-5.result.now c.keep_marked-3.new.list c.mark_contents.new.marks
    c.as_slice-8.result.now c.as_slice-7.ensures c.as_slice-5.ensures c.mark_contents.ensures
    c.as_slice-8.ensures c.keep_marked-3.ensures in
    let fewer = needed_fewer c.keep_marked.new.list c.self.inside.contents in
    let long = index_long c.self.inside.contents c.self.inside.index.items c.self.invariant.2 in
    omega (
      arith,
      ap length left,
      fewer,
      long,
      ap length c.as_slice-9.ensures,
      c.clear.ensures.len,
      c.clear.ensures.capacity,
    )

-- an index of no places is in order
pub add_places-requires-clause-sorted : goal.add_places-requires-clause-sorted
add_places-requires-clause-sorted c =
    none_sorted content_key_cmp (map held_key c.as_slice-9.result.now) c.clear.new.self.items
    c.clear.ensures.items

pub invariant_of-self : goal.invariant_of-self
invariant_of-self c =
    let rows = kept_rows c.args.numbers.now c.as_slice-2.result.now c.self.inside.views
    c.as_slice.result.now c.keep_marked.new.list c.mark_views.new.marks c.as_slice-3.result.now
    c.as_slice-2.ensures c.as_slice.ensures c.mark_views.ensures c.as_slice-3.ensures
    c.keep_marked.ensures in
    let left = kept_contents c.keep_marked.new.list c.as_slice-7.result.now c.self.inside.contents
    c.as_slice-5.result.now c.keep_marked-3.new.list c.mark_contents.new.marks
    c.as_slice-8.result.now c.as_slice-7.ensures c.as_slice-5.ensures c.mark_contents.ensures
    c.as_slice-8.ensures c.keep_marked-3.ensures in (
      c.self.invariant.0,
      left_tables c.args.numbers.now c.self.view_is c.self.invariant.1 rows left,
      placed_anew c.keep_marked-3.new.list c.as_slice-9.result.now c.clear.new.self.items
          c.add_places.new.index.items c.as_slice-9.ensures c.clear.ensures.items
          c.add_places.ensures.sorted c.add_places.ensures.same,
      left_indexes c.self.inside.views c.keep_marked.new.list c.self.inside.names
          c.keep_marked-2.new.list c.mark_views.new.marks c.as_slice-3.result.now
          c.as_slice-4.result.now c.self.invariant.3 c.as_slice-3.ensures c.as_slice-4.ensures
          c.keep_marked.ensures c.keep_marked-2.ensures,
    )

pub returns : goal.returns
returns c =
    let rows = kept_rows c.args.numbers.now c.as_slice-2.result.now c.self.inside.views
    c.as_slice.result.now c.keep_marked.new.list c.mark_views.new.marks c.as_slice-3.result.now
    c.as_slice-2.ensures c.as_slice.ensures c.mark_views.ensures c.as_slice-3.ensures
    c.keep_marked.ensures in
    let left = kept_contents c.keep_marked.new.list c.as_slice-7.result.now c.self.inside.contents
    c.as_slice-5.result.now c.keep_marked-3.new.list c.mark_contents.new.marks
    c.as_slice-8.result.now c.as_slice-7.ensures c.as_slice-5.ensures c.mark_contents.ensures
    c.as_slice-8.ensures c.keep_marked-3.ensures in
    left_is c.args.numbers.now c.self.view_is c.self.invariant.1 rows left
