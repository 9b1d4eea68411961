use Rattle.std.proofs.Common.{arith, ◌-◌, ◌+◌, ℕ, length, map}
use Rattle.std.specs.Prelude.{slice_get}
use Rattle.std.specs.Option.{option_cmp}
use Rattle.std.specs.Ordering.{is_lt}
use Rattle.std.proofs.lemmas.List.Sorted.{IsPermutation-trans}
use Rattle.store_state.specs.ContentKeys.{content_key_cmp}
use Rattle.store_state.specs.Contents.{held_key}
use Rattle.store_state.proofs.Merged.{counted_so, merged}
use Rattle.store_state.proofs.content_key.merge_places.Goals as goal

-- one less is new
pub loop-done-preserved : goal.loop-done-preserved
loop-done-preserved c = record {
  first =
      let added = length c.args.places.now - c.args.held in
      let left = c.loop-done.left in
      let slot = c.bring_last-left.result in
      counted_so
      (λ (a b : ℕ). is_lt (option_cmp content_key_cmp (slice_get (map held_key c.args.contents.now) a)
      (slice_get (map held_key c.args.contents.now) b)))
      c.bring_last-left.new.places slot
      (slot + (left + (added - c.loop-done.done) - left - 1)) (slot + (added - (c.loop-done.done + 1)))
      (omega (arith, c.loop-done-test.true)) c.bring_last-left.ensures.first;
  last = c.bring_last-left.ensures.last;
  within =
      omega (
        arith,
        c.loop-done-test.true,
        c.loop-done.invariant.within,
        c.bring_last-left.ensures.fewer,
        c.bring_last-left.ensures.len,
      );
  same =
      IsPermutation-trans c.args.places.now c.loop-done.places c.bring_last-left.new.places
      c.loop-done.invariant.same c.bring_last-left.ensures.same;
}

pub returns-clause-sorted : goal.returns-clause-sorted
returns-clause-sorted c =
    merged
    (λ (a b : ℕ). is_lt (option_cmp content_key_cmp (slice_get (map held_key c.args.contents.now) a)
    (slice_get (map held_key c.args.contents.now) b)))
    c.loop-done.places c.loop-done.left
    (c.loop-done.left + (length c.args.places.now - c.args.held - c.loop-done.done))
    (omega (arith, c.loop-done-test.false)) c.loop-done.invariant.first
