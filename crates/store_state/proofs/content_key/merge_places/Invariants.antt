use Rattle.std.proofs.Common.{◌+◌, ◌-◌, ◌≤◌, ◌++◌, drop, length, map, take}
use Rattle.std.specs.List.Sorted.{IsPermutation}
use Rattle.store_state.specs.ContentKeys.{content_key_cmp}
use Rattle.store_state.specs.Contents.{held_key}
use Rattle.store_state.specs.Places.{AreSorted}
use Rattle.store_state.proofs.content_key.merge_places.Given as goal

abbrev pub invariant-loop-done : goal.invariant-loop-done
invariant-loop-done l = record {
  first : AreSorted content_key_cmp (map held_key l.contents)
      (take l.left l.places ++ drop (l.left + (l.added - l.done)) l.places);
  last : AreSorted content_key_cmp (map held_key l.contents) (drop l.left l.places);
  within : l.left + (l.added - l.done) ≤ length l.places;
  same : IsPermutation l.initial.places l.places;
}
