use Rattle.std.proofs.Common.{◌≡◌, ◌≤◌, length}
use Rattle.store_state.specs.Marks.{kept_by}
use Rattle.store_state.proofs.MarkedItems.{moved_and_left}
use Rattle.store_state.proofs.marks.move_marked.Given as goal

abbrev pub invariant-loop-place : goal.invariant-loop-place
invariant-loop-place g l = record {
  moved : moved_and_left l.marks l.kept l.place l.items.items
      ≡ kept_by l.marks l.initial.items.items;
  behind : l.kept ≤ l.place;
  long : length l.marks ≡ length l.items.items;
}
