use Rattle.std.proofs.Common.{◌≡◌, length, map, not, take}
use Rattle.store_state.specs.declared.view.View.{View}
use Rattle.store_state.specs.Dropped.{is_among}
use Rattle.store_state.proofs.dropped_views.mark_views.Given as goal

abbrev pub invariant-loop-number : goal.invariant-loop-number
invariant-loop-number l = record {
  marked : l.marks
      ≡ map (λ (view : View). not (is_among (take l.number-index l.numbers) view)) l.views;
  long : length l.marks ≡ length l.views;
}
