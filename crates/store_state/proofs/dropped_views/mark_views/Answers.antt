use Rattle.std.proofs.Common.{◌∙◌, List, ℕ, ap, length, map, not, sym, take, true}
use Rattle.std.proofs.lemmas.List.{length-map, take_more}
use Rattle.store_state.specs.declared.view.View.{View}
use Rattle.store_state.specs.Dropped.{is_among}
use Rattle.store_state.proofs.MarkedItems.{all_alike}
use Rattle.store_state.proofs.dropped_views.mark_views.Goals as goal

pub loop-number-init : goal.loop-number-init
loop-number-init c =
    let marked = c.reset.ensures ∙ all_alike true c.args.views.now in
    record { marked = marked; long = ap length marked ∙ length-map c.args.views.now _ }

pub loop-number-preserved : goal.loop-number-preserved
loop-number-preserved c =
    let numbers = c.args.numbers.now in
    let at = c.loop-number.number-index in
    record {
      marked =
          c.unmark_view.ensures.marks (take at numbers) c.loop-number.invariant.marked
          ∙ ap (λ (ns : List ℕ). map (λ (view : View). not (is_among ns view)) c.args.views.now)
          (sym (take_more numbers at 0 c.loop-number-test.true));
      long = c.unmark_view.ensures.long;
    }
