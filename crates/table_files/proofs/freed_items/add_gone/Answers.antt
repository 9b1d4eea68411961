use Rattle.std.proofs.Common.{◌∙◌, ◌++◌, List, ap, refl, sym}
use Rattle.store_state.specs.declared.view.LocalFile.{LocalFile}
use Rattle.store_state.specs.declared.view.View.{View}
use Rattle.store_state.specs.Dropped.{is_among}
use Rattle.table_files.specs.Held.{held_for_locals, held_for_views}
use Rattle.table_files.proofs.FilteredLoops.{passed_over, taken}
use Rattle.table_files.proofs.freed_items.add_gone.Goals as goal
use Rattle.table_files.proofs.freed_items.add_gone.Goals.{then-is_among+in_ok-add_locals, else-is_among}

pub loop-view-preserved : goal.loop-view-preserved
loop-view-preserved c =
    let own = λ (view : View). held_for_locals view.locals in
    let goes = is_among c.args.numbers.now in
    elim c.if-is_among.branch [
      | then-is_among+in_ok-add_locals w ↦ rw w.items-is
          (taken held_for_views own (λ view views. refl) goes c.args.views.now
          c.loop-view.view-index c.view-item.result c.view-item.is c.loop-view-test.true
          c.loop-view.items.items w.add_locals.new.items.items _
          (sym c.is_among.ensures ∙ w.if-is_among.true)
          (w.in_ok-add_locals.ensures
          ∙ ap (λ (files : List LocalFile). c.loop-view.items.items ++ held_for_locals files)
          w.as_slice.ensures)
          c.loop-view.invariant)
      | else-is_among w ↦ rw w.items-is
          (passed_over held_for_views own (λ view views. refl) goes c.args.views.now
          c.loop-view.view-index c.view-item.result c.view-item.is c.loop-view-test.true
          c.loop-view.items.items _ (sym c.is_among.ensures ∙ w.if-is_among.false)
          c.loop-view.invariant)
    ]
