use Rattle.std.proofs.Common.{◌≡◌, ◌∙◌, ◌+◌, ◌++◌, [], ◌∷◌, List, ap, false, length, map, sym, take}
use Rattle.std.proofs.lemmas.List.{length-map, take_more}
use Rattle.store_state.specs.declared.view.View.{View}
use Rattle.machine.specs.Blocks.{standing_files}
use Rattle.manifests.specs.declared.facts.FileEntry.{FileEntry}
use Rattle.store_state.specs.Dropped.{is_needed}
use Rattle.store_state.specs.Tables.{bare_row}
use Rattle.store_state.proofs.ChangedTables.{standing_push}
use Rattle.store_state.proofs.MarkedItems.{all_alike}
use Rattle.store_state.proofs.dropped_views.mark_contents.Goals as goal

pub loop-view-init : goal.loop-view-init
loop-view-init c =
    let marked = c.reset.ensures ∙ all_alike false c.args.contents.now in
    record { marked = marked; long = ap length marked ∙ length-map c.args.contents.now _ }

pub loop-view-preserved : goal.loop-view-preserved
loop-view-preserved c =
    let views = c.args.views.now in
    let at = c.loop-view.view-index in
    let view = c.view-item.result in
    let more : take (at + 1) views ≡ take at views ++ view ∷ [] =
    take_more views at view c.loop-view-test.true
    ∙ ap (λ (v : View). take at views ++ v ∷ []) (sym c.view-item.is) in
    record {
      marked =
          c.mark_files.ensures.marks (standing_files (map bare_row (take at views)))
          c.loop-view.invariant.marked
          ∙ ap (λ (entries : List FileEntry). map (is_needed entries) c.args.contents.now)
          (sym (ap (λ (vs : List View). standing_files (map bare_row vs)) more
          ∙ standing_push (take at views) view));
      long = c.mark_files.ensures.long;
    }
