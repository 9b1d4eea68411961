use Rattle.std.proofs.Common.{◌∙◌, Bor, List, ap, map, not, refl, sym}
use Rattle.manifests.specs.declared.facts.FileEntry.{FileEntry}
use Rattle.machine.specs.Blocks.{standing_files}
use Rattle.machine.specs.Views.{standing_entries}
use Rattle.store_state.specs.declared.view.View.{View}
use Rattle.store_state.specs.Dropped.{is_among}
use Rattle.store_state.specs.Tables.{bare_row}
use Rattle.table_files.proofs.FilteredLoops.{passed_over, taken}
use Rattle.table_files.proofs.needed_contents.left_files.Goals as goal
use Rattle.table_files.proofs.needed_contents.left_files.Goals.{then-not-is_among+in_ok-add_standing, else-not-is_among}

pub loop-view-preserved : goal.loop-view-preserved
loop-view-preserved c =
    let now = map (λ (file : Bor FileEntry). file.now) in
    let all = λ (views : List View). standing_files (map bare_row views) in
    let own = λ (view : View). standing_entries view.groups view.application in
    let stays = λ (view : View). not (is_among c.args.numbers.now view) in
    elim c.if-not-is_among.branch [
      | then-not-is_among+in_ok-add_standing w ↦ rw w.files-is
          (taken all own (λ view views. refl) stays c.args.views.now c.loop-view.view-index
          c.view-item.result c.view-item.is c.loop-view-test.true
          (now c.loop-view.files.items) (now w.add_standing.new.files.items) _
          (ap not (sym c.is_among.ensures ∙ w.if-not-is_among.true))
          w.in_ok-add_standing.ensures c.loop-view.invariant)
      | else-not-is_among w ↦ rw w.files-is
          (passed_over all own (λ view views. refl) stays c.args.views.now c.loop-view.view-index
          c.view-item.result c.view-item.is c.loop-view-test.true
          (now c.loop-view.files.items) _
          (ap not (sym c.is_among.ensures ∙ w.if-not-is_among.false)) c.loop-view.invariant)
    ]
