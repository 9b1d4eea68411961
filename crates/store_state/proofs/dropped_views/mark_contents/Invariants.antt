use Rattle.std.proofs.Common.{◌≡◌, length, map, take}
use Rattle.machine.specs.Blocks.{standing_files}
use Rattle.store_state.specs.Dropped.{is_needed}
use Rattle.store_state.specs.Tables.{bare_row}
use Rattle.store_state.proofs.dropped_views.mark_contents.Given as goal

abbrev pub invariant-loop-view : goal.invariant-loop-view
invariant-loop-view l = record {
  marked : l.marks
      ≡ map (is_needed (standing_files (map bare_row (take l.view-index l.views)))) l.contents;
  long : length l.marks ≡ length l.contents;
}
