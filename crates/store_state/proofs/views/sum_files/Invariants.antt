use Rattle.std.proofs.Common.{◌≡◌, ◌+◌, drop}
use Rattle.store_state.specs.Rows.{listed_files}
use Rattle.store_state.proofs.views.sum_files.Given as goal

abbrev pub invariant-loop-view : goal.invariant-loop-view
invariant-loop-view l = l.count + listed_files (drop l.view-index l.views) ≡ listed_files l.views
