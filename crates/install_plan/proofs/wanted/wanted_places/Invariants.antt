use Rattle.std.proofs.Common.{map}
use Rattle.machine.specs.Blocks.{standing_files}
use Rattle.store_state.specs.Tables.{bare_row}
use Rattle.install_plan.proofs.Noted.{Walked}
use Rattle.install_plan.proofs.wanted.wanted_places.Given as goal

abbrev pub invariant-loop-place : goal.invariant-loop-place
invariant-loop-place l = Walked l.files (standing_files (map bare_row l.state.views)) l.table l.place l.places.items
