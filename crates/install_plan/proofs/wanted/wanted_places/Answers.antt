use Rattle.std.proofs.Common.{map}
use Rattle.machine.specs.Blocks.{standing_files}
use Rattle.store_state.specs.Tables.{bare_row}
use Rattle.install_plan.proofs.Noted.{walked_next}
use Rattle.install_plan.proofs.wanted.wanted_places.Goals as goal

pub loop-place-preserved : goal.loop-place-preserved
loop-place-preserved c =
    walked_next c.args.files.now (standing_files (map bare_row c.args.state.now.views)) c.loop-place.table c.takes.new.table c.loop-place.place
    c.loop-place.places.items c.add_place.new.places.items c.in-Ok.wanted c.loop-place-test.true c.loop-place.invariant
    (c.in-Ok.ensures.takes c.loop-place.invariant.taken c.loop-place.invariant.knows) c.in_default.ensures.added
