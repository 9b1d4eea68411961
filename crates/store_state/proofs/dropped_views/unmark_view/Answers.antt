use Rattle.std.proofs.Common.{refl}
use Rattle.store_state.proofs.WithoutRows.{no_view_unmarked, view_unmarked}
use Rattle.store_state.proofs.dropped_views.unmark_view.Goals as goal

pub returns-in-Ok-clause-marks : goal.returns-in-Ok-clause-marks
returns-in-Ok-clause-marks c =
    λ numbers was. view_unmarked c.args.views.now c.args.number c.requires.rising numbers
    c.args.marks.now c.set.new.self c.in-Ok.place c.in-Ok.ensures.range c.in-Ok.ensures.found
    c.set.ensures was

pub returns-in_default-clause-marks : goal.returns-in_default-clause-marks
returns-in_default-clause-marks c =
    λ numbers was. no_view_unmarked c.args.views.now c.args.number c.requires.rising numbers
    c.args.marks.now c.args.marks.now c.in_default.field-0 c.in_default.ensures.found refl was
