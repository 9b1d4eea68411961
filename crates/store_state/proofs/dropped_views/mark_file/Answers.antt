use Rattle.std.proofs.Common.{refl}
use Rattle.store_state.proofs.WithoutRows.{file_marked, file_unmarked}
use Rattle.store_state.proofs.dropped_views.mark_file.Goals as goal

pub returns-in-Some-clause-marks : goal.returns-in-Some-clause-marks
returns-in-Some-clause-marks c =
    λ entries was. file_marked c.args.contents.now c.args.entry.now c.as_slice.result.now
    c.as_slice.ensures.value c.requires.once entries c.args.marks.now c.set.new.self
    c.in-Some.place c.in-Some.ensures.found c.set.ensures was

pub returns-in_default-clause-marks : goal.returns-in_default-clause-marks
returns-in_default-clause-marks c =
    λ entries was. file_unmarked c.args.contents.now c.args.entry.now c.as_slice.result.now
    c.as_slice.ensures.value c.requires.once entries c.args.marks.now c.args.marks.now
    c.in_default.ensures.found refl was
