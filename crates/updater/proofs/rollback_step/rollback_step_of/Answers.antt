use Rattle.std.proofs.Common.{refl}
use Rattle.updater.proofs.BackTables.{goes_back}
use Rattle.updater.proofs.rollback_step.rollback_step_of.Goals as goal

pub returns-clause-going : goal.returns-clause-going
returns-clause-going c =
    goes_back c.args.key.now c.args.state.now c.in-Some.field-0.now c.in-Some-previous.view.now
    c.in-Some-place.place c.in-Some.ensures.row c.in-Some.ensures.bare
    c.in-Some-previous.ensures.row c.in-Some-previous.ensures.bare c.in-Some-place.ensures.found.1
    (c.in_default-minimum_above.ensures.none refl)
