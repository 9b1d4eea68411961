use Rattle.std.proofs.Common.{refl}
use Rattle.manifest_parts.proofs.Readings.{fails_then}
use Rattle.manifests.specs.Applications.{start_of}
use Rattle.manifests.proofs.Chains.{then_fails, handed_on}
use Rattle.manifests.proofs.application.start_of.Goals as goal

pub returns-in_err-point : goal.returns-in_err-point
unfolding start_of
returns-in_err-point c =
    handed_on _ _ _ _ c.from_residual.ensures
    (fails_then _ _ _ c.in_err-point.ensures)

pub returns-in_err-command : goal.returns-in_err-command
unfolding start_of
returns-in_err-command c =
    handed_on _ _ _ _ c.from_residual-in_err-command.ensures
    (then_fails _ _ _ _ c.in_ok-point.ensures
    (fails_then _ _ _ c.in_err-command.ensures))

pub returns-in_err-given : goal.returns-in_err-given
unfolding start_of
returns-in_err-given c =
    handed_on _ _ _ _ c.from_residual-in_err-given.ensures
    (then_fails _ _ _ _ c.in_ok-point.ensures
    (then_fails _ _ _ _ c.in_ok-command.ensures
    (fails_then _ _ _ c.in_err-given.ensures)))

pub returns-in_err-entry : goal.returns-in_err-entry
unfolding start_of
returns-in_err-entry c =
    handed_on _ _ _ _ c.from_residual-in_err-entry.ensures
    (then_fails _ _ _ _ c.in_ok-point.ensures
    (then_fails _ _ _ _ c.in_ok-command.ensures
    (then_fails _ _ _ _ c.in_ok-given.ensures
    (fails_then _ _ _ c.in_err-entry.ensures))))

pub returns-in_err-parameters : goal.returns-in_err-parameters
unfolding start_of
returns-in_err-parameters c =
    handed_on _ _ _ _ c.from_residual-in_err-parameters.ensures
    (then_fails _ _ _ _ c.in_ok-point.ensures
    (then_fails _ _ _ _ c.in_ok-command.ensures
    (then_fails _ _ _ _ c.in_ok-given.ensures
    (then_fails _ _ _ _ c.in_ok-entry.ensures
    (fails_then _ _ _ (rw c.attribute.ensures at c.in_err-parameters.ensures))))))

pub returns : goal.returns
unfolding start_of
returns c =
    rw c.in_ok-point.ensures (rw c.in_ok-command.ensures (rw c.in_ok-given.ensures (rw c.in_ok-entry.ensures
    (rw (rw c.attribute.ensures at c.in_ok-parameters.ensures) refl))))
