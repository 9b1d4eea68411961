use Rattle.std.proofs.Common.{refl}
use Rattle.manifest_parts.proofs.Readings.{fails_then}
use Rattle.manifests.specs.Deployments.{entry_of}
use Rattle.manifests.proofs.Chains.{then_fails, handed_on}
use Rattle.manifests.proofs.deployment_entry.entry_of.Goals as goal

pub returns-in_err-assembly : goal.returns-in_err-assembly
unfolding entry_of
returns-in_err-assembly c =
    handed_on _ _ _ _ c.from_residual.ensures
    (fails_then _ _ _ c.in_err-assembly.ensures)

pub returns-in_err-given : goal.returns-in_err-given
unfolding entry_of
returns-in_err-given c =
    handed_on _ _ _ _ c.from_residual-in_err-given.ensures
    (then_fails _ _ _ _ c.in_ok-assembly.ensures
    (fails_then _ _ _ c.in_err-given.ensures))

pub returns-in_err-codebase : goal.returns-in_err-codebase
unfolding entry_of
returns-in_err-codebase c =
    handed_on _ _ _ _ c.from_residual-in_err-codebase.ensures
    (then_fails _ _ _ _ c.in_ok-assembly.ensures
    (then_fails _ _ _ _ c.in_ok-given.ensures
    (fails_then _ _ _ c.in_err-codebase.ensures)))

pub returns-in_err-size : goal.returns-in_err-size
unfolding entry_of
returns-in_err-size c =
    handed_on _ _ _ _ c.from_residual-in_err-size.ensures
    (then_fails _ _ _ _ c.in_ok-assembly.ensures
    (then_fails _ _ _ _ c.in_ok-given.ensures
    (then_fails _ _ _ _ c.in_ok-codebase.ensures
    (fails_then _ _ _ c.in_err-size.ensures))))

pub returns-in_err-app : goal.returns-in_err-app
unfolding entry_of
returns-in_err-app c =
    handed_on _ _ _ _ c.from_residual-in_err-app.ensures
    (then_fails _ _ _ _ c.in_ok-assembly.ensures
    (then_fails _ _ _ _ c.in_ok-given.ensures
    (then_fails _ _ _ _ c.in_ok-codebase.ensures
    (then_fails _ _ _ _ c.in_ok-size.ensures
    (fails_then _ _ _ c.in_err-app.ensures)))))

pub returns-in_err-digests : goal.returns-in_err-digests
unfolding entry_of
returns-in_err-digests c =
    handed_on _ _ _ _ c.from_residual-in_err-digests.ensures
    (then_fails _ _ _ _ c.in_ok-assembly.ensures
    (then_fails _ _ _ _ c.in_ok-given.ensures
    (then_fails _ _ _ _ c.in_ok-codebase.ensures
    (then_fails _ _ _ _ c.in_ok-size.ensures
    (then_fails _ _ _ _ c.in_ok-app.ensures
    (fails_then _ _ _ (rw c.as_str.ensures.value at c.in_err-digests.ensures)))))))

pub returns : goal.returns
unfolding entry_of
returns c =
    rw c.in_ok-assembly.ensures (rw c.in_ok-given.ensures (rw c.in_ok-codebase.ensures (rw c.in_ok-size.ensures (rw c.in_ok-app.ensures (rw (rw c.as_str.ensures.value at c.in_ok-digests.ensures) refl)))))
