use Rattle.std.proofs.Common.{refl}
use Rattle.manifest_parts.proofs.Readings.{fails_then}
use Rattle.manifests.specs.Deployments.{deployment_facts}
use Rattle.manifests.proofs.Chains.{then_fails, handed_on}
use Rattle.manifests.proofs.deployment.facts_of.Goals as goal

pub returns-in_err-identity : goal.returns-in_err-identity
unfolding deployment_facts
returns-in_err-identity c =
    handed_on _ _ _ _ c.from_residual.ensures
    (fails_then _ _ _ c.in_err-identity.ensures)

pub returns-in_err-terms : goal.returns-in_err-terms
unfolding deployment_facts
returns-in_err-terms c =
    handed_on _ _ _ _ c.from_residual-in_err-terms.ensures
    (then_fails _ _ _ _ c.in_ok-identity.ensures
    (fails_then _ _ _ c.in_err-terms.ensures))

pub returns-in_err-entry : goal.returns-in_err-entry
unfolding deployment_facts
returns-in_err-entry c =
    handed_on _ _ _ _ c.from_residual-in_err-entry.ensures
    (then_fails _ _ _ _ c.in_ok-identity.ensures
    (then_fails _ _ _ _ c.in_ok-terms.ensures
    (fails_then _ _ _ c.in_err-entry.ensures)))

pub returns : goal.returns
unfolding deployment_facts
returns c =
    rw c.in_ok-identity.ensures (rw c.in_ok-terms.ensures (rw c.in_ok-entry.ensures refl))
