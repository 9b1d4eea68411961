use Rattle.std.proofs.Common.{refl}
use Rattle.manifest_parts.proofs.Readings.{fails_then}
use Rattle.manifests.specs.Applications.{application_facts}
use Rattle.manifests.proofs.Chains.{then_fails, handed_on}
use Rattle.manifests.proofs.application.facts_of.Goals as goal

pub returns-in_err-identity : goal.returns-in_err-identity
unfolding application_facts
returns-in_err-identity c =
    handed_on _ _ _ _ c.from_residual.ensures
    (fails_then _ _ _ c.in_err-identity.ensures)

pub returns-in_err-start : goal.returns-in_err-start
unfolding application_facts
returns-in_err-start c =
    handed_on _ _ _ _ c.from_residual-in_err-start.ensures
    (then_fails _ _ _ _ c.in_ok-identity.ensures
    (fails_then _ _ _ c.in_err-start.ensures))

pub returns-in_err-files : goal.returns-in_err-files
unfolding application_facts
returns-in_err-files c =
    handed_on _ _ _ _ c.from_residual-in_err-files.ensures
    (then_fails _ _ _ _ c.in_ok-identity.ensures
    (then_fails _ _ _ _ c.in_ok-start.ensures
    (fails_then _ _ _ c.in_err-files.ensures)))

pub returns : goal.returns
unfolding application_facts
returns c =
    rw c.in_ok-identity.ensures (rw c.in_ok-start.ensures (rw c.in_ok-files.ensures (rw c.into_list.ensures refl)))
