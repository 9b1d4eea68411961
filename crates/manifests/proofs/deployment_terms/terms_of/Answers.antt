use Rattle.std.proofs.Common.{◌≡◌, ap, refl, true, Ok, Err}
use Rattle.manifest_parts.specs.declared.fault.ManifestFault.TheVariants.{OnlineOnly}
use Rattle.manifest_parts.proofs.Readings.{fails_then}
use Rattle.manifests.specs.Deployments.{terms_of, installed_only}
use Rattle.manifests.proofs.Chains.{then_fails, handed_on, ok_same}
use Rattle.manifests.proofs.deployment_terms.terms_of.Goals as goal

pub returns-in_err-deployment : goal.returns-in_err-deployment
unfolding terms_of
returns-in_err-deployment c = handed_on _ _ _ _ c.from_residual.ensures (fails_then _ _ _ c.in_err-deployment.ensures)

pub returns-in_err-install : goal.returns-in_err-install
unfolding terms_of
returns-in_err-install c =
    handed_on _ _ _ _ c.from_residual-in_err-install.ensures
    (then_fails _ _ _ _ c.in_ok-deployment.ensures (fails_then _ _ _ c.in_err-install.ensures))

pub returns-then-not-install : goal.returns-then-not-install
unfolding terms_of
returns-then-not-install c =
    let online : installed_only c.in_ok-install.install ≡ Err OnlineOnly = ap installed_only c.if-not-install.true in
    rw c.in_ok-deployment.ensures (rw c.in_ok-install.ensures (rw online refl))

pub returns-in_err-mapped : goal.returns-in_err-mapped
unfolding terms_of
returns-in_err-mapped c =
    let offline : installed_only c.in_ok-install.install ≡ Ok true = ap installed_only c.if-not-install.false in
    handed_on _ _ _ _ c.from_residual-in_err-mapped.ensures
    (then_fails _ _ _ _ c.in_ok-deployment.ensures (then_fails _ _ _ _ c.in_ok-install.ensures (then_fails _ _ _ _ offline
    (fails_then _ _ _ c.in_err-mapped.ensures))))

pub returns-in_err-minimum : goal.returns-in_err-minimum
unfolding terms_of
returns-in_err-minimum c =
    let offline : installed_only c.in_ok-install.install ≡ Ok true = ap installed_only c.if-not-install.false in
    handed_on _ _ _ _ c.from_residual-in_err-minimum.ensures
    (then_fails _ _ _ _ c.in_ok-deployment.ensures (then_fails _ _ _ _ c.in_ok-install.ensures (then_fails _ _ _ _ offline
    (then_fails _ _ _ _ c.in_ok-mapped.ensures (fails_then _ _ _ c.in_err-minimum.ensures)))))

pub returns-in_err-rule : goal.returns-in_err-rule
unfolding terms_of
returns-in_err-rule c =
    let offline : installed_only c.in_ok-install.install ≡ Ok true = ap installed_only c.if-not-install.false in
    handed_on _ _ _ _ c.from_residual-in_err-rule.ensures
    (then_fails _ _ _ _ c.in_ok-deployment.ensures (then_fails _ _ _ _ c.in_ok-install.ensures (then_fails _ _ _ _ offline
    (then_fails _ _ _ _ c.in_ok-mapped.ensures (then_fails _ _ _ _ c.in_ok-minimum.ensures (fails_then _ _ _ c.in_err-rule.ensures))))))

pub returns : goal.returns
unfolding terms_of
returns c =
    let offline : installed_only c.in_ok-install.install ≡ Ok true = ap installed_only c.if-not-install.false in
    rw c.in_ok-deployment.ensures (rw c.in_ok-install.ensures (rw offline (rw c.in_ok-mapped.ensures (rw c.in_ok-minimum.ensures
    (rw c.in_ok-rule.ensures (rw (ok_same _ _ c.in_ok-provider.ensures) refl))))))
