use Rattle.std.proofs.Common.{◌≡◌, ℕ, List, Ok, ap, sym, subst, ◌∙◌}
use Rattle.identity.specs.declared.key.Key.{Key}
use Rattle.manifests.specs.declared.facts.FileEntry.{FileEntry}
use Rattle.publisher.specs.Outcome.{Fails}
use Rattle.publisher.specs.Publication.{deployment_key, deployment_manifest_of, limited}
use Rattle.publisher.proofs.Outcomes.{handed_on}
use Rattle.publisher.proofs.ManifestSteps.{application_fails, deployment_fails, both_made}
use Rattle.publisher.proofs.release.manifests_of.Goals as goal

pub returns-in_err-written-clause-exact : goal.returns-in_err-written-clause-exact
returns-in_err-written-clause-exact c =
    handed_on _ _ _ _ c.from_residual.ensures
    (application_fails c.args.options.now c.args.entries c.in_err-written.field-0.0 c.in_err-written.ensures.exact)

pub returns-in_err-deployment-clause-exact : goal.returns-in_err-deployment-clause-exact
returns-in_err-deployment-clause-exact c =
    let o = c.args.options.now in
    handed_on _ _ _ _ c.from_residual-in_err-deployment.ensures
    (deployment_fails o c.args.entries c.in_ok-written.written.text c.in_err-deployment.field-0.0 c.in_ok-written.ensures.exact
    (subst (λ (t : List ℕ). Fails c.in_err-deployment.field-0.0 (limited (deployment_manifest_of o t))) c.as_slice.ensures c.in_err-deployment.ensures.exact))

pub returns-clause-exact : goal.returns-clause-exact
returns-clause-exact c =
    let o = c.args.options.now in
    let text = c.in_ok-written.written.text in
    let made = c.in_ok-deployment.deployment in
    let next : limited (deployment_manifest_of o text) ≡ Ok made =
    subst (λ (t : List ℕ). limited (deployment_manifest_of o t) ≡ Ok made) c.as_slice.ensures c.in_ok-deployment.ensures.exact in
    both_made o c.args.entries text made c.in_ok-written.ensures.exact next
    ∙ ap (λ (es : List FileEntry). Ok (record { key = deployment_key o; entries = es; application = text; deployment = made })) (sym c.in_ok-written.ensures.entries)
    ∙ ap (λ (k : Key). Ok (record { key = k; entries = c.in_ok-written.written.entries; application = text; deployment = made })) (sym c.in_ok-deployment.ensures.key)
