-- The two manifests, one after the other.
use Rattle.std.proofs.Common.{◌≡◌, ℕ, List, Ok, ap, ◌∙◌}
use Rattle.small_types.specs.Outcome.{◌>>=◌}
use Rattle.manifests.specs.declared.facts.FileEntry.{FileEntry}
use Rattle.manifest_writer.specs.Applications.{application_text}
use Rattle.publish_plan.specs.declared.options.Options.{Options}
use Rattle.publisher.specs.declared.fault.PublishFault.{PublishFault}
use Rattle.publisher.specs.declared.release.ReleaseTexts.{ReleaseTexts}
use Rattle.publisher.specs.Outcome.{Fails}
use Rattle.publisher.specs.Publication.{Outcome, application_of, deployment_key, deployment_manifest_of, limited, manifests_of}
use Rattle.publisher.proofs.Outcomes.{fails_then, fails_after}

abbrev made : Options → List FileEntry → List ℕ → List ℕ → Outcome ReleaseTexts
made o entries application deployment = Ok (record { key = deployment_key o; entries = entries; application = application; deployment = deployment })

abbrev second : Options → List FileEntry → List ℕ → Outcome ReleaseTexts
second o entries application = limited (deployment_manifest_of o application) >>= made o entries application

pub application_fails : (o : Options) (entries : List FileEntry) (e : PublishFault) → Fails e (limited (application_text (application_of o entries))) → Fails e (manifests_of o entries)
unfolding manifests_of
application_fails o entries e failed = fails_then e (limited (application_text (application_of o entries))) (second o entries) failed

pub deployment_fails : (o : Options) (entries : List FileEntry) (text : List ℕ) (e : PublishFault) → limited (application_text (application_of o entries)) ≡ Ok text → Fails e (limited (deployment_manifest_of o text)) → Fails e (manifests_of o entries)
unfolding manifests_of
deployment_fails o entries text e first failed =
    fails_after e (limited (application_text (application_of o entries))) text (second o entries) first (fails_then e (limited (deployment_manifest_of o text)) (made o entries text) failed)

pub both_made : (o : Options) (entries : List FileEntry) (text last : List ℕ) → limited (application_text (application_of o entries)) ≡ Ok text → limited (deployment_manifest_of o text) ≡ Ok last
    → manifests_of o entries ≡ Ok (record { key = deployment_key o; entries = entries; application = text; deployment = last })
unfolding manifests_of
both_made o entries text last first next =
    ap (λ (t : Outcome (List ℕ)). t >>= second o entries) first ∙ ap (λ (t : Outcome (List ℕ)). t >>= made o entries text) next
