use Rattle.std.proofs.Common.{◌≡◌, ◌∙◌, ℕ, List, Some, IsSome, sym, subst}
use Rattle.small_types.specs.Name.{IsName}
use Rattle.folders.specs.declared.folder.Held.{Held}
use Rattle.folders.specs.Files.{file_in}
use Rattle.generated_release.specs.Options.{application_at}
use Rattle.generated_release.specs.Published.{IsWritten}
use Rattle.generated_release.specs.SureFolder.{sure_held}
use Rattle.generated_release.proofs.Spelled.{application_spelled, deployment_spelled}
use Rattle.generated_release.proofs.Written.{application_stands, deployment_stands, is_published}
use Rattle.generated_release.proofs.published_release.publish_release.Goals as goal

pub text_in-requires-clause-name : goal.text_in-requires-clause-name
text_in-requires-clause-name c = subst IsName (sym c.deployment.ensures) (deployment_spelled c.args.release)

pub text_in-requires-clause-stands : goal.text_in-requires-clause-stands
text_in-requires-clause-stands c =
    let old = sure_held c.in_ok-folder.folder in
    let new = sure_held c.publish_in.new.folder in
    subst (λ (name : List ℕ). IsSome (file_in name new)) (sym c.deployment.ensures)
    (deployment_stands c.args.release old new c.in_ok-key.ensures.files)

pub text_in-requires-2-clause-name : goal.text_in-requires-2-clause-name
text_in-requires-2-clause-name c = subst IsName (sym c.application.ensures) (application_spelled c.args.release)

pub text_in-requires-2-clause-stands : goal.text_in-requires-2-clause-stands
text_in-requires-2-clause-stands c =
    let old = sure_held c.in_ok-folder.folder in
    let new = sure_held c.publish_in.new.folder in
    subst (λ (files : List Held). IsSome (file_in c.application.result.now files)) (sym c.text_in.ensures.kept)
    (subst (λ (name : List ℕ). IsSome (file_in name new)) (sym c.application.ensures)
    (application_stands c.args.release old new c.in_ok-key.ensures.files))

pub returns-clause-published : goal.returns-clause-published
returns-clause-published c =
    let release = c.args.release in
    let new = sure_held c.publish_in.new.folder in
    let w = subst (λ (files : List Held). IsWritten release files new) c.in_ok-folder.ensures c.in_ok-key.ensures.files in
    is_published c.args.seed release new w _ c.in_ok-key.ensures.key
    (c.into_folder.ensures.held ∙ (c.text_in-2.ensures.kept ∙ c.text_in.ensures.kept))
    c.into_folder.ensures.works
    (subst (λ (name : List ℕ). file_in name new ≡ Some c.in_ok-deployment.deployment) c.deployment.ensures c.in_ok-deployment.ensures.text)
    (subst (λ (files : List Held). file_in (application_at release) files ≡ Some c.in_ok-application.application) c.text_in.ensures.kept
    (subst (λ (name : List ℕ). file_in name (sure_held c.text_in.new.folder) ≡ Some c.in_ok-application.application) c.application.ensures c.in_ok-application.ensures.text))
