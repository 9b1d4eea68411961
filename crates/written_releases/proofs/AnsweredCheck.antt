-- A check that hears a deployment is answered.
use Rattle.std.proofs.Common.{◌≡◌, ◌∙◌, inr, refl, sym, ap, ℕ, List, [], ◌∷◌, Some, Ok}
use Rattle.std.specs.Prelude.{option_and_then}
use Rattle.std.proofs.lemmas.Option.{none-some}
use Rattle.identity.specs.declared.key.Key.{Key}
use Rattle.identity.specs.declared.version.Version.{Version}
use Rattle.manifest_parts.specs.Parts.{Tells}
use Rattle.manifests.specs.declared.facts.Deployment.{Deployment}
use Rattle.manifests.specs.Deployments.{deployment_of}
use Rattle.manifest_writer.specs.Deployments.{deployment_text}
use Rattle.machine.specs.declared.command.Command.TheVariants.{Check}
use Rattle.machine.specs.declared.event.Event.TheVariants.{Line}
use Rattle.machine.specs.declared.reply.Reply.TheVariants as says
use Rattle.machine.specs.CheckRow.{CheckEffect, check_refusals, checked}
use Rattle.machine.specs.Current.{bare_view_at, current_of, current_version}
use Rattle.machine.specs.Installed.{above}
use Rattle.machine.specs.InstallRow.{OfDeployment}
use Rattle.machine.specs.Machine.{Step}
use Rattle.machine.specs.Minimums.{minimum_of}
use Rattle.machine.specs.Rows.{PassesAll}
use Rattle.machine.specs.Shape.{BareView, Shape, shape_of}
use Rattle.machine.specs.Store.{Session}
use Rattle.machine.proofs.FirstFound.{some_there, then_value, map_value}
use Rattle.machine.proofs.InstallExact.{some_is_not_none, text_one}
use Rattle.written_releases.specs.Written.{IsWrittenDeployment}
use Rattle.written_releases.proofs.AnsweredInstall.{none_refused}
use Rattle.written_releases.proofs.WrittenTexts.{deployment_tells}

-- a version is current where a view is
version_of_view : (key : Key) (shape : Shape) (have : Version) → current_version key shape ≡ Some have → (number : ℕ) × (current_of key shape.apps ≡ Some number)
version_of_view key shape have is =
    let view = map_value (λ (v : BareView). v.deployment.identity.version)
    (option_and_then (λ (n : ℕ). bare_view_at n shape.views) (current_of key shape.apps)) have is in
    let number = then_value (λ (n : ℕ). bare_view_at n shape.views) (current_of key shape.apps) view.0 view.1 in
    (number.0, number.1)

module _ (now : ℕ) (old : Session) (d : Deployment) (publisher product : List ℕ) (have : Version) (is : IsWrittenDeployment d publisher product)
    (current : current_version d.identity.key (shape_of old) ≡ Some have) where
  abbrev key : Key
  key = d.identity.key

  abbrev text : List ℕ
  text = deployment_text d publisher product

  abbrev heard : List (List ℕ)
  heard = text ∷ []

  tells : Tells deployment_of text (Ok d)
  tells = deployment_tells d publisher product is

  abbrev told : OfDeployment heard (λ x. x ≡ d)
  told = (text, d, refl, tells, refl)

  number : (n : ℕ) × (current_of key old.store.apps ≡ Some n)
  number = version_of_view key (shape_of old) have current

  passes : PassesAll (check_refusals key heard (shape_of old))
  passes = (
    (λ none. none-some number.0 (sym none ∙ number.1)),
    (
      (λ target there. some_is_not_none text there.1),
      (
        (λ reason refused. none_refused deployment_of 0 heard text d refl tells reason refused),
        ((λ found x. x.1 (sym x.0.4 ∙ ap (λ (y : Deployment). y.identity.key) (text_one deployment_of 0 heard x.0 told))), tt),
      ),
    ),
  )

  abbrev pub after_check : Session
  after_check = record old { store = checked key have d now old.store }

  effect : CheckEffect key heard now old (says.Checked (above have (Some d.identity.version)) (minimum_of key after_check.store.apps)) after_check
  effect = record { deployment = d; told = told; have = have; current = current; replied = refl; is = refl }

  pub check_step : Step now old (Line (Check key) now (record { texts = heard })) (Some (says.Checked (above have (Some d.identity.version)) (minimum_of key after_check.store.apps))) after_check
  check_step = record {
    moment = refl;
    hears = some_there (current_of key old.store.apps) number.0 number.1;
    answer = says.Checked (above have (Some d.identity.version)) (minimum_of key after_check.store.apps);
    replied = refl;
    answers = inr ((tt, passes), effect);
  }

  pub check_answered : (new : Session) × Step now old (Line (Check d.identity.key) now (record { texts = deployment_text d publisher product ∷ [] }))
      (Some (says.Checked (above have (Some d.identity.version)) (minimum_of d.identity.key new.store.apps))) new
  check_answered = (after_check, check_step)
