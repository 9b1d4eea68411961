-- Each end of the hearing, by what its calls promised.
use Rattle.std.proofs.Common.{◌≡◌, ◌∙◌, ◌++◌, ◌<◌, ◌^◌, ℕ, refl, sym, ap, subst, List, [], ◌∷◌, Some, Ok, map, arith}
use Rattle.std.specs.Prelude.{IfSome, Result, slice_get}
use Rattle.small_types.specs.declared.limits.TheConstants.{MANIFEST_LIMIT}
use Rattle.small_types.specs.declared.target.Target.{Target}
use Rattle.addresses.specs.declared.fault.UrlFault.{UrlFault}
use Rattle.addresses.specs.Address.{target_of_text}
use Rattle.addresses.specs.Join.{app_target_of, file_target_of}
use Rattle.digest_list.specs.Matches.{Matches}
use Rattle.manifests.specs.declared.facts.Application.{Application}
use Rattle.manifests.specs.declared.facts.Deployment.{Deployment}
use Rattle.manifests.specs.Applications.{application_of}
use Rattle.manifests.specs.Deployments.{deployment_of}
use Rattle.manifests.specs.Facts.{IsProvider}
use Rattle.machine.specs.declared.reply.Reply.{Reply}
use Rattle.machine.specs.Fields.{IsApplication}
use Rattle.machine.specs.Installed.{IsProvidedBy}
use Rattle.machine.specs.Rows.{PassesAll}
use Rattle.machine.specs.Shape.{Shape}
use Rattle.machine.specs.Wanted.{wanted}
use Rattle.machine.proofs.ReadApplications.{application_read}
use Rattle.machine.proofs.ReadDeployments.{deployment_read}
use Rattle.links.specs.Links.{LinksState}
use Rattle.fetcher.specs.Causes.{IsFileCause, IsTextCause}
use Rattle.fetcher.specs.Fetched.{IsThis, KeptAll, KeptBut}
use Rattle.fetcher.specs.Given.{FitsText}
use Rattle.install_plan.specs.declared.plan.InstallPlan.{InstallPlan}
use Rattle.install_plan.specs.declared.plan.WantedFile.{WantedFile}
use Rattle.install_plan.specs.Judges.{Refused, address_checks, deployment_checks, release_checks}
use Rattle.install_plan.specs.Plans.{IsPlanned, IsRefused}
use Rattle.install_plan.specs.Stages.{HearsOne, StopsOne}
use Rattle.install_plan.proofs.Ends.{address_end, application_end, deployment_end, ended, judged_end, plan_end, release_end}

oks : (ws : List WantedFile) → ◌≡◌ {A = List (Result Target UrlFault)} (map Ok (map (λ file. file.target) ws)) (map (λ file. Ok file.target) ws)
oks [] = refl
oks (w ∷ ws) = ap (λ (rs : List (Result Target UrlFault)). Ok w.target ∷ rs) (oks ws)

-- the size that was heard can be hashed
pub size_below : {Fits : List ℕ → Type 0} {target : Target} {a b : LinksState} {old new : List (List ℕ)} {d : Deployment} → HearsOne deployment_of Fits target a b old new d → d.app_size < 2 ^ 61
size_below {d = d} hears = let is = deployment_read hears.text d hears.tells in let most = is.facts.app_size in omega arith

-- what it gives as provider was read as an address
pub provider_read : {Fits : List ℕ → Type 0} {target : Target} {a b : LinksState} {old new : List (List ℕ)} {d : Deployment} → HearsOne deployment_of Fits target a b old new d → IfSome d.provider IsProvider
provider_read {d = d} hears = (deployment_read hears.text d hears.tells).facts.provider

-- one text more stands at the end
grown : (text : List ℕ) {front old new : List (List ℕ)} → new ≡ old ++ text ∷ [] → old ≡ front → new ≡ front ++ text ∷ []
grown text noted same = noted ∙ ap (λ (ts : List (List ℕ)). ts ++ text ∷ []) same

module _ {shape : Shape} {url : List ℕ} {a : LinksState} {none : List (List ℕ)} (empty : none ≡ []) where
  pub at_address : {reply : Reply} → Refused (address_checks (target_of_text url)) reply → IsRefused shape url none a a reply
  at_address {reply = reply} refused = subst (λ (ts : List (List ℕ)). IsRefused shape url ts a a reply) (sym empty) (ended (address_end shape url a reply refused))

  module _ {target : Target} (read : target_of_text url ≡ Ok target) {b : LinksState} (one : KeptAll a b) {first : List (List ℕ)} where
    pub at_deployment : {reply : Reply} → StopsOne deployment_of (IsTextCause MANIFEST_LIMIT target) (FitsText MANIFEST_LIMIT) target a b none first reply → IsRefused shape url first a b reply
    at_deployment {reply = reply} stops = ended (deployment_end shape url target read a b one first reply
        (subst (λ (ts : List (List ℕ)). StopsOne deployment_of (IsTextCause MANIFEST_LIMIT target) (FitsText MANIFEST_LIMIT) target a b ts first reply) empty stops))

    module _ {d : Deployment} (hears : HearsOne deployment_of (FitsText MANIFEST_LIMIT) target a b none first d) where
      pub at_judgement : {reply : Reply} → Refused (deployment_checks shape d (app_target_of target d.codebase)) reply → IsRefused shape url first a b reply
      at_judgement {reply = reply} refused = subst (λ (ts : List (List ℕ)). IsRefused shape url ts a b reply) (sym (grown hears.text hears.noted empty))
          (ended (judged_end shape url target read a b one hears.text d hears.got hears.tells reply refused))

      module _ {base : Target} (joined : app_target_of target d.codebase ≡ Ok base) (passed : PassesAll (deployment_checks shape d (app_target_of target d.codebase)))
          {c : LinksState} (two : KeptBut (IsThis base d.app_list d.app_size) b c) {both : List (List ℕ)} where
        pub at_application : {reply : Reply} → StopsOne application_of (IsFileCause d.app_list d.app_size base) (Matches d.app_list d.app_size) base b c first both reply → IsRefused shape url both a c reply
        at_application {reply = reply} stops = ended (application_end shape url target read a b one hears.text d hears.got hears.tells base joined passed c two both reply
            (subst (λ (ts : List (List ℕ)). StopsOne application_of (IsFileCause d.app_list d.app_size base) (Matches d.app_list d.app_size) base b c ts both reply) (grown hears.text hears.noted empty) stops))

        module _ {app : Application} (second : HearsOne application_of (Matches d.app_list d.app_size) base b c first both app) where
          pub at_release : {reply : Reply} → (target_of_text url ≡ Ok target → app_target_of target d.codebase ≡ Ok base → IsApplication app → Refused (release_checks url shape d app) reply) → IsRefused shape url both a c reply
          at_release {reply = reply} refused = subst (λ (ts : List (List ℕ)). IsRefused shape url ts a c reply) (sym (grown second.text second.noted (grown hears.text hears.noted empty)))
              (ended (release_end shape url target read a b one hears.text d hears.got hears.tells base joined passed c two second.text second.got app second.tells reply (refused read joined (application_read second.text app second.tells))))

          pub at_plan : {provider : Target} {files : List WantedFile} → IsProvidedBy target d.provider provider
              → map (λ file. slice_get app.files file.place) files ≡ map Some (wanted shape.views app)
              → map (λ entry. file_target_of base d.mapped entry.name) (wanted shape.views app) ≡ map (λ file. Ok file.target) files
              → (target_of_text url ≡ Ok target → app_target_of target d.codebase ≡ Ok base → IsApplication app → PassesAll (release_checks url shape d app)) → IsPlanned shape url both a c (record { deployment = d; application = app; url = target; base = base; provider = provider; wanted = files })
          at_plan {provider = provider} {files = files} provided places targets last =
              let plan : InstallPlan = record { deployment = d; application = app; url = target; base = base; provider = provider; wanted = files } in
              subst (λ (ts : List (List ℕ)). IsPlanned shape url ts a c plan) (sym (grown second.text second.noted (grown hears.text hears.noted empty)))
              (plan_end shape url target read a b one hears.text d hears.got hears.tells base joined passed c two second.text second.got app second.tells plan refl refl refl refl provided places (targets ∙ sym (oks files)) (last read joined (application_read second.text app second.tells)))
