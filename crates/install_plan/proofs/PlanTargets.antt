-- A plan's addresses are what the install asks for.
use Rattle.std.proofs.Common.{◌≡◌, ◌∙◌, inl, inr, refl, sym, ap, ℕ, List, [], ◌∷◌, Ok, map}
use Rattle.std.specs.Prelude.{Result}
use Rattle.small_types.specs.declared.target.Target.{Target}
use Rattle.addresses.specs.declared.fault.UrlFault.{UrlFault}
use Rattle.addresses.specs.Address.{target_of_text}
use Rattle.addresses.specs.Join.{file_target_of}
use Rattle.manifests.specs.declared.facts.Application.{Application}
use Rattle.manifests.specs.declared.facts.Deployment.{Deployment}
use Rattle.machine.specs.Asked.{AsksApplication, AsksFiles, AsksInstall}
use Rattle.machine.specs.InstallRow.{base_of}
use Rattle.machine.specs.Shape.{Shape}
use Rattle.machine.specs.Wanted.{wanted}
use Rattle.install_plan.specs.declared.plan.InstallPlan.{InstallPlan}
use Rattle.install_plan.specs.Plans.{IsPlan, targets_of}
use Rattle.install_plan.proofs.Told.{base_is, deployment_is, deployment_of_release, ok_one, release_is, release_map}

pub same_oks : (xs ys : List Target) → ◌≡◌ {A = List (Result Target UrlFault)} (map Ok xs) (map Ok ys) → xs ≡ ys
same_oks [] [] e = refl
same_oks [] (y ∷ ys) e = cc
same_oks (x ∷ xs) [] e = cc
same_oks (x ∷ xs) (y ∷ ys) e =
    let first : x ≡ y = cc in
    let rest : ◌≡◌ {A = List (Result Target UrlFault)} (map Ok xs) (map Ok ys) = cc in
    let others : xs ≡ ys = same_oks xs ys rest in
    cc

-- the addresses of the files that an application wants, where it lies
abbrev pub file_targets : Shape → Target → Deployment → Application → List (Result Target UrlFault)
file_targets shape base d a = map (λ entry. file_target_of base d.mapped entry.name) (wanted shape.views a)

module _ (shape : Shape) (url : List ℕ) (texts : List (List ℕ)) (plan : InstallPlan)
    (is : IsPlan shape url texts plan) where
  base_of_plan : (d : Deployment) → d ≡ plan.deployment → base_of url d ≡ Ok plan.base
  base_of_plan d same = ap (λ (x : Deployment). base_of url x) same ∙ base_is url plan.deployment plan.url (Ok plan.base) is.read is.joined

  files_of_plan : (d : Deployment) (a : Application) → d ≡ plan.deployment → a ≡ plan.application → file_targets shape plan.base d a ≡ map Ok (targets_of plan)
  files_of_plan d a same_d same_a =
      ap (λ (x : Deployment). file_targets shape plan.base x a) same_d
      ∙ ap (λ (x : Application). file_targets shape plan.base plan.deployment x) same_a ∙ is.targets

  asks_files : AsksFiles url texts shape (targets_of plan)
  asks_files = inr (is.release, release_map texts (λ d a same. (plan.base, base_of_plan d same.0, files_of_plan d a same.0 same.1)) is.told)

  pub plan_asks : AsksInstall url texts shape (plan.url ∷ plan.base ∷ targets_of plan)
  plan_asks = inr (plan.url, plan.base ∷ targets_of plan, refl, is.read, inr (is.deployment, (plan.base, targets_of plan, refl, deployment_of_release texts (λ d a same. base_of_plan d same.0) is.told, asks_files)))

  -- ---- and nothing else

  files_only : (asked : List Target) → AsksFiles url texts shape asked → asked ≡ targets_of plan
  files_only asked (inl refused) = absurd (refused.0 is.release)
  files_only asked (inr asks) =
      let both = release_is texts is.told asks.1 in
      let found = both.3 in
      let base : found.0 ≡ plan.base = ok_one (base_of url both.0) found.0 plan.base found.1 (base_of_plan both.0 both.2.0) in
      same_oks asked (targets_of plan)
      (sym found.2 ∙ ap (λ (t : Target). file_targets shape t both.0 both.1) base ∙ files_of_plan both.0 both.1 both.2.0 both.2.1)

  application_only : (asked : List Target) → AsksApplication url texts shape asked → asked ≡ plan.base ∷ targets_of plan
  application_only asked (inl refused) = absurd (refused.0 is.deployment)
  application_only asked (inr asks) =
      let found = asks.1 in
      let both = deployment_is texts (deployment_of_release {Q = λ d. d ≡ plan.deployment} texts (λ d a same. same.0) is.told) found.3 in
      let base : found.0 ≡ plan.base = ok_one (base_of url both.0) found.0 plan.base both.2 (base_of_plan both.0 both.1) in
      let rest : found.1 ≡ targets_of plan = files_only found.1 found.4 in
      found.2 ∙ ap (λ (t : Target). t ∷ found.1) base ∙ ap (λ (ts : List Target). plan.base ∷ ts) rest

  pub plan_asks_only : (asked : List Target) → AsksInstall url texts shape asked → asked ≡ plan.url ∷ plan.base ∷ targets_of plan
  plan_asks_only asked (inl refused) = absurd (refused.0 is.address)
  plan_asks_only asked (inr asks) =
      let target : asks.0 ≡ plan.url = ok_one (target_of_text url) asks.0 plan.url asks.3 is.read in
      let rest : asks.1 ≡ plan.base ∷ targets_of plan = application_only asks.1 asks.4 in
      asks.2 ∙ ap (λ (t : Target). t ∷ asks.1) target ∙ ap (λ (ts : List Target). plan.url ∷ ts) rest
