-- What an install comes to once its manifests are heard, or why it is refused.
use Rattle.std.specs.Prelude.{◌≡◌, ◌⊎◌, ℕ, List, [], ◌∷◌, map, slice_get, Some, Ok}
use Rattle.small_types.specs.declared.target.Target.{Target}
use Rattle.addresses.specs.Address.{target_of_text}
use Rattle.addresses.specs.Join.{app_target_of, file_target_of}
use Rattle.machine.specs.declared.reply.Reply.{Reply}
use Rattle.machine.specs.declared.reply.Reply.TheVariants.{Memory}
use Rattle.machine.specs.InstallRow.{HearsRelease, OfRelease, address_refusals, deployment_refusals, install_refusals, release_refusals}
use Rattle.machine.specs.Installed.{IsProvidedBy}
use Rattle.machine.specs.Machine.{moment_after}
use Rattle.machine.specs.Rows.{PassesAll, Refuses}
use Rattle.machine.specs.Shape.{Shape}
use Rattle.machine.specs.Store.{Session}
use Rattle.machine.specs.Wanted.{wanted}
use Rattle.links.specs.Links.{LinksState}
use Rattle.fetcher.specs.Fetched.{Kept}
use Rattle.install_plan.specs.declared.plan.InstallPlan.{InstallPlan}
use Rattle.install_plan.specs.Downs.{CountsDowns}
use Rattle.install_plan.specs.InstallHeard.{InstallHeard, InstallServed}

-- the addresses of the files that it fetches
abbrev pub targets_of : InstallPlan → List Target
targets_of plan = map (λ file. file.target) plan.wanted

-- The texts tell the release, whose addresses these are, and no refusal holds but one at a file. The
-- wanted files are those at the places, each with its address.
pub record IsPlan (shape : Shape) (url : List ℕ) (texts : List (List ℕ)) (plan : InstallPlan)
    : Type 0 where
  pub told : OfRelease texts (λ d a. (d ≡ plan.deployment) × (a ≡ plan.application))
  pub read : target_of_text url ≡ Ok plan.url
  pub joined : app_target_of plan.url plan.deployment.codebase ≡ Ok plan.base
  pub provided : IsProvidedBy plan.url plan.deployment.provider plan.provider
  pub places : map (λ file. slice_get plan.application.files file.place) plan.wanted
      ≡ map Some (wanted shape.views plan.application)
  pub targets :
      map (λ entry. file_target_of plan.base plan.deployment.mapped entry.name)
      (wanted shape.views plan.application)
      ≡ map Ok (targets_of plan)
  pub address : PassesAll (address_refusals url)
  pub deployment : PassesAll (deployment_refusals url texts shape)
  pub release : PassesAll (release_refusals url texts shape)

-- both manifests were heard, and there is a plan; nothing else was asked for
pub record IsPlanned (shape : Shape) (url : List ℕ) (texts : List (List ℕ))
    (before after : LinksState) (plan : InstallPlan) : Type 0 where
  pub hears : HearsRelease url shape texts
  pub is : IsPlan shape url texts plan
  pub hearing : InstallHeard shape url texts before after
  pub asked : hearing.asked ≡ plan.url ∷ plan.base ∷ []

-- It found no memory, or the reply is its first refusal.
pub record IsRefused (shape : Shape) (url : List ℕ) (texts : List (List ℕ))
    (before after : LinksState) (reply : Reply) : Type 0 where
  pub hears : HearsRelease url shape texts
  pub kept : Kept before after
  pub still : (now : ℕ) → moment_after now (Some reply) ≡ now
  pub refused : (reply ≡ Memory) ⊎ ((old : Session)
      → Refuses (install_refusals url texts shape) old reply old)
  pub served : InstallServed shape url texts before after reply
  pub downs : CountsDowns before after reply
