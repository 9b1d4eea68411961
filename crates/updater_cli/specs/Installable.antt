-- When an install is made: the whole list of what it needs, and what it then answers.
use Rattle.std.specs.Prelude.{◌≡◌, ◌⊎◌, ◌<◌, ◌≤◌, ℕ, Bool, List, length, All, Option, Some, None, IfSome, IsSomeAnd, Ok}
use Rattle.small_types.specs.declared.limits.TheConstants.{APPLICATION_LIMIT, FILE_COUNT_LIMIT, LOCAL_COUNT_LIMIT, MANIFEST_LIMIT, NUMBER_LIMIT, VIEW_LIMIT}
use Rattle.small_types.specs.declared.target.Target.{Target}
use Rattle.addresses.specs.Address.{target_of_text}
use Rattle.addresses.specs.Join.{app_target_of, file_target_of}
use Rattle.identity.specs.Version.{IsBelow}
use Rattle.manifest_parts.specs.Parts.{Tells}
use Rattle.manifests.specs.declared.facts.Application.{Application}
use Rattle.manifests.specs.declared.facts.Deployment.{Deployment}
use Rattle.manifests.specs.declared.facts.FileEntry.{FileEntry}
use Rattle.manifests.specs.Deployments.{deployment_of}
use Rattle.manifests.specs.Releases.{IsRelease}
use Rattle.links.specs.Links.{LinksState}
use Rattle.fetcher.specs.Given.{GivenFile, GivenText}
use Rattle.machine.specs.declared.command.Command.TheVariants.{Install}
use Rattle.machine.specs.declared.event.Event.{Event}
use Rattle.machine.specs.declared.event.Event.TheVariants.{Line}
use Rattle.machine.specs.declared.reply.Reply.{Reply}
use Rattle.machine.specs.declared.reply.Reply.TheVariants as says
use Rattle.machine.specs.Blocks.{free_blocks}
use Rattle.machine.specs.Current.{current_version}
use Rattle.machine.specs.Entries.{entry_of}
use Rattle.machine.specs.InstallRow.{IsWeightOf, files_after, locals_after}
use Rattle.machine.specs.Minimums.{minimum_of}
use Rattle.machine.specs.Shape.{Shape, shape_of}
use Rattle.machine.specs.Store.{Session}
use Rattle.machine.specs.Wanted.{install_need, wanted}
use Rattle.machine.specs.Weight.{IsLight}

-- ---- what the links have

-- the file has an address beside the application manifest, and the links give it there
pub record HasFile (links : LinksState) (base : Target) (mapped : Bool) (entry : FileEntry)
    : Type 0 where
  pub target : Target
  pub at : file_target_of base mapped entry.name ≡ Ok target
  pub bytes : List ℕ
  pub given : GivenFile entry.list entry.size links target (Some bytes)

-- ---- what an install needs

-- by the links as its line begins, and as it ends
pub record CanInstall (links after : LinksState) (shape : Shape) (url : List ℕ) : Type 0 where
  -- The URL is an address, and there the links give a deployment manifest.
  pub target : Target
  pub address : target_of_text url ≡ Ok target
  pub text : List ℕ
  pub given : GivenText MANIFEST_LIMIT links target (Some text)
  pub deployment : Deployment
  pub tells : Tells deployment_of text (Ok deployment)
  -- It leads to an address, and there they give the application manifest that it lists. The two are
  -- one release.
  pub base : Target
  pub joined : app_target_of target deployment.codebase ≡ Ok base
  pub app_text : List ℕ
  pub app_given : GivenFile deployment.app_list deployment.app_size links base (Some app_text)
  pub application : Application
  pub release : IsRelease deployment application app_text
  -- Each file that has to be fetched has an address, and there the links give it that are left.
  pub wanted_files : All (HasFile after base deployment.mapped) (wanted shape.views application)
  -- The version is above the current one, and not below the minimum, where there are such.
  pub newer : IfSome (current_version deployment.identity.key shape)
      (λ have. IsBelow have deployment.identity.version)
  pub reaches : IfSome (minimum_of deployment.identity.key shape.apps)
      (λ minimum. ¬ IsBelow deployment.identity.version minimum)
  -- There is a place for one more application, where it is new, and for one more view, which has a
  -- number.
  pub few_applications : entry_of deployment.identity.key shape.apps ≡ None
      → length shape.apps < APPLICATION_LIMIT
  pub few_views : length shape.views < VIEW_LIMIT
  pub number : shape.next_view < NUMBER_LIMIT
  -- There is a place for its files and its data files.
  pub few_files : files_after shape application ≤ FILE_COUNT_LIMIT
  pub few_data : locals_after shape deployment application ≤ LOCAL_COUNT_LIMIT
  -- There are as many blocks as it needs, and the tables have room for what they then weigh.
  pub blocks : install_need shape deployment application ≤ free_blocks shape
  pub light : (weight : ℕ) → IsWeightOf url shape deployment application weight
      → IsLight shape.room weight

-- ---- what it answers

-- the release was installed, as the view of this number; or there was no memory
abbrev pub IsInstalledOrMemory : Deployment → ℕ → Reply → Type 0
IsInstalledOrMemory d number reply =
    (reply ≡ says.Installed d.identity.key d.identity.version number) ⊎ (reply ≡ says.Memory)

-- an install that can be made is answered so
abbrev pub InstallsWhereItCan :
    LinksState → LinksState → Event → Option Reply → Session → Type 0
InstallsWhereItCan before after (Line (Install url) now heard) reply old =
    (can : CanInstall before after (shape_of old) url)
    → IsSomeAnd reply (IsInstalledOrMemory can.deployment old.store.next_view)
InstallsWhereItCan before after _ reply old = Unit {0}
