-- Which releases may be installed in a session.
use Rattle.std.specs.Prelude.{◌≡◌, ◌<◌, ◌≤◌, ℕ, List, All, IsOk, length, Some, Ok}
use Rattle.small_types.specs.declared.limits.TheConstants.{FILE_COUNT_LIMIT, LOCAL_COUNT_LIMIT, NUMBER_LIMIT, VIEW_LIMIT}
use Rattle.small_types.specs.declared.target.Target.{Target}
use Rattle.addresses.specs.Address.{target_of_text}
use Rattle.addresses.specs.Join.{app_target_of, file_target_of}
use Rattle.identity.specs.declared.version.Version.{Version}
use Rattle.identity.specs.Version.{IsBelow}
use Rattle.manifests.specs.declared.facts.Application.{Application}
use Rattle.manifests.specs.declared.facts.Deployment.{Deployment}
use Rattle.machine.specs.Blocks.{free_blocks}
use Rattle.machine.specs.Current.{current_version}
use Rattle.machine.specs.Installed.{IsProvidedBy}
use Rattle.machine.specs.InstallRow.{LacksEntry, files_after, locals_after, weight_installed}
use Rattle.machine.specs.Minimums.{minimum_of}
use Rattle.machine.specs.Shape.{Shape}
use Rattle.machine.specs.Wanted.{install_need, wanted}
use Rattle.machine.specs.Weight.{IsTooHeavy}

-- An install from the address may bring this release: its address, that of its application manifest
-- and the one that updates come from are addresses, and so are those of the files that are fetched;
-- its version is above the current one and not below the minimum; and there is room for one more
-- view, for its files and for what the tables have of it.
pub record IsInstallable (url : List ℕ) (shape : Shape) (d : Deployment) (a : Application)
    : Type 0 where
  pub target : Target
  pub read : target_of_text url ≡ Ok target
  pub base : Target
  pub joined : app_target_of target d.codebase ≡ Ok base
  pub provider : Target
  pub provided : IsProvidedBy target d.provider provider
  pub addresses : All (λ entry. IsOk (file_target_of base d.mapped entry.name))
      (wanted shape.views a)
  pub newer : (have : Version) → current_version d.identity.key shape ≡ Some have
      → IsBelow have d.identity.version
  pub reached : (minimum : Version) → minimum_of d.identity.key shape.apps ≡ Some minimum
      → ¬ IsBelow d.identity.version minimum
  pub entry : ¬ LacksEntry shape d
  pub views : length shape.views < VIEW_LIMIT
  pub number : shape.next_view < NUMBER_LIMIT
  pub files : files_after shape a ≤ FILE_COUNT_LIMIT
  pub locals : locals_after shape d a ≤ LOCAL_COUNT_LIMIT
  pub blocks : install_need shape d a ≤ free_blocks shape
  pub tables : ¬ IsTooHeavy shape.room (weight_installed provider base d a shape)
