-- How many bytes of files a command may write: what it fetches, from each link once more, and what an
-- install carries over.
use Rattle.std.specs.Prelude.{◌≡◌, ◌⊎◌, ℕ, ◌+◌, ◌*◌, ◌≤◌, List, ◌++◌, map, not, sum_by, Ok, Result, if◌then◌else◌}
use Rattle.small_types.specs.declared.target.Target.{Target}
use Rattle.addresses.specs.declared.fault.UrlFault.{UrlFault}
use Rattle.addresses.specs.Join.{file_target_of}
use Rattle.identity.specs.declared.key.Key.{Key}
use Rattle.manifests.specs.declared.facts.FileEntry.{FileEntry}
use Rattle.manifests.specs.Applications.{is_below_pre}
use Rattle.links.specs.Links.{LinksState, sources_of}
use Rattle.machine.specs.Current.{bare_data_of, current_bare}
use Rattle.machine.specs.GroupRow.{OfComing}
use Rattle.machine.specs.Groups.{group_wanted}
use Rattle.machine.specs.InstallRow.{OfRelease}
use Rattle.machine.specs.Shape.{BareData, Shape}
use Rattle.machine.specs.Wanted.{wanted}

-- The first of these files were asked for, after anything else that was. They have so many bytes at
-- most, as often as there were links.
pub record AskedCost (wants : List FileEntry) (address : FileEntry → Result Target UrlFault)
    (before after : LinksState) (most : ℕ) : Type 0 where
  pub asked : List FileEntry
  pub others : List FileEntry
  pub split : wants ≡ asked ++ others
  pub since : List Target
  pub targets : List Target
  pub named : map address asked ≡ map Ok targets
  pub grown : after.asked ≡ before.asked ++ (since ++ targets)
  pub within : most ≤ sources_of before * sum_by (λ entry. entry.size) asked

-- the bytes of the data files that an update carries over
abbrev pub carried_bytes : Key → Shape → ℕ
carried_bytes key shape =
    sum_by (λ (file : BareData). if not (is_below_pre file.name) then file.length else 0)
    (bare_data_of (current_bare key shape))

-- An install writes nothing, or files of the release that it heard of, and those that it carries over.
abbrev pub IsInstallCost : Shape → List (List ℕ) → LinksState → LinksState → ℕ → Type 0
IsInstallCost shape texts before after most = (most ≡ 0) ⊎ OfRelease texts (λ d a.
    (base : Target) × (fetched : ℕ)
    × AskedCost (wanted shape.views a) (λ entry. file_target_of base d.mapped entry.name)
    before after fetched
    × (most ≤ fetched + carried_bytes d.identity.key shape))

-- a group writes nothing, or files of the group
abbrev pub IsGroupCost : ℕ → List ℕ → Shape → LinksState → LinksState → ℕ → Type 0
IsGroupCost lease group shape before after most = (most ≡ 0) ⊎ OfComing lease group shape (λ view.
    AskedCost (group_wanted shape.views group view.application)
    (λ entry. file_target_of view.base view.deployment.mapped entry.name) before after most)
