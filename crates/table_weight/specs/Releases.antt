-- How much the parts of a release weigh that comes.
use Rattle.std.specs.Prelude.{ℕ, ◌+◌, Bool, ◌&&◌, List, None, sum_by, if◌then◌else◌}
use Rattle.small_types.specs.declared.target.Target.{Target}
use Rattle.manifests.specs.declared.facts.Application.{Application}
use Rattle.manifests.specs.declared.facts.Deployment.{Deployment}
use Rattle.manifests.specs.declared.facts.FileEntry.{FileEntry}
use Rattle.manifests.specs.Applications.{is_below_pre}
use Rattle.machine.specs.declared.weights.TheConstants.{VIEW_WEIGHT}
use Rattle.machine.specs.Blocks.{deployed_data}
use Rattle.machine.specs.Weight.{application_bytes, content_weight, data_weight, deployment_bytes, digests_weight, file_weight, target_bytes}
use Rattle.store_state.specs.declared.view.LocalFile.{LocalFile}
use Rattle.data_migration.specs.Plans.{carried_to}

-- a view, by its manifests and the address of the second one alone
abbrev pub release_weight : Deployment → Application → Target → ℕ
release_weight d a base =
    VIEW_WEIGHT + deployment_bytes d + application_bytes a + target_bytes base
    + digests_weight d.app_list + sum_by file_weight a.files

-- ---- files whose bytes come

-- a file of a group as one that each view has
abbrev pub without_group : FileEntry → FileEntry
without_group entry = record entry { group = None }

-- what comes of it among contents: a data file has none
abbrev pub program_weight : FileEntry → ℕ
program_weight entry = if entry.local then 0 else content_weight entry

-- ---- data files

-- an old data file in the new view, where these names stay; one below `.pre` is dropped
abbrev pub carried_weight : (List ℕ → Bool) → LocalFile → ℕ
carried_weight stay file =
    if is_below_pre file.name then 0
    else data_weight (record { name = carried_to (stay file.name) file.name; length = file.length })

-- a listed file, where it is a data file whose name passes the test
abbrev pub fresh_weight : (List ℕ → Bool) → FileEntry → ℕ
fresh_weight comes entry =
    if entry.local && comes entry.name then data_weight (deployed_data entry) else 0
