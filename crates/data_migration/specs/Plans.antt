-- Plans of data files: the names that they have, and the plans that an update has.
use Rattle.std.specs.Prelude.{ℕ, Bool, List, [], ◌∷◌, ◌++◌, ◌&&◌, bytes_eq, flat_map, map, not, if◌then◌else◌}
use Rattle.manifests.specs.declared.facts.FileEntry.{FileEntry}
use Rattle.manifests.specs.Applications.{is_below_pre}
use Rattle.machine.specs.Migrated.{aside, is_fresh, stays}
use Rattle.store_state.specs.declared.view.LocalFile.{LocalFile}
use Rattle.data_migration.specs.declared.plan.LocalPlan.{LocalPlan}
use Rattle.data_migration.specs.declared.plan.LocalPlan.TheVariants.{Copy, Fresh}

-- the name of the data file
abbrev pub plan_name : LocalPlan → List ℕ
plan_name (Copy from to) = to
plan_name (Fresh name) = name

abbrev pub local_names : List LocalFile → List (List ℕ)
local_names files = map (λ file. file.name) files

-- ---- the plans of an update, in no order

-- an old data file keeps its name where it stays, and is kept aside where not
abbrev pub carried_to : Bool → List ℕ → List ℕ
carried_to same name = if same then name else aside name

-- an old data file is carried over, and one below `.pre` is dropped
abbrev pub carried : (List ℕ → Bool) → List ℕ → List LocalPlan
carried stay name = if is_below_pre name then [] else Copy name (carried_to (stay name) name) ∷ []

-- an old data file of the other name stays outside `.pre`, and has the name
abbrev pub is_kept : (List ℕ → Bool) → List ℕ → List ℕ → Bool
is_kept stay name other = bytes_eq other name && not (is_below_pre other) && stay other

-- a deployed data file comes fresh where its name passes the test
abbrev pub fresh_one : (List ℕ → Bool) → FileEntry → List LocalPlan
fresh_one comes entry = if entry.local && comes entry.name then Fresh entry.name ∷ [] else []

abbrev pub planned : List LocalFile → List FileEntry → List FileEntry → List LocalPlan
planned old old_files new_files =
    flat_map (λ file. carried (stays old_files new_files) file.name) old
    ++ flat_map (fresh_one (is_fresh (local_names old) old_files new_files)) new_files
