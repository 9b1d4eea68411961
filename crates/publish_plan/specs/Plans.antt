-- What a publish will write, or its first refusal before a file is read.
use Rattle.std.specs.Prelude.{ℕ, Bool, List, [], ◌∷◌, map, length, find, count_by, ◌&&◌, ◌||◌, not, nat_lt, Option, Some, None, option_map, Result, Ok, Err, if◌then◌else◌}
use Rattle.std.specs.List.{list_any}
use Rattle.std.specs.Str.{bytes_eq}
use Rattle.small_types.specs.declared.limit.Limit.TheVariants.{Files, Locals}
use Rattle.small_types.specs.declared.limits.TheConstants.{FILE_COUNT_LIMIT, LOCAL_COUNT_LIMIT, LOCAL_NAME_LIMIT, NAME_LIMIT}
use Rattle.small_types.specs.Outcome.{◌>>=◌}
use Rattle.manifests.specs.Applications.{is_below_pre}
use Rattle.publish_plan.specs.declared.fault.PlanFault.{PlanFault}
use Rattle.publish_plan.specs.declared.fault.PlanFault.TheVariants.{VersionExists, EmptyInput, BadInput, TooMany, NoEntryPoint, BadMark}
use Rattle.publish_plan.specs.declared.options.Options.{Options}
use Rattle.publish_plan.specs.declared.options.PublishPlan.{PublishPlan}
use Rattle.publish_plan.specs.declared.options.PlannedFile.{PlannedFile}
use Rattle.publish_plan.specs.Marks.{is_marked, is_data, group_of, is_among, bad_mark}
use Rattle.publish_plan.specs.Outcome.{Read, unless}
use Rattle.publish_plan.specs.Places.{within, lies_below, version_folder, target_name, manifest_name, deployment_name, input_names}

-- no file stands in the folder of the version, or the first that does
abbrev pub standing : Options → List (List ℕ) → Read (Unit {0})
standing o names = unless (option_map VersionExists (find (lies_below (version_folder o)) names))

-- some file is published
abbrev pub some_input : Options → List (List ℕ) → Read (Unit {0})
some_input o names = if list_any (lies_below o.from) names then Ok tt else Err EmptyInput

-- The first part of the name is `.pre`, the written name has more than 240 bytes, the name of a
-- data file has more than 235, or the written name is that of the application manifest.
unfoldable pub is_bad_input : Options → List ℕ → Bool
is_bad_input o file =
    is_below_pre file
    || (nat_lt NAME_LIMIT (length (target_name o file))
    || (is_data o.marks file && nat_lt LOCAL_NAME_LIMIT (length file)))
    || bytes_eq (target_name o file) (manifest_name o)

abbrev pub fit_inputs : Options → List (List ℕ) → Read (Unit {0})
fit_inputs o inputs = unless (option_map BadInput (find (is_bad_input o) inputs))

-- a file as it will be written
unfoldable pub planned : Options → List ℕ → PlannedFile
planned o file = record {
  source = within o.from file;
  file = file;
  target = target_name o file;
  group = group_of o.marks file;
  local = is_data o.marks file;
}

-- a file as it will be written, where it can be
abbrev pub fitting : Options → List ℕ → Read PlannedFile
fitting o file = if is_bad_input o file then Err (BadInput file) else Ok (planned o file)

abbrev pub is_local_file : PlannedFile → Bool
is_local_file file = file.local

-- at most 16,384 files, and at most 256 data files
abbrev pub few : List PlannedFile → Read (Unit {0})
few files =
    if nat_lt FILE_COUNT_LIMIT (length files) then Err (TooMany Files) else
    if nat_lt LOCAL_COUNT_LIMIT (count_by is_local_file files) then Err (TooMany Locals) else Ok tt

-- the file that is started is published, and has no mark
abbrev pub with_entry : Options → List (List ℕ) → Read (Unit {0})
with_entry o inputs =
    if is_among inputs o.entry && not (is_marked o.marks o.entry) then Ok tt else Err NoEntryPoint

-- each mark names a file that no earlier one named
abbrev pub good_marks : Options → List (List ℕ) → Read (Unit {0})
good_marks o inputs = unless (option_map BadMark (bad_mark inputs [] o.marks))

abbrev pub planned_files : Options → List (List ℕ) → List PlannedFile
planned_files o inputs = map (planned o) inputs

-- the plan for these files, or the first refusal of them
unfoldable pub plan_for : Options → List (List ℕ) → Read PublishPlan
plan_for o inputs = do
  fit ← fit_inputs o inputs
  counted ← few (planned_files o inputs)
  started ← with_entry o inputs
  marked ← good_marks o inputs
  Ok (record {
    files = planned_files o inputs;
    manifest = manifest_name o;
    deployment = deployment_name o;
  })

-- the plan over a folder with these names, or the first refusal
unfoldable pub plan_of : Options → List (List ℕ) → Read PublishPlan
plan_of o names = do
  free ← standing o names
  some ← some_input o names
  plan_for o (input_names o.from names)
