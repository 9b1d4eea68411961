-- What holds of every plan.
use Rattle.std.specs.Prelude.{◌≡◌, ◌≤◌, ℕ, Bool, true, false, List, [], ◌∷◌, ◌++◌, map, length, All, count_by, Option, None, Ok}
use Rattle.std.specs.List.{IsDistinct, list_any}
use Rattle.std.specs.Str.{bytes_eq}
use Rattle.small_types.specs.declared.limits.TheConstants.{FILE_COUNT_LIMIT, LOCAL_COUNT_LIMIT, LOCAL_NAME_LIMIT}
use Rattle.small_types.specs.Name.{IsBelowPre}
use Rattle.publish_plan.specs.declared.options.Options.{Options}
use Rattle.publish_plan.specs.declared.options.PublishPlan.{PublishPlan}
use Rattle.publish_plan.specs.declared.options.PlannedFile.{PlannedFile}
use Rattle.publish_plan.specs.Early.{early_of}
use Rattle.publish_plan.specs.Marks.{is_among}
use Rattle.publish_plan.specs.Places.{lies_below, version_folder, manifest_name, deployment_name, input_names}
use Rattle.publish_plan.specs.Plans.{is_local_file, planned_files, plan_of}

abbrev pub file_of : PlannedFile → List ℕ
file_of file = file.file

abbrev pub target_of : PlannedFile → List ℕ
target_of file = file.target

-- the names that are written, in the order of writing
abbrev pub written_names : PublishPlan → List (List ℕ)
written_names plan = map target_of plan.files ++ plan.manifest ∷ plan.deployment ∷ []

-- a planned file that an application manifest can list: not below `.pre`, a data file's name of at
-- most 235 bytes, and no data file in a group
pub record IsListed (file : PlannedFile) : Type 0 where
  pub above : ¬ IsBelowPre file.file
  pub short : file.local ≡ true → length file.file ≤ LOCAL_NAME_LIMIT
  pub alone : file.local ≡ true → file.group ≡ None

-- it is written in the folder of the version, and what is read for it does not stand there
pub record IsApart (folder : List ℕ) (file : PlannedFile) : Type 0 where
  pub target : lies_below folder file.target ≡ true
  pub source : lies_below folder file.source ≡ false

pub record AreFacts (o : Options) (names : List (List ℕ)) (plan : PublishPlan) : Type 0 where
  pub files : plan.files ≡ planned_files o (input_names o.from names)
  pub manifest : plan.manifest ≡ manifest_name o
  pub deployment : plan.deployment ≡ deployment_name o
  pub few : length plan.files ≤ FILE_COUNT_LIMIT
  pub few_local : count_by is_local_file plan.files ≤ LOCAL_COUNT_LIMIT
  pub listed : All IsListed plan.files
  pub apart : All (IsApart (version_folder o)) plan.files
  pub entry : is_among (map file_of plan.files) o.entry ≡ true
  pub manifest_inside : lies_below (version_folder o) plan.manifest ≡ true
  pub deployment_outside : lies_below (version_folder o) plan.deployment ≡ false
  -- no name that stands lies in the folder of the version
  pub free : All (λ name. lies_below (version_folder o) name ≡ false) names
  pub files_differ : IsDistinct bytes_eq names → IsDistinct bytes_eq (map file_of plan.files)
  pub written_differ : IsDistinct bytes_eq names → IsDistinct bytes_eq (written_names plan)

-- each plan is so
abbrev pub PlansHaveFacts : Type 0
PlansHaveFacts = (o : Options) (names : List (List ℕ)) (plan : PublishPlan)
    → early_of o ≡ None → plan_of o names ≡ Ok plan → AreFacts o names plan
