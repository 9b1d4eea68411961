-- The change that a plan comes to.
use Rattle.std.specs.Prelude.{◌≡◌, ℕ, Bool, false, List, [], ◌∷◌, ◌++◌, length, map, Option, Some, None, slice_get, if◌then◌else◌}
use Rattle.small_types.specs.declared.room.Room.{Room}
use Rattle.file_store.specs.Stores.{draft_blocks}
use Rattle.file_store.specs.declared.draft.Draft.{Draft}
use Rattle.manifests.specs.declared.facts.FileEntry.{FileEntry}
use Rattle.machine.specs.declared.reply.Reply.{Reply}
use Rattle.machine.specs.declared.reply.Reply.TheVariants.{Installed}
use Rattle.machine.specs.Migrated.{deployed}
use Rattle.machine.specs.Shape.{BareData}
use Rattle.machine.specs.Views.{ListedFile}
use Rattle.machine.specs.Wanted.{wanted}
use Rattle.store_state.specs.declared.change.Change.{Change}
use Rattle.store_state.specs.declared.change.Change.TheVariants.{Install}
use Rattle.store_state.specs.declared.view.Content.{Content}
use Rattle.store_state.specs.declared.view.LocalFile.{LocalFile}
use Rattle.store_state.specs.declared.view.View.{View}
use Rattle.store_state.specs.Locals.{local_named}
use Rattle.store_state.specs.Rows.{current_row, row_locals}
use Rattle.store_state.specs.Shows.{shown_data}
use Rattle.store_state.specs.Stored.{content_bytes}
use Rattle.store_state.specs.Tables.{Tables, bare_local, bare_row}
use Rattle.data_migration.specs.declared.plan.LocalPlan.{LocalPlan}
use Rattle.data_migration.specs.declared.plan.LocalPlan.TheVariants.{Copy, Fresh}
use Rattle.data_migration.specs.Migration.{made}
use Rattle.data_migration.specs.Plans.{plan_name}
use Rattle.install_plan.specs.declared.plan.InstallPlan.{InstallPlan}
use Rattle.install_plan.specs.declared.plan.WantedFile.{WantedFile}
use Rattle.install_plan.specs.Carried.{ArePlansFor}

-- ---- what was fetched, by the files that the application lists

-- the files at the places of the wanted ones
abbrev pub listed_at : List FileEntry → List WantedFile → List (Option FileEntry)
listed_at files wanted = map (λ file. slice_get files file.place) wanted

abbrev pub is_data : Option FileEntry → Bool
is_data None = false
is_data (Some entry) = entry.local

-- the contents of program files
abbrev pub program_part : List (Option FileEntry) → List Content → List Content
program_part [] contents = contents
program_part (place ∷ places) [] = []
program_part (place ∷ places) (content ∷ contents) =
    if is_data place then program_part places contents else content ∷ program_part places contents

-- a data file of that content, with the bytes that an image has of it
abbrev pub original_of : Room → List ℕ → Option FileEntry → Content → List ListedFile
original_of room image None content = []
original_of room image (Some entry) content =
    if entry.local
    then record { entry = entry; bytes = content_bytes room image content } ∷ [] else []

-- the data files
abbrev pub data_part :
    Room → List ℕ → List (Option FileEntry) → List Content → List ListedFile
data_part room image [] contents = []
data_part room image (place ∷ places) [] = []
data_part room image (place ∷ places) (content ∷ contents) =
    original_of room image place content ++ data_part room image places contents

-- the same as tables hold them
abbrev pub fetched_local : Option FileEntry → Content → List LocalFile
fetched_local None content = []
fetched_local (Some entry) content =
    if entry.local
    then record { name = entry.name; length = content.size; held = content.held } ∷ [] else []

abbrev pub local_part : List (Option FileEntry) → List Content → List LocalFile
local_part [] contents = []
local_part (place ∷ places) [] = []
local_part (place ∷ places) (content ∷ contents) =
    fetched_local place content ++ local_part places contents

-- ---- what came into drafts

-- the content of a listed file that came into a draft
abbrev pub content_for : FileEntry → Draft → Content
content_for entry draft =
    record { size = entry.size; list = entry.list; held = draft_blocks draft }

-- those of these files, of each the draft at its place
abbrev pub contents_for : List (Option FileEntry) → List Draft → List Content
contents_for [] drafts = []
contents_for (place ∷ places) [] = []
contents_for (None ∷ places) (draft ∷ drafts) = contents_for places drafts
contents_for (Some entry ∷ places) (draft ∷ drafts) =
    content_for entry draft ∷ contents_for places drafts

-- ---- data files

-- how many bytes the data file of a name has, among old ones and among those that a release deploys
abbrev pub length_in : Option LocalFile → ℕ
length_in None = 0
length_in (Some file) = file.length

abbrev pub size_of : Option FileEntry → ℕ
size_of None = 0
size_of (Some entry) = entry.size

abbrev pub made_length : List LocalFile → List FileEntry → LocalPlan → ℕ
made_length old new_files (Copy from to) = length_in (local_named from old)
made_length old new_files (Fresh name) = size_of (deployed new_files name)

-- the data file that a plan makes of the old ones, or of those that the release deploys, but for its
-- bytes
abbrev pub made_bare : List LocalFile → List FileEntry → LocalPlan → BareData
made_bare old new_files plan =
    record { name = plan_name plan; length = made_length old new_files plan }

-- The plans make these data files, by their names and lengths.
abbrev pub AreMade : List LocalFile → List FileEntry → List LocalPlan → List LocalFile → Type 0
AreMade old new_files plans locals = map bare_local locals ≡ map (made_bare old new_files) plans

-- In this image these have the bytes that the plans make of those of the old data files, and of those
-- that were fetched.
abbrev pub HaveMade :
    Room → List ℕ → List LocalFile → List ListedFile → List LocalPlan → List LocalFile → Type 0
HaveMade room image old originals plans locals = map (shown_data room image) locals
    ≡ map (made (map (shown_data room image) old) originals) plans

-- ---- the change

-- Of each wanted file of the plan there is a content. They are those that the tables lack.
pub record HasContents (tables : Tables) (plan : InstallPlan) (contents : List Content)
    : Type 0 where
  pub places : listed_at plan.application.files plan.wanted
      ≡ map Some (wanted (map bare_row tables.views) plan.application)
  pub each : length contents ≡ length plan.wanted

abbrev pub plan_originals : Room → List ℕ → InstallPlan → List Content → List ListedFile
plan_originals room image plan contents =
    data_part room image (listed_at plan.application.files plan.wanted) contents

abbrev pub plan_contents : InstallPlan → List Content → List Content
plan_contents plan contents =
    program_part (listed_at plan.application.files plan.wanted) contents

-- the data files of the view that was current
abbrev pub old_locals : Tables → InstallPlan → List LocalFile
old_locals tables plan = row_locals (current_row plan.deployment.identity.key tables)

-- the new view: the next one, with no group
abbrev pub view_of : Tables → InstallPlan → List LocalFile → View
view_of tables plan locals = record {
  number = tables.next_view;
  deployment = plan.deployment;
  application = plan.application;
  base = plan.base;
  groups = [];
  locals = locals;
}

-- It comes with those of the fetched contents that are of program files, at the moment, and with these
-- data files.
abbrev pub change_of_plan : Tables → InstallPlan → List LocalFile → List Content → ℕ → Change
change_of_plan tables plan locals contents now =
    Install (view_of tables plan locals) (plan_contents plan contents) plan.provider now

-- So it is, where plans make the data files.
pub record IsChangeOf (tables : Tables) (plan : InstallPlan) (contents : List Content) (now : ℕ)
    (change : Change) : Type 0 where
  pub plans : List LocalPlan
  pub are : ArePlansFor tables plan plans
  pub locals : List LocalFile
  pub made : AreMade (old_locals tables plan) plan.application.files plans locals
  pub is : change ≡ change_of_plan tables plan locals contents now

-- In this image its data files have their bytes.
abbrev pub HasLocalsOf : Room → List ℕ → (tables : Tables) (plan : InstallPlan)
    (contents : List Content) (now : ℕ) (change : Change)
    → IsChangeOf tables plan contents now change → Type 0
HasLocalsOf room image tables plan contents now change of =
    HaveMade room image (old_locals tables plan) (plan_originals room image plan contents)
    of.plans of.locals

-- the reply once it is made
abbrev pub installed_of : Tables → InstallPlan → Reply
installed_of tables plan =
    Installed plan.deployment.identity.key plan.deployment.identity.version tables.next_view
