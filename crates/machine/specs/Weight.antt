-- How much the tables of a store weigh: so much for each thing that they have, and the bytes of its
-- texts.
use Rattle.std.specs.Prelude.{◌≢◌, ◌<◌, ◌^◌, ℕ, ◌+◌, ◌-◌, ◌*◌, List, Option, Some, None, length, min, sum_by}
use Rattle.small_types.specs.declared.room.Room.{Room}
use Rattle.small_types.specs.declared.target.Target.{Target}
use Rattle.identity.specs.declared.identity.Identity.{Identity}
use Rattle.identity.specs.declared.key.Key.{Key}
use Rattle.digest_list.specs.declared.digest.Digest.{Digest}
use Rattle.manifests.specs.declared.facts.Application.{Application}
use Rattle.manifests.specs.declared.facts.Deployment.{Deployment}
use Rattle.manifests.specs.declared.facts.FileEntry.{FileEntry}
use Rattle.machine.specs.declared.app.AppState.{AppState}
use Rattle.machine.specs.declared.weights.TheConstants.{APP_WEIGHT, BLOCK_WEIGHT, CHANGE_ROOM, CONTENT_WEIGHT, DIGEST_WEIGHT, FILE_WEIGHT, GROUP_WEIGHT, LOCAL_WEIGHT, STATE_WEIGHT, VIEW_WEIGHT}
use Rattle.machine.specs.Blocks.{blocks_of, distinct, standing_files}
use Rattle.machine.specs.Shape.{BareData, BareView}

-- ---- the bytes of texts

-- what is there counts, and nothing where nothing is there
abbrev pub counted : {X : Type 0} → (X → ℕ) → Option X → ℕ
counted count None = 0
counted count (Some x) = count x

unfoldable pub key_bytes : Key → ℕ
key_bytes key =
    length key.name + length key.token + length key.language + length key.architecture

-- the host and the path; a port counts nothing
unfoldable pub target_bytes : Target → ℕ
target_bytes target = length target.host + length target.path

unfoldable pub identity_bytes : Identity → ℕ
identity_bytes identity = key_bytes identity.key + length identity.kind

unfoldable pub deployment_bytes : Deployment → ℕ
deployment_bytes d =
    identity_bytes d.identity + counted (length {A = ℕ}) d.provider + length d.codebase
    + identity_bytes d.app

-- but for those of its files
unfoldable pub application_bytes : Application → ℕ
application_bytes a = identity_bytes a.identity + length a.entry + length a.parameters

-- ---- the weight of each thing

abbrev pub digests_weight : List Digest → ℕ
digests_weight list = DIGEST_WEIGHT * length list

-- an application, by its key and its provider alone
unfoldable pub app_weight : AppState → ℕ
app_weight app = APP_WEIGHT + key_bytes app.key + counted target_bytes app.provider

-- a group that stands
abbrev pub group_weight : List ℕ → ℕ
group_weight group = GROUP_WEIGHT + length group

-- a listed file
unfoldable pub file_weight : FileEntry → ℕ
file_weight entry =
    FILE_WEIGHT + length entry.name + counted (length {A = ℕ}) entry.group
    + digests_weight entry.list

-- a data file
unfoldable pub data_weight : BareData → ℕ
data_weight file = LOCAL_WEIGHT + length file.name + BLOCK_WEIGHT * blocks_of file.length

-- the content of a program file, by its content key alone
unfoldable pub content_weight : FileEntry → ℕ
content_weight entry =
    CONTENT_WEIGHT + digests_weight entry.list + BLOCK_WEIGHT * blocks_of entry.size

-- a view, but for the contents of its program files
unfoldable pub view_weight : BareView → ℕ
view_weight view =
    VIEW_WEIGHT + deployment_bytes view.deployment + application_bytes view.application
    + target_bytes view.base + digests_weight view.deployment.app_list
    + sum_by group_weight view.groups + sum_by file_weight view.application.files
    + sum_by data_weight view.data_files

-- ---- the weight of all

-- the tables of these views and applications; program files that share their bytes share a content
unfoldable pub weight_of : List BareView → List AppState → ℕ
weight_of views apps =
    STATE_WEIGHT + sum_by app_weight apps + sum_by view_weight views
    + sum_by content_weight (distinct (standing_files views))

-- ---- the room of tables

-- what tables may weigh in a room with a half
abbrev pub table_room : Room → ℕ
table_room room = room.half - CHANGE_ROOM

-- a weight as a reply tells it: as far as a number goes
abbrev pub told_weight : ℕ → ℕ
told_weight weight = min weight (2 ^ 64 - 1)

-- tables of that weight have no room; where the half is 0, which no journal has, any weight has
abbrev pub IsTooHeavy : Room → ℕ → Type 0
IsTooHeavy room weight = (◌≢◌ {A = ℕ} room.half 0) × (table_room room < weight)

unfoldable pub IsLight : Room → ℕ → Type 0
IsLight room weight = ¬ IsTooHeavy room weight
