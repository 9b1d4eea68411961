-- The refusals of a row one by one, where the texts are read, and what a judgement of some answers.
use Rattle.std.specs.Prelude.{◌≡◌, ◌≢◌, ◌⊎◌, ◌<◌, ◌≤◌, ℕ, List, [], ◌∷◌, ◌++◌, Result, Ok, Err, length}
use Rattle.small_types.specs.declared.limit.Limit.TheVariants.{Applications, Views, Files, Locals}
use Rattle.small_types.specs.declared.limits.TheConstants.{APPLICATION_LIMIT, FILE_COUNT_LIMIT, LOCAL_COUNT_LIMIT, NUMBER_LIMIT, VIEW_LIMIT}
use Rattle.small_types.specs.declared.room.Room.{Room}
use Rattle.small_types.specs.declared.target.Target.{Target}
use Rattle.addresses.specs.declared.fault.UrlFault.{UrlFault}
use Rattle.addresses.specs.declared.fault.UrlFault.TheVariants as no_address
use Rattle.manifests.specs.declared.facts.Application.{Application}
use Rattle.manifests.specs.declared.facts.Deployment.{Deployment}
use Rattle.manifests.specs.declared.releases.ReleaseFault.TheVariants as unlike
use Rattle.manifests.specs.Releases.{RefusesIdentity}
use Rattle.machine.specs.declared.reply.Reply.{Reply}
use Rattle.machine.specs.declared.reply.Reply.TheVariants as says
use Rattle.machine.specs.Blocks.{free_blocks}
use Rattle.machine.specs.InstallRow.{IsBelowMinimum, IsNotNewer, IsWeightOf, LacksEntry, OfWanted, files_after, locals_after}
use Rattle.machine.specs.Rows.{PassesAll, Refusal, Refuses, exactly, exactly_with}
use Rattle.machine.specs.Shape.{Shape}
use Rattle.machine.specs.Store.{Session}
use Rattle.machine.specs.Wanted.{install_need}
use Rattle.machine.specs.Weight.{IsTooHeavy, table_room, told_weight}

-- ---- judgements

-- there was no memory, or the reply is the first of these that holds
abbrev pub Refused : List (Refusal Reply Session) → Reply → Type 0
Refused refusals reply = (reply ≡ says.Memory) ⊎ ((old : Session) → Refuses refusals old reply old)

-- all are passed, or one is the reply
abbrev pub Judges : {T : Type 0} → List (Refusal Reply Session) → Result T Reply → Type 0
Judges refusals (Ok x) = PassesAll refusals
Judges refusals (Err reply) = Refused refusals reply

-- ---- refusals

-- there is no such address
abbrev pub address_checks : Result Target UrlFault → List (Refusal Reply Session)
address_checks found =
    exactly (found ≡ Err no_address.BadUrl) says.BadUrl
    ∷ exactly_with (λ scheme. found ≡ Err (no_address.NotHttp scheme)) (λ scheme. says.NotHttp)
    ∷ []

-- the version may not come
abbrev pub version_checks : Shape → Deployment → List (Refusal Reply Session)
version_checks shape d =
    exactly_with (IsNotNewer shape d) (λ have. says.NotNewer have)
    ∷ exactly_with (IsBelowMinimum shape d) (λ minimum. says.BelowMinimum minimum) ∷ []

-- there is no place for the view
abbrev pub count_checks : Shape → Deployment → List (Refusal Reply Session)
count_checks shape d =
    exactly (LacksEntry shape d) (says.TooMany Applications APPLICATION_LIMIT)
    ∷ exactly (VIEW_LIMIT ≤ length shape.views) (says.TooMany Views VIEW_LIMIT)
    ∷ exactly (shape.next_view ≡ NUMBER_LIMIT) (says.Spent shape.next_view) ∷ []

-- the application is not the listed one
abbrev pub identity_checks : Deployment → Application → List (Refusal Reply Session)
identity_checks d a =
    exactly_with (λ reason. RefusesIdentity d a reason × (reason ≢ unlike.Memory))
    (λ reason. says.Release reason) ∷ []

-- there is no place for its data files
abbrev pub local_checks : Shape → Deployment → Application → List (Refusal Reply Session)
local_checks shape d a =
    exactly (LOCAL_COUNT_LIMIT < locals_after shape d a) (says.TooMany Locals LOCAL_COUNT_LIMIT)
    ∷ []

-- there is no place for its files
abbrev pub file_checks : Shape → Deployment → Application → List (Refusal Reply Session)
file_checks shape d a =
    exactly (FILE_COUNT_LIMIT < files_after shape a) (says.TooMany Files FILE_COUNT_LIMIT)
    ∷ local_checks shape d a

-- so many blocks are needed, and fewer are free
abbrev pub room_checks : ℕ → ℕ → List (Refusal Reply Session)
room_checks needed free =
    exactly_with (λ need. (need ≡ needed) × (free < need)) (λ need. says.Full need free) ∷ []

-- tables that weigh so much have no room
abbrev pub weight_checks : Room → ℕ → List (Refusal Reply Session)
weight_checks room weighed =
    exactly_with (λ weight. (weight ≡ weighed) × IsTooHeavy room weight)
    (λ weight. says.TableFull (told_weight weight) (table_room room))
    ∷ []

-- a wanted file has no address
abbrev pub target_checks : List ℕ → Shape → Deployment → Application → List (Refusal Reply Session)
target_checks url shape d a =
    exactly (OfWanted url shape d a (λ found. found ≡ Err no_address.BadUrl)) says.BadUrl ∷ []

-- ---- in their order

-- those of a deployment that was heard, by the address of the application manifest
abbrev pub deployment_checks :
    Shape → Deployment → Result Target UrlFault → List (Refusal Reply Session)
deployment_checks shape d found =
    version_checks shape d ++ count_checks shape d ++ address_checks found

-- those of a release that was heard: there is no place for it
abbrev pub place_checks :
    List ℕ → Shape → Deployment → Application → List (Refusal Reply Session)
place_checks url shape d a =
    identity_checks d a ++ file_checks shape d a ++ target_checks url shape d a
    ++ room_checks (install_need shape d a) (free_blocks shape)

-- the tables would have no room
abbrev pub table_checks : List ℕ → Shape → Deployment → Application → List (Refusal Reply Session)
table_checks url shape d a =
    exactly_with (λ weight. IsWeightOf url shape d a weight × IsTooHeavy shape.room weight)
    (λ weight. says.TableFull (told_weight weight) (table_room shape.room))
    ∷ []

-- it may not come
abbrev pub release_checks :
    List ℕ → Shape → Deployment → Application → List (Refusal Reply Session)
release_checks url shape d a = place_checks url shape d a ++ table_checks url shape d a
