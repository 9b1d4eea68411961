-- What a group comes to: a change of the tables and a reply, or a reply alone.
use Rattle.std.specs.Prelude.{◌≡◌, ◌⊎◌, ◌≤◌, ◌-◌, ◌^◌, ◌++◌, ℕ, List, [], Any, length, map, min, slice_get, sum_by, Some, None, Result, Ok, Err}
use Rattle.small_types.specs.declared.room.Room.{Room}
use Rattle.small_types.specs.declared.limits.TheConstants.{FILE_COUNT_LIMIT}
use Rattle.small_types.specs.declared.target.Target.{Target}
use Rattle.addresses.specs.declared.fault.UrlFault.{UrlFault}
use Rattle.addresses.specs.declared.fault.UrlFault.TheVariants as no_address
use Rattle.addresses.specs.Join.{file_target_of}
use Rattle.manifests.specs.declared.facts.Application.{Application}
use Rattle.manifests.specs.declared.facts.FileEntry.{FileEntry}
use Rattle.machine.specs.declared.command.Command.TheVariants as command
use Rattle.machine.specs.declared.reply.Reply.{Reply}
use Rattle.machine.specs.declared.reply.Reply.TheVariants as says
use Rattle.machine.specs.Blocks.{blocks_of, free_blocks, standing_files}
use Rattle.machine.specs.GroupRow.{weight_grown}
use Rattle.machine.specs.Groups.{group_files}
use Rattle.machine.specs.Machine.{Answers, moment_after}
use Rattle.machine.specs.Rows.{PassesAll, Refusal}
use Rattle.machine.specs.Shape.{shape_of}
use Rattle.machine.specs.Sound.{Sound}
use Rattle.machine.specs.Store.{Session, Store}
use Rattle.machine.specs.Wanted.{wanted_beside}
use Rattle.machine.specs.Weight.{IsLight}
use Rattle.store_state.specs.declared.change.Change.{Change}
use Rattle.store_state.specs.declared.change.Change.TheVariants as change
use Rattle.store_state.specs.declared.view.View.{View}
use Rattle.store_state.specs.Change.{Fits, effect}
use Rattle.store_state.specs.Measured.{BringsMeasured}
use Rattle.store_state.specs.Shows.{Shows}
use Rattle.store_state.specs.Tables.{Tables, bare_row, table_shape}
use Rattle.table_weight.specs.Weight.{tables_weight}
use Rattle.file_groups.specs.declared.fault.GroupFault.{GroupFault}
use Rattle.file_groups.specs.declared.fault.GroupFault.TheVariants as fault
use Rattle.links.specs.Links.{LinksState}
use Rattle.fetcher.specs.Fetched.{KeptAll, KeptBut}
use Rattle.install_plan.specs.declared.plan.WantedFile.{WantedFile}
use Rattle.install_plan.specs.Checks.{LedBy}
use Rattle.install_plan.specs.Downs.{CountsDowns}
use Rattle.install_plan.specs.FetchedFiles.{HasFetched, IsStopped}
use Rattle.install_plan.specs.GroupAsked.{AreBrought, GroupServed, IsListedOfGroup}
use Rattle.install_plan.specs.Judges.{Refused, room_checks, weight_checks}
use Rattle.install_plan.specs.LeadsIn.{NewBytes}

-- ---- files without their group, which are wanted as required ones are

abbrev pub ungrouped : FileEntry → FileEntry
ungrouped entry = record entry { group = None }

-- ---- the files of the group

-- the reply where a group has no plan
abbrev pub group_reply : GroupFault → Reply
group_reply fault.NoGroup = says.NoGroup
group_reply fault.Memory = says.Memory

-- there was no memory, or the application lists no file of the group
abbrev pub IsNoFiles : List ℕ → Application → Reply → Type 0
IsNoFiles group application reply =
    (reply ≡ says.Memory) ⊎ ((reply ≡ says.NoGroup) × (group_files group application ≡ []))

-- those of the files that are wanted
abbrev pub lacking : Tables → List FileEntry → List FileEntry
lacking tables files = wanted_beside (standing_files (map bare_row tables.views)) files

-- the address of a file of the view
abbrev pub address_in : View → FileEntry → Result Target UrlFault
address_in view entry = file_target_of view.base view.deployment.mapped entry.name

-- the blocks that they need, as far as a number goes
abbrev pub need_of : Tables → List FileEntry → ℕ
need_of tables files =
    min (sum_by (λ entry. blocks_of entry.size) (lacking tables files)) (2 ^ 64 - 1)

-- what the tables weigh once the group stands in the view
abbrev pub weight_in : Room → Tables → View → List ℕ → ℕ
weight_in room tables view group = weight_grown view.number group (table_shape room tables)

-- there are fewer blocks, or the tables would have no room
abbrev pub space_checks :
    Room → Tables → View → List ℕ → List FileEntry → List (Refusal Reply Session)
space_checks room tables view group files =
    room_checks (need_of tables files) (free_blocks (table_shape room tables))
    ++ weight_checks room (weight_in room tables view group)

-- Each of them has an address, and there is room. They are those at the places.
pub record AreLacking (room : Room) (tables : Tables) (view : View) (group : List ℕ)
    (files : List FileEntry) (wanted : List WantedFile) : Type 0 where
  pub places : map (λ file. slice_get files file.place) wanted ≡ map Some (lacking tables files)
  pub targets : map (address_in view) (lacking tables files) ≡ map (λ file. Ok file.target) wanted
  pub enough : PassesAll (space_checks room tables view group files)

-- these bytes were fetched for them
pub record HasBrought (room : Room) (tables : Tables) (view : View) (group : List ℕ)
    (files : List FileEntry) (before after : LinksState) (wanted : List WantedFile)
    (gave : List (List ℕ)) : Type 0 where
  pub are : AreLacking room tables view group files wanted
  pub fetched : HasFetched files wanted before after gave

-- nothing was asked: there was no memory, one has no address, or there is no room
abbrev pub IsUnasked : Room → Tables → View → List ℕ → List FileEntry → Reply → Type 0
IsUnasked room tables view group files reply =
    (reply ≡ says.Memory)
    ⊎ ((reply ≡ says.BadUrl)
    × Any (λ entry. address_in view entry ≡ Err no_address.BadUrl) (lacking tables files))
    ⊎ ((wanted : List WantedFile)
    × (map (address_in view) (lacking tables files) ≡ map (λ file. Ok file.target) wanted)
    × Refused (space_checks room tables view group files) reply)

-- no link was asked
pub record AreUnasked (before after : LinksState) : Type 0 where
  pub kept : KeptAll before after
  pub same : after.asked ≡ before.asked

-- or not all were fetched
abbrev pub IsNotBrought : Room → Tables → View → List ℕ → List FileEntry → LinksState → LinksState
    → Reply → Type 0
IsNotBrought room tables view group files before after reply =
    (IsUnasked room tables view group files reply × AreUnasked before after)
    ⊎ ((wanted : List WantedFile) × AreLacking room tables view group files wanted
    × IsStopped files wanted before after reply)

-- ---- steps

-- a step of a session over the store that the tables show
pub record GroupStep (lease : ℕ) (group : List ℕ) (before after : LinksState) (now : ℕ)
    (reply : Reply) (old : Session) (Leaves : Store → Type 0) : Type 0 where
  pub new : Session
  pub step : Answers now [] old (command.Group lease group) reply new
  pub served : GroupServed lease group (shape_of old) before after reply
  pub brought : AreBrought lease group (shape_of old) before after new.store
  pub leaves : Leaves new.store

-- for each session without jobs over a sound store that the tables show with the image there is one
abbrev pub GroupsTo : Room → Tables → List ℕ → ℕ → List ℕ → LinksState → LinksState → Reply
    → (Store → Store → Type 0) → Type 0
GroupsTo room tables image lease group before after reply Leaves =
    (now : ℕ) (old : Session) → old.jobs ≡ []
    → Shows room tables image old.store → Sound old.store
    → GroupStep lease group before after now reply old (Leaves old.store)

-- it brings this group, with as many contents as a release may have files
abbrev pub IsOfGroup : List ℕ → Change → Type 0
IsOfGroup group (change.Group view other contents) =
    (other ≡ group) × (length contents ≤ FILE_COUNT_LIMIT)
IsOfGroup group _ = ⊥

-- A change is to be made, which fits. The changed tables have room in a half of the journal. Each
-- content that comes has as many blocks as its size needs. The image is the one that has them.
pub record IsGroupReady (there : List ℕ) (room : Room) (tables : Tables) (lease : ℕ)
    (group : List ℕ) (before after : LinksState) (change : Change) (reply : Reply)
    : Type 0 where
  pub kept : KeptBut (IsListedOfGroup lease group (table_shape room tables)) before after
  pub still : (now : ℕ) → moment_after now (Some reply) ≡ now
  pub downs : CountsDowns before after reply
  pub of : IsOfGroup group change
  pub fits : Fits tables change
  pub light : IsLight room (tables_weight (effect change tables))
  pub measured : BringsMeasured change
  pub bytes : NewBytes
  pub step : GroupsTo room tables there lease group before after reply
      (LedBy room tables change there bytes)

-- Nothing is to be changed.
pub record IsGroupOver (room : Room) (tables : Tables) (lease : ℕ) (group : List ℕ)
    (before after : LinksState) (reply : Reply) : Type 0 where
  pub kept : KeptBut (IsListedOfGroup lease group (table_shape room tables)) before after
  pub still : (now : ℕ) → moment_after now (Some reply) ≡ now
  pub downs : CountsDowns before after reply
  pub step : (image : List ℕ)
      → GroupsTo room tables image lease group before after reply (λ old new. new ≡ old)
