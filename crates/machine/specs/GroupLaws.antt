-- What is true of groups.
use Rattle.std.specs.Prelude.{◌≡◌, ◌≢◌, ◌⊎◌, ◌<◌, ◌≤◌, ℕ, true, false, List, All, AllPairs, Contains, length, map, sum_by, Some}
use Rattle.manifests.specs.declared.facts.Application.{Application}
use Rattle.manifests.specs.declared.facts.FileEntry.{FileEntry}
use Rattle.machine.specs.declared.command.Command.TheVariants.{Group}
use Rattle.machine.specs.declared.reply.Reply.{Reply}
use Rattle.machine.specs.declared.reply.Reply.TheVariants as says
use Rattle.machine.specs.Blocks.{blocks_of, free_blocks, standing_files}
use Rattle.machine.specs.GroupRow.{GroupEffect}
use Rattle.machine.specs.Grouped.{Grouped, StandAmong}
use Rattle.machine.specs.Groups.{group_files, group_need, group_stands, group_wanted}
use Rattle.machine.specs.Leases.{leased_view}
use Rattle.machine.specs.Machine.{Answers}
use Rattle.machine.specs.ReadRow.{file_named}
use Rattle.machine.specs.Shape.{BareView, bare_view, shape_of}
use Rattle.machine.specs.Sound.{Sound}
use Rattle.machine.specs.Store.{Session, Store, session_over}
use Rattle.machine.specs.Valid.{Valid}
use Rattle.machine.specs.Views.{ContentKey, ListedFile, View, content_key}
use Rattle.machine.specs.Wanted.{is_held}

-- ---- wanted files

-- Each file of the group has the content of a file that stands in a kept view, or of a wanted one.
-- The wanted ones are of the group. None has a content of a file that stands, and no two have one.
-- So they take the blocks that are counted.
pub record AreMissing (views : List BareView) (group : List ℕ) (a : Application) : Type 0 where
  pub each : (entry : FileEntry) → Contains (group_files group a) entry
      → (is_held (standing_files views) entry ≡ true)
      ⊎ (is_held (group_wanted views group a) entry ≡ true)
  pub among : All (Contains (group_files group a)) (group_wanted views group a)
  pub new : All (λ entry. is_held (standing_files views) entry ≡ false)
      (group_wanted views group a)
  pub once : AllPairs (λ (e f : FileEntry). ◌≢◌ {A = ContentKey} (content_key e) (content_key f))
      (group_wanted views group a)
  pub blocks : sum_by (λ entry. blocks_of entry.size) (group_wanted views group a)
      ≡ group_need views group a

abbrev pub GroupFilesSuffice : Type 0
GroupFilesSuffice = (views : List BareView) (group : List ℕ) (a : Application)
    → AreMissing views group a

-- ---- a group that came

-- two groups from one store have one reply
abbrev pub GroupsHaveOneReply : Type 0
GroupsHaveOneReply = (lease : ℕ) (group : List ℕ) (old : Session) (a b : Reply) (x y : Session)
    → GroupEffect lease group old a x → GroupEffect lease group old b y → a ≡ b

-- the files that come and those that stood are one list
abbrev pub FilesStandInOneOrder : Type 0
FilesStandInOneOrder = (group : List ℕ) (view : View) (files a b : List ListedFile)
    → StandAmong group view files a → StandAmong group view files b → a ≡ b

-- The group stands in the leased view, with so many files: each of them is found there by its name.
pub record IsStanding (lease : ℕ) (group : List ℕ) (files : ℕ) (store : Store) : Type 0 where
  pub view : View
  pub leased : leased_view lease store ≡ Some view
  pub stands : group_stands group view.groups ≡ true
  pub count : files ≡ length (group_files group view.application)
  pub each : (entry : FileEntry) → Contains (group_files group view.application) entry
      → (bytes : List ℕ)
      × (file_named entry.name view.program_files ≡ Some (record { entry = entry; bytes = bytes }))

-- a group that is answered with a number stands from then on
abbrev pub AnsweredGroupsStand : Type 0
AnsweredGroupsStand = (now : ℕ) (heard : List (List ℕ)) (old : Session) (lease : ℕ)
    (group : List ℕ) (files : ℕ) (new : Session)
    → Valid old.store → Answers now heard old (Group lease group) (says.Group files) new
    → IsStanding lease group files new.store

-- ---- there is one

-- A group that does not stand comes to a sound store, which has room for it, and leads to one. One
-- of its files has a content that no kept view has.
pub record IsGrowth (old new : Store) : Type 0 where
  pub lease : ℕ
  pub group : List ℕ
  pub view : View
  pub before : Sound old
  pub leased : leased_view lease old ≡ Some view
  pub absent : group_stands group view.groups ≡ false
  pub wanted : 0 < length (group_wanted (map bare_view old.views) group view.application)
  pub room : group_need (map bare_view old.views) group view.application
      ≤ free_blocks (shape_of (session_over old))
  pub comes : Grouped group view old new
  pub after : Sound new

abbrev pub GroupsMayCome : Type 0
GroupsMayCome = (old new : Store) × IsGrowth old new
