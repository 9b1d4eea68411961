-- What a command does, in one record.
use Rattle.std.specs.Prelude.{◌≡◌, ◌≢◌, ◌+◌, ◌≤◌, ℕ, List, ◌∷◌, [], ◌++◌, Some, Result, Ok, IfOk, OnErr}
use Rattle.outside.specs.declared.failed.Failed.{Failed}
use Rattle.outside.specs.Streams.{Causes}
use Rattle.small_types.specs.declared.limits.TheConstants.{NUMBER_LIMIT}
use Rattle.small_types.specs.declared.target.Target.{Target}
use Rattle.digest_list.specs.declared.digest.Digest.{Digest}
use Rattle.disks.specs.declared.disk.Disk.{Ghosts}
use Rattle.disks.specs.Moments.{LeavesOnly, Rests}
use Rattle.links.specs.declared.links.Links.{Ghosts as LinksGhosts}
use Rattle.links.specs.Links.{LinksState}
use Rattle.fetcher.specs.Fetched.{KeptBut}
use Rattle.install_plan.specs.Brought.{IsBrought}
use Rattle.install_plan.specs.Downs.{CountsDowns}
use Rattle.install_plan.specs.GroupAsked.{AreBrought, GroupServed, IsListedOfGroup}
use Rattle.install_plan.specs.InstallHeard.{IsListedBy, InstallServed}
use Rattle.install_plan.specs.Offers.{OfferServed}
use Rattle.machine.specs.declared.command.Command.{Command}
use Rattle.machine.specs.declared.command.Command.TheVariants.{At, Install, Check, Skip, Rollback, Launch, Group, Finish}
use Rattle.machine.specs.declared.reply.Reply.{Reply}
use Rattle.machine.specs.declared.reply.Reply.TheVariants as says
use Rattle.machine.specs.Machine.{Answers, Hears, moment_after}
use Rattle.machine.specs.Shape.{Shape, shape_of}
use Rattle.machine.specs.Sound.{Sound}
use Rattle.machine.specs.Store.{Session, Store}
use Rattle.machine.specs.Views.{View}
use Rattle.store_state.specs.Tables.{table_shape}
use Rattle.updater.specs.Shown.{Updater}
use Rattle.updater.specs.Costs.{LeavesNoFiles, StepCosts}
use Rattle.updater.specs.StandsFor.{StandsForEither}
use Rattle.updater.specs.Updater.{Holds, room_of, tables_of}

-- ---- by the command

-- The store before the command. An install and a group take over the files of kept views, so it is
-- to be sound.
abbrev pub SoundFor : Command → Store → Type 0
SoundFor (Install url) store = Sound store
SoundFor (Group lease group) store = Sound store
SoundFor _ store = Unit {0}

-- An install, a check and a group ask the links. Any other command leaves them alone.
abbrev pub LeavesLinks : {L : Type 0} → Command → L → L → Type 0
LeavesLinks (Install url) old new = Unit {0}
LeavesLinks (Check key) old new = Unit {0}
LeavesLinks (Group lease group) old new = Unit {0}
LeavesLinks _ old new = new ≡ old

-- Whether a command may find no memory. A launch, a skip, a rollback and a finish take none, nor does
-- the moment that a line sets.
abbrev pub MayLack : Command → Type 0
MayLack (At now) = ⊥
MayLack (Launch key) = ⊥
MayLack (Skip key) = ⊥
MayLack (Rollback key) = ⊥
MayLack (Finish lease) = ⊥
MayLack _ = Unit {0}

-- What the links did for a step from one session to another. An install asked them for what it
-- heard, for each program file of the new view whose content no kept view has, and for each data
-- file that the release deploys. A check asked for the manifest that it heard, and a group for each
-- of its files whose content no kept view has.
abbrev pub LinksServe :
    Command → List (List ℕ) → LinksState → LinksState → Session → Reply → Session → Type 0
LinksServe (Install url) heard before after old reply new =
    InstallServed (shape_of old) url heard before after reply
    × ((view : View) → new.store.views ≡ old.store.views ++ view ∷ []
    → IsBrought old before after view)
LinksServe (Check key) heard before after old reply new =
    OfferServed key (shape_of old) heard before after reply
LinksServe (Group lease group) heard before after old reply new =
    GroupServed lease group (shape_of old) before after reply
    × AreBrought lease group (shape_of old) before after new.store
LinksServe _ heard before after old reply new = Unit {0}

-- What is listed at an address for a file that the command wants, by the tables and what it heard.
-- Only an install and a group want files.
abbrev pub IsListedOf :
    Command → Shape → List (List ℕ) → Target → List Digest → ℕ → Type 0
IsListedOf (Install url) shape heard target list size = IsListedBy shape url heard target list size
IsListedOf (Group lease group) shape heard target list size =
    IsListedOfGroup lease group shape target list size
IsListedOf _ shape heard target list size = ⊥

-- ---- what it did

-- It answered: a step of the machine, whose session is held from now on. A stop at any moment of
-- the call leaves the store before it or that after it. Where the store stays as it was, no call that
-- changes the disk is made, and nothing is written, unless the command is to bring files and one did not
-- come, or there was no memory. Where the store is another one, a call is made, at least. It writes at
-- most what the step costs.
pub record Answered {D L : Type 0} (on : Ghosts D) (net : LinksGhosts L) (now : ℕ)
    (heard : List (List ℕ)) (command : Command) (disk_old : D) (links_old : L) (old : Session)
    (reply : Reply) (updater_new : Updater) (disk_new : D) (links_new : L) : Type 0 where
  pub new : Session
  pub hears : Hears (shape_of old) command heard
  pub step : Answers now heard old command reply new
  pub stored : Holds on updater_new disk_new new
  pub stop : LeavesOnly on disk_old disk_new (StandsForEither old.store new.store)
  pub quiet : LeavesNoFiles command reply → new.store ≡ old.store → Rests on disk_old disk_new
  pub marked : new.store ≢ old.store → on.moment disk_old + 1 ≤ on.moment disk_new
  pub bytes : ℕ
  pub spares : LeavesNoFiles command reply → new.store ≡ old.store → bytes ≡ 0
  pub costs : StepCosts command heard (net.links links_old) (net.links links_new) old new bytes
  pub written : on.total disk_new ≤ on.total disk_old + bytes
  pub served : LinksServe command heard (net.links links_old) (net.links links_new) old reply new

-- The disk failed: a stop leaves the store before some step of the command or that after it. No
-- more is written than that step costs.
pub record Faulted {D L : Type 0} (on : Ghosts D) (net : LinksGhosts L) (now : ℕ)
    (heard : List (List ℕ)) (command : Command) (disk_old : D) (links_old : L) (old : Session)
    (disk_new : D) (links_new : L) : Type 0 where
  pub new : Session
  pub reply : Reply
  pub hears : Hears (shape_of old) command heard
  pub step : Answers now heard old command reply new
  pub stop : LeavesOnly on disk_old disk_new (StandsForEither old.store new.store)
  pub bytes : ℕ
  pub costs : StepCosts command heard (net.links links_old) (net.links links_new) old new bytes
  pub written : on.total disk_new ≤ on.total disk_old + bytes
  pub served : LinksServe command heard (net.links links_old) (net.links links_new) old reply new

-- What a command does, for each session that is held, and whose store is sound where the command
-- asks it, where the disk tells afterwards. What it tells then it told before. The count of faults
-- rises exactly where the disk failed. The links and their sites stay, but for those that gave other
-- bytes than are listed for a file that the command wants. What it heard, its tables let it hear;
-- and the moment of the next command is within its limit. Whatever session is held or none, where the
-- reply says of a link that it failed, the number of failures rose, and it is want of memory only
-- where the command may find none.
pub record Commanded {D L : Type 0} (on : Ghosts D) (net : LinksGhosts L) (now : ℕ)
    (heard : List (List ℕ)) (command : Command) (updater_old : Updater) (disk_old : D)
    (links_old : L) (result : Result Reply Failed) (updater_new : Updater) (disk_new : D)
    (links_new : L) : Type 0 where
  pub answered : on.tells disk_new → (old : Session) → Holds on updater_old disk_old old
      → SoundFor command old.store
      → IfOk result (λ reply. Answered on net now heard command disk_old links_old old reply
      updater_new disk_new links_new)
  pub fault : on.tells disk_new → (old : Session) → Holds on updater_old disk_old old
      → SoundFor command old.store
      → OnErr result (Faulted on net now heard command disk_old links_old old disk_new links_new)
  pub later : on.moment disk_old ≤ on.moment disk_new
  pub told : on.tells disk_new → on.tells disk_old
  pub cause : Causes (on.count disk_old) (on.count disk_new) result
  pub kept : KeptBut
      (IsListedOf command (table_shape (room_of updater_old) (tables_of updater_old)) heard)
      (net.links links_old) (net.links links_new)
  pub left : LeavesLinks command links_old links_new
  pub hears : Hears (table_shape (room_of updater_old) (tables_of updater_old)) command heard
  pub few : IfOk result (λ reply. moment_after now (Some reply) ≤ NUMBER_LIMIT)
  pub downs : IfOk result (CountsDowns (net.links links_old) (net.links links_new))
  pub lacks : result ≡ Ok says.Memory → MayLack command

-- The same of the manifest texts that it heard, which stand then behind those that stood there.
pub record CommandedBehind {D L : Type 0} (on : Ghosts D) (net : LinksGhosts L) (now : ℕ)
    (heard_old heard_new : List (List ℕ)) (command : Command) (updater_old : Updater)
    (disk_old : D) (links_old : L) (result : Result Reply Failed) (updater_new : Updater)
    (disk_new : D) (links_new : L) : Type 0 where
  pub texts : List (List ℕ)
  pub behind : heard_new ≡ heard_old ++ texts
  pub commanded : Commanded on net now texts command updater_old disk_old links_old result
      updater_new disk_new links_new
