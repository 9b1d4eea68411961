-- What is shown of each row of the machine, so that each law is shown of all rows at once.
use Rattle.std.proofs.Common.{◌≡◌, ◌≢◌, ◌∙◌, ◌⊎◌, ◌+◌, ◌≤◌, refl, sym, subst, ℕ, List, [], map, Option, Some, None}
use Rattle.std.specs.Prelude.{flat_map, sum_by}
use Rattle.small_types.specs.declared.limits.TheConstants.{NUMBER_LIMIT}
use Rattle.identity.specs.declared.key.Key.{Key}
use Rattle.identity.specs.declared.version.Version.{Version}
use Rattle.manifests.specs.declared.facts.FileEntry.{FileEntry}
use Rattle.machine.specs.declared.app.AppState.{AppState}
use Rattle.machine.specs.declared.command.Command.{Command}
use Rattle.machine.specs.declared.command.Command.TheVariants.{At}
use Rattle.machine.specs.declared.event.Event.TheVariants.{Line}
use Rattle.machine.specs.declared.event.Heard.{Heard}
use Rattle.machine.specs.declared.reply.Reply.{Reply}
use Rattle.machine.specs.declared.reply.Reply.TheVariants as says
use Rattle.machine.specs.Blocks.{blocks_of, free_blocks, standing_files}
use Rattle.machine.specs.Laws.{FetchesWithoutJobs, IsAnswered, IsAnswerable}
use Rattle.machine.specs.Machine.{effect, moment_set, refusals}
use Rattle.machine.specs.Minimums.{minimum_of}
use Rattle.machine.specs.Rows.{ChangeNothing, PassesAll, Refusal, Refuses}
use Rattle.machine.specs.Shape.{BareData, BareView, Shape, bare_view, shape_of}
use Rattle.machine.specs.Sound.{Sound, program_files_of}
use Rattle.machine.specs.Store.{Session, Store}
use Rattle.machine.specs.Valid.{Valid}
use Rattle.machine.specs.Views.{ListedFile}
use Rattle.machine.specs.Words.{IsCommand}
use Rattle.machine.proofs.FirstRefusal.{AllGive, unchanged}
use Rattle.machine.proofs.LeasesKept.{KeepsLeases, keeps_itself}
use Rattle.machine.proofs.Members.{In}
use Rattle.machine.proofs.Moments.{SetsNone}
use Rattle.machine.proofs.RaisedMinimums.{Holds, holds_itself}

-- ---- an effect

-- the moment that a command sets
abbrev pub moment_by : Command → Option ℕ
moment_by (At next) = Some next
moment_by _ = None

-- each minimum that held holds, or one that is not below it
abbrev pub Rises : List AppState → List AppState → Type 0
Rises old new = (key : Key) (minimum : Version) → minimum_of key old ≡ Some minimum
    → Holds minimum (minimum_of key new)

pub rises_as : (old new : List AppState) → ((key : Key) → minimum_of key new ≡ minimum_of key old)
    → Rises old new
rises_as old new same = λ key minimum is. holds_itself minimum (minimum_of key new) (same key ∙ is)

-- It is no want of memory, it sets the moment that the command sets, and it leaves what no command
-- changes.
pub record Acts (command : Command) (old : Session) (reply : Reply) (new : Session) : Type 0 where
  pub other : reply ≢ says.Memory
  pub sets : moment_set (Some reply) ≡ moment_by command
  pub room : new.store.room ≡ old.store.room
  pub boot : new.store.boot ≡ old.store.boot
  pub jobs : new.jobs ≡ old.jobs
  pub next_job : new.next_job ≡ old.next_job
  pub minimums : Rises old.store.apps new.store.apps
  pub leases : KeepsLeases old.store new.store

-- it changes the store alone
pub acts_on : (command : Command) (old : Session) (reply : Reply) (new : Session) (later : Store)
    → new ≡ record old { store = later } → reply ≢ says.Memory
    → moment_set (Some reply) ≡ moment_by command → later.room ≡ old.store.room
    → later.boot ≡ old.store.boot → Rises old.store.apps later.apps → KeepsLeases old.store later
    → Acts command old reply new
acts_on command old reply new later is other sets room boot rises keeps =
    subst (λ (s : Session). Acts command old reply s) (sym is) (record {
      other = other;
      sets = sets;
      room = room;
      boot = boot;
      jobs = refl;
      next_job = refl;
      minimums = rises;
      leases = keeps;
    })

-- it changes nothing
pub acts_not : (command : Command) (old : Session) (reply : Reply) (new : Session) → new ≡ old
    → reply ≢ says.Memory → moment_set (Some reply) ≡ moment_by command → Acts command old reply new
acts_not command old reply new is other sets =
    acts_on command old reply new old.store is other sets refl refl
    (rises_as old.store.apps old.store.apps (λ key. refl)) (keeps_itself old.store)

-- ---- a refusal

-- What it leaves is of the same views, and keeps what holds of a store. Where it is want of memory it
-- leaves everything as it was.
pub record Kept (command : Command) (old : Session) (reply : Reply) (new : Session) : Type 0 where
  pub memory : reply ≡ says.Memory → new ≡ old
  pub room : new.store.room ≡ old.store.room
  pub boot : new.store.boot ≡ old.store.boot
  pub jobs : new.jobs ≡ old.jobs
  pub next_job : new.next_job ≡ old.next_job
  pub minimums : Rises old.store.apps new.store.apps
  pub leases : KeepsLeases old.store new.store
  pub views : new.store.views ≡ old.store.views
  pub next_view : new.store.next_view ≡ old.store.next_view
  pub valid : IsCommand command → Valid old.store → Valid new.store

kept_itself : (command : Command) (old : Session) (reply : Reply) → Kept command old reply old
kept_itself command old reply = record {
  memory = λ e. refl;
  room = refl;
  boot = refl;
  jobs = refl;
  next_job = refl;
  minimums = rises_as old.store.apps old.store.apps (λ key. refl);
  leases = keeps_itself old.store;
  views = refl;
  next_view = refl;
  valid = λ is valid. valid;
}

-- where nothing changes
pub kept_same : (command : Command) (old : Session) (reply : Reply) (new : Session) → new ≡ old
    → Kept command old reply new
kept_same command old reply new same =
    subst (λ (s : Session). Kept command old reply s) (sym same) (kept_itself command old reply)

-- and where no refusal changes anything
pub kept_unchanged : (command : Command) (refusals : List (Refusal Reply Session)) (old : Session)
    (reply : Reply) (new : Session) → ChangeNothing refusals → Refuses refusals old reply new
    → Kept command old reply new
kept_unchanged command refusals old reply new same refused =
    kept_same command old reply new (unchanged refusals old reply new same refused)

-- ---- a row

-- the program files of all views are among those that were, and data files take so many blocks more
-- at most
pub record TakesMore (more : ℕ) (old new : Store) : Type 0 where
  pub programs : (file : ListedFile) → In file (program_files_of new) → In file (program_files_of old)
  pub standing : (entry : FileEntry) → In entry (standing_files (map bare_view new.views))
      → In entry (standing_files (map bare_view old.views))
  pub data_blocks : sum_by (λ (file : BareData). blocks_of file.length)
      (flat_map (λ (view : BareView). view.data_files) (map bare_view new.views))
      ≤ more + sum_by (λ (file : BareData). blocks_of file.length)
      (flat_map (λ (view : BareView). view.data_files) (map bare_view old.views))

-- data files take free blocks alone
abbrev pub TakesFree : Session → Store → Type 0
TakesFree old new = (more : ℕ) × (more ≤ free_blocks (shape_of old)) × TakesMore more old.store new

-- Its refusals keep a store and set no moment. Its effect acts so, and keeps a store valid and
-- sound. It leaves the views, or brings no program file and takes free blocks alone, or there is no
-- open job. And there is an answer.
pub record RowFacts (now : ℕ) (heard : List (List ℕ)) (command : Command) : Type 0 where
  pub refused : (old : Session) (reply : Reply) (new : Session)
      → Refuses (refusals now heard (shape_of old) command) old reply new
      → Kept command old reply new
  pub set_none : (shape : Shape) → AllGive SetsNone (refusals now heard shape command)
  pub acts : (old : Session) (reply : Reply) (new : Session)
      → effect now heard command old reply new → Acts command old reply new
  pub valid : (old : Session) (reply : Reply) (new : Session) → IsCommand command
      → now ≤ NUMBER_LIMIT
      → PassesAll (refusals now heard (shape_of old) command)
      → effect now heard command old reply new → Valid old.store → Valid new.store
  pub sound : (old : Session) (reply : Reply) (new : Session) → IsCommand command
      → now ≤ NUMBER_LIMIT
      → PassesAll (refusals now heard (shape_of old) command)
      → effect now heard command old reply new → Sound old.store → Sound new.store
  pub views : (old : Session) (reply : Reply) (new : Session) (at : ℕ) (with_texts : Heard)
      → FetchesWithoutJobs (Line command at with_texts) old → Valid old.store
      → PassesAll (refusals now heard (shape_of old) command)
      → effect now heard command old reply new
      → (new.store.views ≡ old.store.views) ⊎ TakesFree old new.store ⊎ (old.jobs ≡ [])
  pub answered : (old : Session) → Valid old.store → IsAnswerable command heard old.store
      → IsAnswered now heard old command
