-- What is true of the machine.
use Rattle.std.specs.Prelude.{◌≡◌, ◌≢◌, ◌⊎◌, ◌↔◌, ◌<◌, ◌≤◌, ◌+◌, ◌-◌, ◌*◌, ℕ, true, List, [], ◌∷◌, All, AllPairs, Any, Contains, length, Option, Some, Ok, IsSome, IsSomeAnd, count_by, map, not}
use Rattle.std.specs.declared.cmp.Ordering.TheVariants.{Equal}
use Rattle.small_types.specs.declared.room.Room.{Room}
use Rattle.small_types.specs.declared.limits.TheConstants.{BLOCK_LIMIT, BLOCK_SIZE, HALF_LEAST, NUMBER_LIMIT, URL_LIMIT}
use Rattle.small_types.specs.declared.target.Target.{Target}
use Rattle.small_types.specs.Name.{IsBelowPre}
use Rattle.causes.specs.declared.cause.Cause.{Cause}
use Rattle.addresses.specs.Address.{target_of_text}
use Rattle.addresses.specs.Join.{app_target_of}
use Rattle.identity.specs.declared.key.Key.{Key}
use Rattle.identity.specs.declared.version.Version.{Version}
use Rattle.identity.specs.Version.{IsBelow}
use Rattle.manifest_parts.specs.Parts.{Tells}
use Rattle.manifests.specs.declared.facts.Application.{Application}
use Rattle.manifests.specs.declared.facts.Deployment.{Deployment}
use Rattle.manifests.specs.declared.facts.FileEntry.{FileEntry}
use Rattle.manifests.specs.Applications.{application_of}
use Rattle.manifests.specs.Deployments.{deployment_of}
use Rattle.machine.specs.declared.app.AppState.{AppState}
use Rattle.machine.specs.declared.command.Command.{Command}
use Rattle.machine.specs.declared.command.Command.TheVariants.{At, Require, Install, Check, Skip, Rollback, Launch, Read, Local, Put, Remove, Group, Finish, Clean, Show}
use Rattle.machine.specs.declared.command.Command.TheVariants as asks
use Rattle.machine.specs.declared.event.Event.{Event}
use Rattle.machine.specs.declared.event.Event.TheVariants.{Boot, Line, Unread}
use Rattle.machine.specs.declared.reply.Reply.{Reply}
use Rattle.machine.specs.declared.reply.Reply.TheVariants as says
use Rattle.machine.specs.CheckRow.{unheard_store}
use Rattle.machine.specs.GroupRow.{room_refusals}
use Rattle.machine.specs.Blocks.{blocks_of, blocks_with, distinct, free_blocks, standing_files, used_blocks}
use Rattle.machine.specs.Entries.{AreInOrder, KeepsKeys, entry_of, entry_or_fresh, key_cmp, with_entry}
use Rattle.machine.specs.Fields.{IsApplication, IsDeployment, IsTarget}
use Rattle.machine.specs.InstallLaws.{InstallRefusalsAreExact}
use Rattle.machine.specs.Machine.{Answers, Hears, Run, Step, moment_after, refusals}
use Rattle.machine.specs.Minimums.{minimum_of}
use Rattle.machine.specs.Rows.{AreExact, ChangeNothing, GivesAt, LeavesNothingAt, Passes, PassesAll, Refuses}
use Rattle.machine.specs.Shape.{BareView, Shape, bare_view, shape_of}
use Rattle.machine.specs.Sound.{Sound, program_files_of}
use Rattle.machine.specs.SoundSession.{SoundSession}
use Rattle.machine.specs.Store.{Session, Store, empty, session_over}
use Rattle.machine.specs.Valid.{Valid}
use Rattle.machine.specs.Views.{content_key, same_content}
use Rattle.machine.specs.Words.{IsEvent}

-- ---- entries

-- entries stay in order
abbrev pub EntriesStayInOrder : Type 0
EntriesStayInOrder = (key : Key) (f : AppState → AppState) (apps : List AppState)
    → KeepsKeys f → AreInOrder apps → AreInOrder (with_entry key f apps)

-- the entry of the key is what f makes of it, or of a fresh one
abbrev pub OneEntryIsMade : Type 0
OneEntryIsMade = (key : Key) (f : AppState → AppState) (apps : List AppState)
    → KeepsKeys f → entry_of key (with_entry key f apps) ≡ Some (f (entry_or_fresh key apps))

-- every other key has the entry that it had
abbrev pub OtherEntriesStay : Type 0
OtherEntriesStay = (key other : Key) (f : AppState → AppState) (apps : List AppState)
    → KeepsKeys f → key_cmp key other ≢ Equal
    → entry_of other (with_entry key f apps) ≡ entry_of other apps

-- ---- contents

-- files are told apart by their content keys
abbrev pub ContentsAreCompared : Type 0
ContentsAreCompared =
    (a b : FileEntry) → (same_content a b ≡ true) ↔ (content_key a ≡ content_key b)

-- of the files with one content key one counts, and no other file
pub record CountOnce (entries counted : List FileEntry) : Type 0 where
  pub among : All (Contains entries) counted
  pub differ : AllPairs (λ (e f : FileEntry). content_key e ≢ content_key f) counted
  pub each : All (λ e. Any (λ (f : FileEntry). content_key f ≡ content_key e) counted) entries

abbrev pub ContentsCountOnce : Type 0
ContentsCountOnce = (entries : List FileEntry) → CountOnce entries (distinct entries)

-- bytes take as few blocks as hold them
abbrev pub BlocksAreRoundedUp : Type 0
BlocksAreRoundedUp = (bytes : ℕ)
    → (bytes ≤ BLOCK_SIZE * blocks_of bytes) × (BLOCK_SIZE * blocks_of bytes < bytes + BLOCK_SIZE)

-- where there is no open job, the free blocks are those that no file of a view takes
abbrev pub FreeBlocksAreThoseOfViews : Type 0
FreeBlocksAreThoseOfViews = (shape : Shape) → shape.jobs ≡ []
    → free_blocks shape ≡ shape.room.blocks - used_blocks shape.views

-- open jobs make the count no smaller
abbrev pub JobsCountMore : Type 0
JobsCountMore = (views : List BareView) (jobs : List Application)
    → used_blocks views ≤ blocks_with views jobs

-- ---- manifests

-- what a manifest says is what a valid store may hold
abbrev pub ReadDeploymentsMayBeHeld : Type 0
ReadDeploymentsMayBeHeld = (bytes : List ℕ) (d : Deployment)
    → Tells deployment_of bytes (Ok d) → IsDeployment d

abbrev pub ReadApplicationsMayBeHeld : Type 0
ReadApplicationsMayBeHeld = (bytes : List ℕ) (a : Application)
    → Tells application_of bytes (Ok a) → IsApplication a

-- ---- addresses

-- the host and the path of an address that a text or a codebase gives are together within the limit
-- of a URL
abbrev pub AddressesAreShort : Type 0
AddressesAreShort = (text : List ℕ) (target : Target)
    → target_of_text text ≡ Ok target → length target.host + length target.path ≤ URL_LIMIT

abbrev pub JoinedAddressesAreShort : Type 0
JoinedAddressesAreShort = (base : Target) (codebase : List ℕ) (target : Target)
    → app_target_of base codebase ≡ Ok target → length target.host + length target.path ≤ URL_LIMIT

-- and it is one that a valid store may hold
abbrev pub ReadAddressesMayBeHeld : Type 0
ReadAddressesMayBeHeld = (text : List ℕ) (target : Target)
    → target_of_text text ≡ Ok target → IsTarget target

abbrev pub JoinedAddressesMayBeHeld : Type 0
JoinedAddressesMayBeHeld = (base : Target) (codebase : List ℕ) (target : Target)
    → app_target_of base codebase ≡ Ok target → IsTarget target

-- ---- stores

-- the halves of the journal have the least length of one, where there are any
abbrev pub HasLeastHalves : Room → Type 0
HasLeastHalves room = ◌≢◌ {A = ℕ} room.half 0 → HALF_LEAST ≤ room.half

-- the empty store of a room with a possible number of blocks and a possible half is sound
abbrev pub EmptyStoresAreSound : Type 0
EmptyStoresAreSound = (room : Room) → 1 ≤ room.blocks → room.blocks ≤ BLOCK_LIMIT
    → HasLeastHalves room → Sound (empty room)

-- how many program files an application has
abbrev pub program_count : Application → ℕ
program_count application = count_by (λ entry. not entry.local) application.files

-- There is a sound store in use: with a lease, an application with a previous view, a program file
-- of some bytes, program files that share theirs, a group that stands, files that do not stand, and
-- a data file that was carried over.
pub record IsUsed (store : Store) : Type 0 where
  pub sound : Sound store
  pub leases : 0 < length store.leases
  pub previous : Any (λ app. IsSome app.previous) store.apps
  pub program_files : Any (λ file. 0 < length file.bytes) (program_files_of store)
  pub shared : length (distinct (standing_files (map bare_view store.views)))
      < length (standing_files (map bare_view store.views))
  pub standing : Any (λ view. 0 < length view.groups) store.views
  pub absent : Any (λ view. length view.program_files < program_count view.application) store.views
  pub carried : Any (λ view. Any (λ file. IsBelowPre file.name) view.data_files) store.views

abbrev pub StoresMayBeUsed : Type 0
StoresMayBeUsed = (store : Store) × IsUsed store

-- ---- replies

-- where the first refusals of a command are passed and the next one is given, its reply is an
-- answer
abbrev pub RefusalsComeInOrder : Type 0
RefusalsComeInOrder = (now : ℕ) (heard : List (List ℕ)) (old : Session) (command : Command)
    (k : ℕ) (reply : Reply) (new : Session)
    → Passes k (refusals now heard (shape_of old) command)
    → GivesAt k (refusals now heard (shape_of old) command) old reply new
    → Answers now heard old command reply new

-- a refusal that is given is the first that is not passed
abbrev pub RefusalsAreFirst : Type 0
RefusalsAreFirst = (now : ℕ) (heard : List (List ℕ)) (shape : Shape) (command : Command)
    (old : Session) (reply : Reply) (new : Session)
    → Refuses (refusals now heard shape command) old reply new
    → (k : ℕ) × Passes k (refusals now heard shape command)
    × GivesAt k (refusals now heard shape command) old reply new

-- No refusal is a free choice, but that of `install` and of `group` at a file. Those of an install
-- before it, and those of a check, are none where the manifests are heard.
pub record RowsAreExact : Type 0 where
  pub at : (now : ℕ) (heard : List (List ℕ)) (shape : Shape) (next : ℕ)
      → AreExact (refusals now heard shape (At next))
  pub require : (now : ℕ) (heard : List (List ℕ)) (shape : Shape) (key : Key) (version : Version)
      → AreExact (refusals now heard shape (Require key version))
  pub install : InstallRefusalsAreExact
  pub check : (now : ℕ) (text : List ℕ) (texts : List (List ℕ)) (shape : Shape) (key : Key)
      → AreExact (refusals now (text ∷ texts) shape (Check key))
  pub skip : (now : ℕ) (heard : List (List ℕ)) (shape : Shape) (key : Key)
      → AreExact (refusals now heard shape (Skip key))
  pub rollback : (now : ℕ) (heard : List (List ℕ)) (shape : Shape) (key : Key)
      → AreExact (refusals now heard shape (Rollback key))
  pub launch : (now : ℕ) (heard : List (List ℕ)) (shape : Shape) (key : Key)
      → AreExact (refusals now heard shape (Launch key))
  pub read : (now : ℕ) (heard : List (List ℕ)) (shape : Shape) (lease : ℕ) (name : List ℕ)
      (from count : ℕ)
      → AreExact (refusals now heard shape (Read lease name from count))
  pub local : (now : ℕ) (heard : List (List ℕ)) (shape : Shape) (lease : ℕ) (name : List ℕ)
      (from count : ℕ)
      → AreExact (refusals now heard shape (Local lease name from count))
  pub put : (now : ℕ) (heard : List (List ℕ)) (shape : Shape) (lease : ℕ) (name bytes : List ℕ)
      → AreExact (refusals now heard shape (Put lease name bytes))
  pub remove : (now : ℕ) (heard : List (List ℕ)) (shape : Shape) (lease : ℕ) (name : List ℕ)
      → AreExact (refusals now heard shape (Remove lease name))
  pub group : (shape : Shape) (lease : ℕ) (group : List ℕ)
      → AreExact (room_refusals lease group shape)
  pub finish : (now : ℕ) (heard : List (List ℕ)) (shape : Shape) (lease : ℕ)
      → AreExact (refusals now heard shape (Finish lease))
  pub clean : (now : ℕ) (heard : List (List ℕ)) (shape : Shape)
      → AreExact (refusals now heard shape Clean)
  pub list : (now : ℕ) (heard : List (List ℕ)) (shape : Shape)
      → AreExact (refusals now heard shape asks.List)
  pub show : (now : ℕ) (heard : List (List ℕ)) (shape : Shape) (key : Key)
      → AreExact (refusals now heard shape (Show key))

-- where none is a free choice, two refusals of a command that are given have one reply
abbrev pub OneRefusalIsGiven : Type 0
OneRefusalIsGiven = (now : ℕ) (heard : List (List ℕ)) (shape : Shape) (command : Command)
    (old : Session) (a b : Reply) (x y : Session)
    → AreExact (refusals now heard shape command)
    → Refuses (refusals now heard shape command) old a x
    → Refuses (refusals now heard shape command) old b y → a ≡ b

-- and none is given where all are passed
abbrev pub NoRefusalIsGivenWherePassed : Type 0
NoRefusalIsGivenWherePassed = (now : ℕ) (heard : List (List ℕ)) (shape : Shape) (command : Command)
    (old : Session) (reply : Reply) (new : Session)
    → AreExact (refusals now heard shape command)
    → PassesAll (refusals now heard shape command)
    → Refuses (refusals now heard shape command) old reply new → ⊥

-- a refusal that is given leaves what it says: nothing, where it leaves everything as it was
abbrev pub RefusalsChangeNothing : Type 0
RefusalsChangeNothing = (now : ℕ) (heard : List (List ℕ)) (shape : Shape) (command : Command)
    (k : ℕ) (old : Session) (reply : Reply) (new : Session)
    → LeavesNothingAt k (refusals now heard shape command)
    → GivesAt k (refusals now heard shape command) old reply new → new ≡ old

-- no refusal changes anything, but that of a check that no link answers
pub record RowsChangeNothing : Type 0 where
  pub at : (now : ℕ) (heard : List (List ℕ)) (shape : Shape) (next : ℕ)
      → ChangeNothing (refusals now heard shape (At next))
  pub require : (now : ℕ) (heard : List (List ℕ)) (shape : Shape) (key : Key) (version : Version)
      → ChangeNothing (refusals now heard shape (Require key version))
  pub install : (now : ℕ) (heard : List (List ℕ)) (shape : Shape) (url : List ℕ)
      → ChangeNothing (refusals now heard shape (Install url))
  pub skip : (now : ℕ) (heard : List (List ℕ)) (shape : Shape) (key : Key)
      → ChangeNothing (refusals now heard shape (Skip key))
  pub rollback : (now : ℕ) (heard : List (List ℕ)) (shape : Shape) (key : Key)
      → ChangeNothing (refusals now heard shape (Rollback key))
  pub launch : (now : ℕ) (heard : List (List ℕ)) (shape : Shape) (key : Key)
      → ChangeNothing (refusals now heard shape (Launch key))
  pub read : (now : ℕ) (heard : List (List ℕ)) (shape : Shape) (lease : ℕ) (name : List ℕ)
      (from count : ℕ)
      → ChangeNothing (refusals now heard shape (Read lease name from count))
  pub local : (now : ℕ) (heard : List (List ℕ)) (shape : Shape) (lease : ℕ) (name : List ℕ)
      (from count : ℕ)
      → ChangeNothing (refusals now heard shape (Local lease name from count))
  pub put : (now : ℕ) (heard : List (List ℕ)) (shape : Shape) (lease : ℕ) (name bytes : List ℕ)
      → ChangeNothing (refusals now heard shape (Put lease name bytes))
  pub remove : (now : ℕ) (heard : List (List ℕ)) (shape : Shape) (lease : ℕ) (name : List ℕ)
      → ChangeNothing (refusals now heard shape (Remove lease name))
  pub group : (now : ℕ) (heard : List (List ℕ)) (shape : Shape) (lease : ℕ) (group : List ℕ)
      → ChangeNothing (refusals now heard shape (Group lease group))
  pub finish : (now : ℕ) (heard : List (List ℕ)) (shape : Shape) (lease : ℕ)
      → ChangeNothing (refusals now heard shape (Finish lease))
  pub clean : (now : ℕ) (heard : List (List ℕ)) (shape : Shape)
      → ChangeNothing (refusals now heard shape Clean)
  pub list : (now : ℕ) (heard : List (List ℕ)) (shape : Shape)
      → ChangeNothing (refusals now heard shape asks.List)
  pub show : (now : ℕ) (heard : List (List ℕ)) (shape : Shape) (key : Key)
      → ChangeNothing (refusals now heard shape (Show key))

abbrev pub IsAllLinks : Reply → Type 0
IsAllLinks reply =
    (target : Target) × (causes : List Cause) × (reply ≡ says.AllLinks target causes)

-- A check that is refused changes nothing. But where no link gave the manifest it counts as made,
-- and nothing else changes.
abbrev pub RefusedChecksCount : Type 0
RefusedChecksCount = (now : ℕ) (heard : List (List ℕ)) (old : Session) (key : Key) (reply : Reply)
    (new : Session)
    → Refuses (refusals now heard (shape_of old) (Check key)) old reply new
    → ((IsAllLinks reply → ⊥) × (new ≡ old))
    ⊎ (IsAllLinks reply × (new ≡ record old { store = unheard_store key old.store }))

-- an answer other than want of memory
pub record IsAnswered (now : ℕ) (heard : List (List ℕ)) (old : Session) (command : Command)
    : Type 0 where
  pub reply : Reply
  pub new : Session
  pub answers : Answers now heard old command reply new
  pub other : reply ≢ says.Memory

-- An install or a check heard no manifest. A group comes to a sound store, since it takes over the
-- files of kept views.
abbrev pub IsAnswerable : Command → List (List ℕ) → Store → Type 0
IsAnswerable (Install url) heard store = heard ≡ []
IsAnswerable (Check key) heard store = heard ≡ []
IsAnswerable (Group lease group) heard store = Sound store
IsAnswerable _ heard store = Unit {0}

-- Each command has one, in each valid store, at each moment and whatever it may hear; an install
-- and a check at least where they hear nothing, and a group in each sound store.
abbrev pub CommandsAreAnswered : Type 0
CommandsAreAnswered = (now : ℕ) (heard : List (List ℕ)) (old : Session) (command : Command)
    → Valid old.store → Hears (shape_of old) command heard
    → IsAnswerable command heard old.store
    → IsAnswered now heard old command

-- a line comes at the session's moment and heard what it may hear
abbrev pub MayCome : ℕ → Session → Event → Type 0
MayCome now old (Boot boot) = Unit {0}
MayCome now old (Line command at heard) = (at ≡ now)
    × Hears (shape_of old) command heard.texts
MayCome now old (Unread fault) = Unit {0}

-- the same of the command of an event
abbrev pub MayBeAnswered : Event → Store → Type 0
MayBeAnswered (Boot boot) store = Unit {0}
MayBeAnswered (Line command at heard) store = IsAnswerable command heard.texts store
MayBeAnswered (Unread fault) store = Unit {0}

-- a step of the event whose reply is not want of memory
pub record HasStep (now : ℕ) (old : Session) (event : Event) : Type 0 where
  pub reply : Option Reply
  pub new : Session
  pub step : Step now old event reply new
  pub other : reply ≢ Some says.Memory

-- each event that may come has one, where its command has an answer so
abbrev pub EventsHaveSteps : Type 0
EventsHaveSteps = (now : ℕ) (old : Session) (event : Event)
    → Valid old.store → MayCome now old event → MayBeAnswered event old.store
    → HasStep now old event

-- want of memory changes nothing
abbrev pub MemoryChangesNothing : Type 0
MemoryChangesNothing = (now : ℕ) (heard : List (List ℕ)) (old : Session) (command : Command)
    (new : Session)
    → Answers now heard old command says.Memory new → new ≡ old

-- `require` shows the minimum that then holds
abbrev pub MinimumsAreShown : Type 0
MinimumsAreShown = (now : ℕ) (heard : List (List ℕ)) (old : Session) (key : Key)
    (version minimum : Version) (new : Session)
    → Answers now heard old (Require key version) (says.Minimum minimum) new
    → minimum_of key new.store.apps ≡ Some minimum

-- ---- moments

-- an answered `at` sets the moment of the next line
abbrev pub AtSetsTheMoment : Type 0
AtSetsTheMoment = (now : ℕ) (heard : List (List ℕ)) (old : Session) (next : ℕ) (reply : Reply)
    (new : Session) → Answers now heard old (At next) reply new → reply ≢ says.Memory
    → moment_after now (Some reply) ≡ next

abbrev pub IsAt : Event → Type 0
IsAt (Line (At next) now heard) = Unit {0}
IsAt _ = ⊥

-- every other event leaves it
abbrev pub OthersLeaveTheMoment : Type 0
OthersLeaveTheMoment =
    (now : ℕ) (old : Session) (event : Event) (reply : Option Reply) (new : Session)
    → Step now old event reply new → ¬ IsAt event → moment_after now reply ≡ now

-- a moment is at most 2 ^ 62 where the one before it and the words of the line are
abbrev pub MomentsStayFew : Type 0
MomentsStayFew = (now : ℕ) (old : Session) (event : Event) (reply : Option Reply) (new : Session)
    → IsEvent event → Step now old event reply new → now ≤ NUMBER_LIMIT
    → moment_after now reply ≤ NUMBER_LIMIT

-- ---- steps and runs

-- a step from a valid store leads to one
abbrev pub StepsKeepValid : Type 0
StepsKeepValid = (now : ℕ) (old : Session) (event : Event) (reply : Option Reply) (new : Session)
    → IsEvent event → Step now old event reply new → Valid old.store → Valid new.store

-- a step from a sound store leads to one
abbrev pub StepsKeepSound : Type 0
StepsKeepSound = (now : ℕ) (old : Session) (event : Event) (reply : Option Reply) (new : Session)
    → IsEvent event → Step now old event reply new → Sound old.store → Sound new.store

-- so does a run
abbrev pub RunsKeepSound : Type 0
RunsKeepSound = (now : ℕ) (old : Session) (events : List Event) (replies : List (Option Reply))
    (new : Session)
    → All IsEvent events → Run now old events replies new → Sound old.store → Sound new.store

-- An install or a group finds no open job. One that does may bring other bytes than a job has for a
-- content.
abbrev pub FetchesWithoutJobs : Event → Session → Type 0
FetchesWithoutJobs (Line (Install url) now heard) old = old.jobs ≡ []
FetchesWithoutJobs (Line (Group lease group) now heard) old = old.jobs ≡ []
FetchesWithoutJobs _ old = Unit {0}

-- a step from a sound session leads to one
abbrev pub StepsKeepSoundSessions : Type 0
StepsKeepSoundSessions =
    (now : ℕ) (old : Session) (event : Event) (reply : Option Reply) (new : Session)
    → IsEvent event → Step now old event reply new → FetchesWithoutJobs event old
    → SoundSession old → SoundSession new

-- a session begins sound over a sound store
abbrev pub SessionsBeginSound : Type 0
SessionsBeginSound = (store : Store) → Sound store → SoundSession (session_over store)

-- no step changes the room
abbrev pub RoomStays : Type 0
RoomStays = (now : ℕ) (old : Session) (event : Event) (reply : Option Reply) (new : Session)
    → Step now old event reply new → new.store.room ≡ old.store.room

-- the number of the last boot is that of the last boot event
abbrev pub boot_after : ℕ → Event → ℕ
boot_after old (Boot boot) = boot
boot_after old (Line command now heard) = old
boot_after old (Unread fault) = old

abbrev pub OnlyBootsChangeTheBoot : Type 0
OnlyBootsChangeTheBoot =
    (now : ℕ) (old : Session) (event : Event) (reply : Option Reply) (new : Session)
    → Step now old event reply new → new.store.boot ≡ boot_after old.store.boot event

-- a minimum that held holds after a run, or a version that is not below it does
abbrev pub MinimumsNeverFall : Type 0
MinimumsNeverFall = (now : ℕ) (old : Session) (events : List Event) (replies : List (Option Reply))
    (new : Session) (key : Key) (minimum : Version)
    → Run now old events replies new → minimum_of key old.store.apps ≡ Some minimum
    → IsSomeAnd (minimum_of key new.store.apps) (λ later. ¬ IsBelow later minimum)
