-- What is true of launches, of the views that leases keep, and of what is read in them.
use Rattle.std.specs.Prelude.{◌≡◌, ◌⊎◌, ◌<◌, ℕ, Bool, List, length, Option, Some, None, IfSome, IsSome, IsSomeAnd}
use Rattle.small_types.specs.declared.limits.TheConstants.{LEASE_LIMIT, NUMBER_LIMIT}
use Rattle.identity.specs.declared.key.Key.{Key}
use Rattle.identity.specs.declared.version.Version.{Version}
use Rattle.identity.specs.Version.{IsBelow}
use Rattle.machine.specs.declared.command.Command.TheVariants.{Launch, Read}
use Rattle.machine.specs.declared.due.Due.TheVariants.{Clear}
use Rattle.machine.specs.declared.event.Event.{Event}
use Rattle.machine.specs.declared.reply.Reply.{Reply}
use Rattle.machine.specs.declared.reply.Reply.TheVariants as says
use Rattle.machine.specs.Current.{current_view}
use Rattle.machine.specs.Due.{due}
use Rattle.machine.specs.Leases.{lease_of, leased_view}
use Rattle.machine.specs.Machine.{Answers, Run}
use Rattle.machine.specs.Minimums.{minimum_of}
use Rattle.machine.specs.ReadRow.{file_named, part}
use Rattle.machine.specs.Shape.{shape_of}
use Rattle.machine.specs.Sound.{IsSoundView, IsWhole, Sound}
use Rattle.machine.specs.Store.{Session, Store}
use Rattle.machine.specs.Valid.{Valid}
use Rattle.machine.specs.Views.{ListedFile, View, version_of}

-- ---- launches

-- What a launch hands out: the view that was current, which is one whole release, of the version
-- that is shown. The version is not below the minimum of its application. The lease is a new one,
-- on this view.
pub record IsLaunched (key : Key) (lease : ℕ) (version : Version) (old new : Store) : Type 0 where
  pub view : View
  pub current : current_view key old ≡ Some view
  pub sound : IsSoundView view
  pub shown : version_of view ≡ version
  pub minimum : IfSome (minimum_of key old.apps) (λ minimum. ¬ IsBelow version minimum)
  pub fresh : lease_of lease old.leases ≡ None
  pub leased : leased_view lease new ≡ Some view

-- each launch that is answered with a lease hands out such a view
abbrev pub LaunchesAreSound : Type 0
LaunchesAreSound = (now : ℕ) (heard : List (List ℕ)) (old : Session) (key : Key) (lease : ℕ)
    (version : Version) (check_due : Bool) (new : Session)
    → Sound old.store → Answers now heard old (Launch key) (says.Lease lease version check_due) new
    → IsLaunched key lease version old.store new.store

-- and its version is not below any minimum that the application had before
abbrev pub LaunchesReachMinimums : Type 0
LaunchesReachMinimums = (now : ℕ) (old : Session) (events : List Event)
    (replies : List (Option Reply)) (mid : Session) (at : ℕ) (heard : List (List ℕ)) (key : Key)
    (minimum : Version) (lease : ℕ) (version : Version) (check_due : Bool) (new : Session)
    → Run now old events replies mid → minimum_of key old.store.apps ≡ Some minimum
    → Answers at heard mid (Launch key) (says.Lease lease version check_due) new
    → ¬ IsBelow version minimum

-- the reply is a lease, or there was no memory
abbrev pub IsLeaseOrMemory : Reply → Type 0
IsLeaseOrMemory reply =
    ((lease : ℕ) × (version : Version) × (check_due : Bool)
    × (reply ≡ says.Lease lease version check_due))
    ⊎ (reply ≡ says.Memory)

-- where nothing is due and a lease is free, a launch is answered with one
abbrev pub FreeLaunchesAreGranted : Type 0
FreeLaunchesAreGranted = (now : ℕ) (heard : List (List ℕ)) (old : Session) (key : Key)
    (check_due : Bool) (reply : Reply) (new : Session)
    → due key (shape_of old) now ≡ Some (Clear check_due)
    → length old.store.leases < LEASE_LIMIT → old.store.next_lease < NUMBER_LIMIT
    → Answers now heard old (Launch key) reply new → IsLeaseOrMemory reply

-- ---- leased views

-- each program file that stands in the leased view stands there later, with the same bytes
pub record KeepsLeased (number : ℕ) (old new : Store) : Type 0 where
  pub view : View
  pub later : View
  pub before : leased_view number old ≡ Some view
  pub after : leased_view number new ≡ Some later
  pub files : (name : List ℕ) (file : ListedFile)
      → file_named name view.program_files ≡ Some file
      → file_named name later.program_files ≡ Some file

-- no number is given twice: a lease that lives after a run, and whose number was given before it,
-- lived before it
abbrev pub LeasesAreNew : Type 0
LeasesAreNew = (now : ℕ) (old : Session) (events : List Event) (replies : List (Option Reply))
    (new : Session) (number : ℕ)
    → Run now old events replies new → number < old.store.next_lease
    → IsSome (lease_of number new.store.leases) → IsSome (lease_of number old.store.leases)

-- while a lease lives, its view keeps its program files
abbrev pub LeasedViewsStay : Type 0
LeasedViewsStay = (now : ℕ) (old : Session) (events : List Event) (replies : List (Option Reply))
    (new : Session) (number : ℕ)
    → Valid old.store → Run now old events replies new
    → IsSome (lease_of number old.store.leases) → IsSome (lease_of number new.store.leases)
    → KeepsLeased number old.store new.store

-- in a sound store each lease has its view, which is one whole release
abbrev pub LeasedViewsAreSound : Type 0
LeasedViewsAreSound = (store : Store) (number : ℕ) → Sound store
    → IsSome (lease_of number store.leases) → IsSomeAnd (leased_view number store) IsSoundView

-- ---- reads

-- what a read shows: a part of a program file of the leased view, whose bytes match what its
-- release lists
pub record IsReadOf (lease : ℕ) (name : List ℕ) (from count shown : ℕ) (bytes : List ℕ)
    (store : Store) : Type 0 where
  pub view : View
  pub leased : leased_view lease store ≡ Some view
  pub file : ListedFile
  pub found : file_named name view.program_files ≡ Some file
  pub whole : IsWhole file
  pub size : shown ≡ length file.bytes
  pub is_part : bytes ≡ part from count file.bytes

abbrev pub ReadsAreOfFiles : Type 0
ReadsAreOfFiles = (now : ℕ) (heard : List (List ℕ)) (old : Session) (lease : ℕ) (name : List ℕ)
    (from count shown : ℕ) (bytes : List ℕ) (new : Session)
    → Sound old.store
    → Answers now heard old (Read lease name from count) (says.Read shown bytes) new
    → IsReadOf lease name from count shown bytes old.store

-- reads of one name on one lease, also later ones, show parts of one file
abbrev pub ReadsAgree : Type 0
ReadsAgree = (now : ℕ) (old : Session) (events : List Event) (replies : List (Option Reply))
    (new : Session) (lease : ℕ) (name : List ℕ) (from count shown : ℕ) (bytes : List ℕ)
    (later_from later_count later_shown : ℕ) (later_bytes : List ℕ)
    (first : IsReadOf lease name from count shown bytes old.store)
    (later : IsReadOf lease name later_from later_count later_shown later_bytes new.store)
    → Valid old.store → Run now old events replies new → later.file ≡ first.file
