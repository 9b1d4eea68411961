-- What is true of kept views, of cleans and rollbacks, and of what is listed and shown.
use Rattle.std.specs.Prelude.{◌≡◌, ◌≢◌, ◌⊎◌, ◌↔◌, ◌<◌, ℕ, ◌+◌, List, [], All, AllPairs, Contains, length, map, Option, Some, None, IfSome, IsSome, option_and_then, option_map}
use Rattle.std.specs.declared.cmp.Ordering.TheVariants.{Equal, Less}
use Rattle.identity.specs.declared.key.Key.{Key}
use Rattle.identity.specs.declared.version.Version.{Version}
use Rattle.identity.specs.Key.{IsKey}
use Rattle.identity.specs.Version.{IsBelow}
use Rattle.machine.specs.declared.app.AppState.{AppState}
use Rattle.machine.specs.declared.command.Command.TheVariants.{Clean, Rollback, Show}
use Rattle.machine.specs.declared.command.Command.TheVariants as asks
use Rattle.machine.specs.declared.due.Due.TheVariants.{Offered}
use Rattle.machine.specs.declared.event.Event.{Event}
use Rattle.machine.specs.declared.reply.Reply.{Reply}
use Rattle.machine.specs.declared.reply.Reply.TheVariants as says
use Rattle.machine.specs.declared.rows.ListRow.{ListRow}
use Rattle.machine.specs.declared.rows.ShowRow.{ShowRow}
use Rattle.machine.specs.CheckRow.{provider_of}
use Rattle.machine.specs.CleanRow.{removable}
use Rattle.machine.specs.Current.{current_of, current_version, current_view, view_at}
use Rattle.machine.specs.Due.{due}
use Rattle.machine.specs.Entries.{entry_of, key_cmp}
use Rattle.machine.specs.InUse.{IsInUse}
use Rattle.machine.specs.Machine.{Answers, Run}
use Rattle.machine.specs.Minimums.{minimum_of}
use Rattle.machine.specs.Previous.{previous_version, previous_view}
use Rattle.machine.specs.Shape.{Shape, shape_of}
use Rattle.machine.specs.SkipRow.{offer_of}
use Rattle.machine.specs.Sound.{Sound}
use Rattle.machine.specs.Store.{Session, Store, session_over}
use Rattle.machine.specs.Valid.{Valid}
use Rattle.machine.specs.Views.{View, version_of}

-- ---- kept views

-- the same release, whatever stands of it and whatever data it has
pub record IsSameRelease (view later : View) : Type 0 where
  pub deployment : later.deployment ≡ view.deployment
  pub application : later.application ≡ view.application
  pub base : later.base ≡ view.base

-- no number is given twice: a view that is kept after a run, and whose number was given before it,
-- was kept before it as the same release
abbrev pub ViewsAreNew : Type 0
ViewsAreNew = (now : ℕ) (old : Session) (events : List Event) (replies : List (Option Reply))
    (new : Session) (number : ℕ) (later : View)
    → Run now old events replies new → number < old.store.next_view
    → view_at number new.store.views ≡ Some later
    → (view : View) × (view_at number old.store.views ≡ Some view) × IsSameRelease view later

-- ---- cleans

-- the view of that number is current, previous or leased in the store
abbrev pub IsUsedIn : ℕ → Store → Type 0
IsUsedIn number store = IsInUse number store.apps store.leases

-- The kept views are exactly those that are current, previous or leased, each as it was. All else
-- stays, and the number is that of the views that are gone.
pub record IsCleaned (gone : ℕ) (old new : Session) : Type 0 where
  pub kept : (view : View) → Contains new.store.views view
      ↔ (Contains old.store.views view × IsUsedIn view.number old.store)
  pub each : (number : ℕ) → IsSome (view_at number new.store.views) ↔ IsUsedIn number new.store
  pub same : (number : ℕ) → IsUsedIn number old.store
      → view_at number new.store.views ≡ view_at number old.store.views
  pub count : gone + length new.store.views ≡ length old.store.views
  pub rest : new ≡ record old { store = record old.store { views = new.store.views } }

abbrev pub CleansKeepTheUsed : Type 0
CleansKeepTheUsed = (now : ℕ) (heard : List (List ℕ)) (old : Session) (gone : ℕ) (new : Session)
    → Valid old.store → Answers now heard old Clean (says.Cleaned gone) new
    → IsCleaned gone old new

-- it is never refused
abbrev pub CleansAreGranted : Type 0
CleansAreGranted = (now : ℕ) (heard : List (List ℕ)) (old : Session) (reply : Reply)
    (new : Session) → Answers now heard old Clean reply new
    → ((gone : ℕ) × (reply ≡ says.Cleaned gone)) ⊎ (reply ≡ says.Memory)

-- the removable views are the kept ones that are not in use
abbrev pub RemovableViewsAreUnused : Type 0
RemovableViewsAreUnused = (shape : Shape) (number : ℕ) → Contains (removable shape) number
    ↔ (Contains (map (λ view. view.number) shape.views) number
    × ¬ IsInUse number shape.apps shape.leases)

-- ---- rollbacks

-- The view that was previous is current, and none is previous. Its version is shown, and is not
-- below the minimum; the version that was current is excluded. All else stays.
pub record IsRolledBack (key : Key) (version : Version) (old new : Session) : Type 0 where
  pub view : View
  pub back : View
  pub was_current : current_view key old.store ≡ Some view
  pub was_previous : previous_view key old.store ≡ Some back
  pub is_current : current_view key new.store ≡ Some back
  pub shown : version_of back ≡ version
  pub minimum : IfSome (minimum_of key new.store.apps) (λ minimum. ¬ IsBelow version minimum)
  pub app : AppState
  pub known : entry_of key old.store.apps ≡ Some app
  pub entry : entry_of key new.store.apps ≡ Some (record app {
    current = Some back.number;
    previous = None;
    excluded = Some (version_of view);
  })
  pub others : (other : Key) → key_cmp key other ≢ Equal
      → entry_of other new.store.apps ≡ entry_of other old.store.apps
  pub rest : new ≡ record old { store = record old.store { apps = new.store.apps } }

abbrev pub RollbacksGoBack : Type 0
RollbacksGoBack = (now : ℕ) (heard : List (List ℕ)) (old : Session) (key : Key)
    (version : Version) (new : Session)
    → Answers now heard old (Rollback key) (says.Current version) new
    → IsRolledBack key version old new

-- where a view is current, and the version of the previous one is not below the minimum, a rollback
-- is answered with that version, or there was no memory
abbrev pub RollbacksAreGranted : Type 0
RollbacksAreGranted = (now : ℕ) (heard : List (List ℕ)) (old : Session) (key : Key)
    (version : Version) (reply : Reply) (new : Session)
    → IsSome (current_of key old.store.apps)
    → previous_version key (shape_of old) ≡ Some version
    → IfSome (minimum_of key old.store.apps) (λ minimum. ¬ IsBelow version minimum)
    → Answers now heard old (Rollback key) reply new
    → (reply ≡ says.Current version) ⊎ (reply ≡ says.Memory)

-- a second one at once is refused, since no view is previous, or there was no memory
abbrev pub RollbacksAreSingle : Type 0
RollbacksAreSingle = (now : ℕ) (heard : List (List ℕ)) (old : Session) (key : Key)
    (version : Version) (mid : Session) (at : ℕ) (texts : List (List ℕ)) (reply : Reply)
    (new : Session)
    → Answers now heard old (Rollback key) (says.Current version) mid
    → Answers at texts mid (Rollback key) reply new
    → ((reply ≡ says.NoPrevious) ⊎ (reply ≡ says.Memory)) × (new ≡ mid)

-- the version from which the user went back, where there is one
abbrev pub excluded_of : Key → List AppState → Option Version
excluded_of key apps = option_and_then (λ app. app.excluded) (entry_of key apps)

-- it does not stand before a start
abbrev pub ExcludedOffersAreNotDue : Type 0
ExcludedOffersAreNotDue = (key : Key) (version : Version) (store : Store) (at : ℕ)
    → excluded_of key store.apps ≡ Some version
    → due key (shape_of (session_over store)) at ≢ Some (Offered version)

-- A rollback from a sound store leaves the view that was current in no use, and a clean takes it.
-- The view that is current then stays.
pub record IsLeft (old mid new : Session) : Type 0 where
  pub sound : Sound old.store
  pub key : Key
  pub version : Version
  pub back : Answers 0 [] old (Rollback key) (says.Current version) mid
  pub clean : Answers 0 [] mid Clean (says.Cleaned 1) new
  pub current : IsSome (current_view key new.store)

abbrev pub ViewsMayGo : Type 0
ViewsMayGo = (old mid new : Session) × IsLeft old mid new

-- ---- lists

-- a row for each application, in order of their printed keys, with the version that is current
pub record IsListed (rows : List ListRow) (store : Store) : Type 0 where
  pub each : map (λ row. row.key) rows ≡ map (λ app. app.key) store.apps
  pub order : AllPairs (λ (a b : ListRow). key_cmp a.key b.key ≡ Less) rows
  pub current : All (λ row.
      row.current ≡ current_version row.key (shape_of (session_over store))) rows

abbrev pub ListsShowCurrent : Type 0
ListsShowCurrent = (now : ℕ) (heard : List (List ℕ)) (old : Session) (rows : List ListRow)
    (new : Session)
    → Valid old.store → Answers now heard old asks.List (says.Listed rows) new
    → IsListed rows old.store × (new ≡ old)

-- it is never refused
abbrev pub ListsAreGranted : Type 0
ListsAreGranted = (now : ℕ) (heard : List (List ℕ)) (old : Session) (reply : Reply)
    (new : Session) → Answers now heard old asks.List reply new
    → ((rows : List ListRow) × (reply ≡ says.Listed rows)) ⊎ (reply ≡ says.Memory)

-- ---- what is shown

-- what the entry of the key has
abbrev pub entry_part : {A : Type 0} → (AppState → A) → Key → Store → Option A
entry_part part key store = option_map part (entry_of key store.apps)

-- The row is of the key. Versions stand for its views, the file is the one that its current view
-- starts, and all else is what its entry has.
pub record IsShown (key : Key) (row : ShowRow) (store : Store) : Type 0 where
  pub own : row.key ≡ key
  pub current : row.current ≡ current_version key (shape_of (session_over store))
  pub previous : row.previous ≡ previous_version key (shape_of (session_over store))
  pub minimum : row.minimum ≡ minimum_of key store.apps
  pub offer : row.offer ≡ offer_of key store.apps
  pub skipped : Some row.skipped ≡ entry_part (λ app. app.skipped) key store
  pub excluded : row.excluded ≡ excluded_of key store.apps
  pub last_check : Some row.last_check ≡ entry_part (λ app. app.last_check) key store
  pub checked : Some row.checked ≡ entry_part (λ app. app.checked) key store
  pub entry : row.entry ≡ option_map (λ view. view.application.entry) (current_view key store)
  pub provider : row.provider ≡ provider_of key store.apps

abbrev pub ShowsAreOfEntries : Type 0
ShowsAreOfEntries = (now : ℕ) (heard : List (List ℕ)) (old : Session) (key : Key) (row : ShowRow)
    (new : Session)
    → IsKey key → Valid old.store → Answers now heard old (Show key) (says.Shown row) new
    → IsShown key row old.store × (new ≡ old)

-- where the key has an entry, also one without a current view, it is shown, or there was no memory
abbrev pub KnownKeysAreShown : Type 0
KnownKeysAreShown = (now : ℕ) (heard : List (List ℕ)) (old : Session) (key : Key) (reply : Reply)
    (new : Session)
    → IsSome (entry_of key old.store.apps) → Answers now heard old (Show key) reply new
    → ((row : ShowRow) × (reply ≡ says.Shown row)) ⊎ (reply ≡ says.Memory)
