-- A store in which the entry of a known application is changed.
use Rattle.std.proofs.Common.{◌≡◌, ◌∙◌, ◌≤◌, refl, sym, ap, subst, length, map, Bool, List, All, Option, Some, IsSome, arith}
use Rattle.std.specs.Prelude.{IsSomeAnd, unwrap_or}
use Rattle.std.specs.declared.cmp.Ordering.{Ordering}
use Rattle.std.specs.declared.cmp.Ordering.TheVariants.{Less, Equal, Greater}
use Rattle.std.proofs.lemmas.List.Elements.{All-weaker}
use Rattle.identity.specs.declared.key.Key.{Key}
use Rattle.machine.specs.declared.app.AppState.{AppState}
use Rattle.small_types.specs.declared.limits.TheConstants.{APPLICATION_LIMIT}
use Rattle.machine.specs.Entries.{KeepsKeys, entry_of, fresh, key_cmp, with_entry}
use Rattle.machine.specs.Fields.{IsShortKey}
use Rattle.machine.specs.Shape.{bare_view}
use Rattle.machine.specs.Store.{Store}
use Rattle.machine.specs.Valid.{IsApp, IsInstalled, Ordered, Valid}
use Rattle.machine.specs.Views.{View, key_of}
use Rattle.machine.proofs.AppWeights.{KeepsWeight, known_light}
use Rattle.machine.proofs.ChangedEntry.{greater_apart, less_apart}
use Rattle.machine.proofs.EntryOrder.{All-with_entry, entry_of-other, entry_of-with_entry, length-with_known, order-with_entry}
use Rattle.machine.proofs.FirstFound.{value_of}
use Rattle.machine.proofs.KeptStores.{installed-with_entry, with_apps_ordered}
use Rattle.machine.proofs.RaisedMinimums.{entry_of-alike}

pub fresh_app : (views : List View) (key : Key) → IsShortKey key → IsApp views (fresh key)
fresh_app views key is_key = record {
  key = is_key;
  provider = tt;
  current = tt;
  previous = tt;
  minimum = tt;
  offer = tt;
  skipped = tt;
  excluded = tt;
  last_check = tt;
  beside = λ some. some;
  other = λ number current previous. absurd cc;
  provided = λ some. some;
}

-- whether it was checked plays no part
pub checked_is_app : (checked : Bool) (views : List View) (app : AppState) → IsApp views app
    → IsApp views (record app { checked = checked })
checked_is_app checked views app is = record {
  key = is.key;
  provider = is.provider;
  current = is.current;
  previous = is.previous;
  minimum = is.minimum;
  offer = is.offer;
  skipped = is.skipped;
  excluded = is.excluded;
  last_check = is.last_check;
  beside = is.beside;
  other = is.other;
  provided = is.provided;
}

-- ---- where the other applications stay installed

module _ (key : Key) (f : AppState → AppState) (keeps : KeepsKeys f) (old : Store)
    (is_key : IsShortKey key) (known : IsSome (entry_of key old.apps))
    (changed : (app : AppState) → IsApp old.views app → IsApp old.views (f app))
    (installed : All (λ (view : View). IsInstalled old.apps (key_of view)) old.views
    → All (λ (view : View). IsInstalled (with_entry key f old.apps) (key_of view)) old.views) where
  few_apps : Ordered old → length (with_entry key f old.apps) ≤ APPLICATION_LIMIT
  few_apps was =
      let app = value_of (entry_of key old.apps) known in
      omega (arith, was.few_apps, length-with_known key f keeps old.apps app.0 app.1)

  pub changed_ordered : Ordered old → Ordered (record old { apps = with_entry key f old.apps })
  changed_ordered was =
      with_apps_ordered old (with_entry key f old.apps) was
      (order-with_entry key f keeps old.apps was.order) (few_apps was)
      (All-with_entry key f keeps (IsApp old.views) (changed (fresh key) (fresh_app old.views key is_key))
      changed old.apps was.apps)
      (installed was.installed)

  pub changed_valid : KeepsWeight f → Valid old → Valid (record old { apps = with_entry key f old.apps })
  changed_valid same valid = record {
    ordered = changed_ordered valid.ordered;
    room = valid.room;
    light = (let app = value_of (entry_of key old.apps) known in
        known_light key f same old.room (map bare_view old.views) old.apps app.0 app.1 valid.light);
  }

-- ---- where each entry keeps its current view

module _ (key : Key) (f : AppState → AppState) (keeps : KeepsKeys f)
    (keeps_current : (app : AppState) → IsSome app.current → IsSome (f app).current) (old : Store)
    (is_key : IsShortKey key) (known : IsSome (entry_of key old.apps))
    (changed : (app : AppState) → IsApp old.views app → IsApp old.views (f app)) where
  pub known_ordered : Ordered old → Ordered (record old { apps = with_entry key f old.apps })
  known_ordered was =
      changed_ordered key f keeps old is_key known changed
      (installed-with_entry key f keeps keeps_current old.apps old.views) was

  pub known_valid : KeepsWeight f → Valid old → Valid (record old { apps = with_entry key f old.apps })
  known_valid same valid =
      changed_valid key f keeps old is_key known changed
      (installed-with_entry key f keeps keeps_current old.apps old.views) same valid

-- ---- where the entry of the key has a current view

abbrev HasCurrent : Option AppState → Type 0
HasCurrent entry = IsSomeAnd entry (λ (app : AppState). IsSome app.current)

module _ (key : Key) (f : AppState → AppState) (keeps : KeepsKeys f) (apps : List AppState)
    (app : AppState) (known : entry_of key apps ≡ Some app) (current : IsSome (f app).current) where
  own : HasCurrent (entry_of key (with_entry key f apps))
  own =
      subst HasCurrent (sym (entry_of-with_entry key f keeps apps
      ∙ ap (λ (e : Option AppState). Some (f (unwrap_or e (fresh key)))) known)) current

  still : (o : Ordering) (k : Key) → key_cmp key k ≡ o → IsInstalled apps k
      → IsInstalled (with_entry key f apps) k
  still Equal k equal installed =
      subst HasCurrent (sym (entry_of-alike key k (with_entry key f apps) equal)) own
  still Less k less installed =
      subst HasCurrent (sym (entry_of-other key f keeps k (λ e. less_apart (sym less ∙ e)) apps))
      installed
  still Greater k greater installed =
      subst HasCurrent (sym (entry_of-other key f keeps k (λ e. greater_apart (sym greater ∙ e)) apps))
      installed

  pub installed_still : (views : List View)
      → All (λ (view : View). IsInstalled apps (key_of view)) views
      → All (λ (view : View). IsInstalled (with_entry key f apps) (key_of view)) views
  installed_still views installed =
      All-weaker (λ (view : View). IsInstalled apps (key_of view))
      (λ (view : View). IsInstalled (with_entry key f apps) (key_of view))
      (λ (view : View) is. still (key_cmp key (key_of view)) (key_of view) refl is) views installed
