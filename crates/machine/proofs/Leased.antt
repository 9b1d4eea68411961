-- The views that are leased and those that are current, in a store and in its shape, and the files
-- that stand in them.
use Rattle.std.proofs.Common.{◌≡◌, ◌∙◌, inl, inr, refl, sym, ap, subst, ℕ, true, List, [], ◌∷◌, map, Contains, eqb, eq-eqb, eqb-true, Option, Some, None, bytes_eq}
use Rattle.std.specs.Prelude.{IsSome, option_and_then, option_map}
use Rattle.std.specs.Bool.{⊤}
use Rattle.std.specs.declared.cmp.Ordering.{Ordering}
use Rattle.std.specs.declared.cmp.Ordering.TheVariants.{Less, Equal, Greater}
use Rattle.std.proofs.lemmas.Option.{MatchOption-at_some, none-some, same_Some}
use Rattle.identity.specs.declared.key.Key.{Key}
use Rattle.manifests.specs.declared.facts.FileEntry.{FileEntry}
use Rattle.machine.specs.declared.app.AppState.{AppState}
use Rattle.machine.specs.declared.due.Due.{Due}
use Rattle.machine.specs.declared.lease.Lease.{Lease}
use Rattle.machine.specs.Current.{bare_view_at, current_of, current_view, view_at}
use Rattle.machine.specs.Due.{due, due_of}
use Rattle.machine.specs.Entries.{entry_at, entry_of, key_cmp}
use Rattle.machine.specs.Leases.{lease_of, leased_bare, leased_view}
use Rattle.machine.specs.ReadRow.{entry_named, file_named}
use Rattle.machine.specs.Shape.{BareView, Shape, bare_view, shape_of}
use Rattle.machine.specs.Sound.{IsSoundView, Sound}
use Rattle.machine.specs.Store.{Store, session_over}
use Rattle.machine.specs.Valid.{IsApp, IsView, IsViewOf, Ordered}
use Rattle.machine.specs.Views.{ListedFile, View, standing_entries, version_of}
use Rattle.machine.proofs.BroughtFiles.{bare_current}
use Rattle.machine.proofs.FirstFound.{find-map, find_in, find_some, some_there, then_value, value_of}
use Rattle.machine.proofs.Members.{In, all_in, in_contains, map_in}

-- ---- views by their numbers

pub view_in : (number : ℕ) (views : List View) (view : View) → view_at number views ≡ Some view
    → In view views × (view.number ≡ number)
view_in number views view is =
    let found = find_in (λ (v : View). eqb v.number number) views view is in
    (found.0, eqb-true view.number number found.1)

pub view_some : (number : ℕ) (views : List View)
    → Contains (map (λ (v : View). v.number) views) number
    → (view : View) × (view_at number views ≡ Some view)
view_some number views kept =
    let numbers = map (λ (v : View). v.number) views in
    let from = map_in (λ (v : View). v.number) views number (in_contains numbers number kept) in
    find_some (λ (v : View). eqb v.number number) views from.0 from.1
    (eq-eqb from.0.number number from.2)

-- ---- leased views

-- the lease of a number is one of them
pub lease_in : (number : ℕ) (leases : List Lease) (lease : Lease)
    → lease_of number leases ≡ Some lease → In lease leases
lease_in number leases lease is =
    (find_in (λ (l : Lease). eqb l.number number) leases lease is).0

shape_at : (lease : Option Lease) (views : List View)
    → option_and_then (λ (l : Lease). bare_view_at l.view (map bare_view views)) lease
    ≡ option_map bare_view (option_and_then (λ (l : Lease). view_at l.view views) lease)
shape_at None views = refl
shape_at (Some lease) views = find-map bare_view (λ (v : BareView). eqb v.number lease.view) views

-- the shape has what the store has
pub leased_shape : (number : ℕ) (store : Store)
    → leased_bare number (shape_of (session_over store)) ≡ option_map bare_view (leased_view number store)
leased_shape number store = shape_at (lease_of number store.leases) store.views

-- each lease names a view that is kept
pub leased_kept : (number : ℕ) (store : Store) → Ordered store
    → IsSome (lease_of number store.leases)
    → (view : View) × (leased_view number store ≡ Some view)
leased_kept number store was lives =
    let lease = value_of (lease_of number store.leases) lives in
    let known = find_in (λ (l : Lease). eqb l.number number) store.leases lease.0 lease.1 in
    let named = all_in (λ (l : Lease). Contains (map (λ (v : View). v.number) store.views) l.view)
    store.leases lease.0 was.leased known.0 in
    let kept = view_some lease.0.view store.views named in (
      kept.0,
      ap (λ (o : Option Lease). option_and_then (λ (l : Lease). view_at l.view store.views) o)
          lease.1
          ∙ kept.1,
    )

-- and in the shape
pub leased_bare_kept : (number : ℕ) (store : Store) → Ordered store
    → IsSome (lease_of number store.leases)
    → (view : View) × (leased_view number store ≡ Some view)
    × (leased_bare number (shape_of (session_over store)) ≡ Some (bare_view view))
leased_bare_kept number store was lives =
    let kept = leased_kept number store was lives in
    (kept.0, kept.1, leased_shape number store ∙ ap (option_map bare_view) kept.1)

-- a leased view has a lease that names it, and is one of those that are kept
pub leased_by : (number : ℕ) (store : Store) (view : View) → leased_view number store ≡ Some view
    → (lease : Lease) × (lease_of number store.leases ≡ Some lease)
    × (view_at lease.view store.views ≡ Some view)
leased_by number store view is =
    then_value (λ (l : Lease). view_at l.view store.views) (lease_of number store.leases) view is

pub leased_lives : (number : ℕ) (store : Store) (view : View)
    → leased_view number store ≡ Some view → IsSome (lease_of number store.leases)
leased_lives number store view is =
    let by = leased_by number store view is in
    some_there (lease_of number store.leases) by.0 by.1

pub leased_in : (number : ℕ) (store : Store) (view : View) → leased_view number store ≡ Some view
    → In view store.views
leased_in number store view is =
    let by = leased_by number store view is in (view_in by.0.view store.views view by.2).0

pub leased_valid : (number : ℕ) (store : Store) (view : View) → Ordered store
    → leased_view number store ≡ Some view → IsView view
leased_valid number store view was is =
    all_in IsView store.views view was.views (leased_in number store view is)

-- in a sound store it is one whole release
pub leased_sound : (number : ℕ) (store : Store) (view : View) → Sound store
    → leased_view number store ≡ Some view → IsSoundView view
leased_sound number store view sound is =
    all_in IsSoundView store.views view sound.views (leased_in number store view is)

-- ---- current views

entry_in_at : (o : Ordering) (key : Key) (app found : AppState) (apps : List AppState)
    → key_cmp app.key key ≡ o → entry_at o app (entry_of key apps) ≡ Some found
    → (entry_of key apps ≡ Some found → In found apps × (key_cmp found.key key ≡ Equal))
    → In found (app ∷ apps) × (key_cmp found.key key ≡ Equal)
entry_in_at Less key app found apps how is rest = let behind = rest is in (inr behind.0, behind.1)
entry_in_at Equal key app found apps how is rest =
    let same = same_Some app found is in
    (inl same, subst (λ (a : AppState). key_cmp a.key key ≡ Equal) same how)
entry_in_at Greater key app found apps how is rest = absurd (none-some found is)

-- the entry of a key is one of them, and of this key
pub entry_in : (key : Key) (apps : List AppState) (found : AppState)
    → entry_of key apps ≡ Some found
    → In found apps × (key_cmp found.key key ≡ Equal)
entry_in key [] found is = absurd (none-some found is)
entry_in key (app ∷ apps) found is =
    entry_in_at (key_cmp app.key key) key app found apps refl is (entry_in key apps found)

-- the entry that has it
pub current_by : (key : Key) (apps : List AppState) (number : ℕ) → current_of key apps ≡ Some number
    → (app : AppState) × (entry_of key apps ≡ Some app) × (app.current ≡ Some number)
current_by key apps number is =
    then_value (λ (app : AppState). app.current) (entry_of key apps) number is

-- a view that is kept has its number
pub kept_view : (views : List View) (key : Key) (number : ℕ) → IsViewOf views key number
    → (view : View) × (view_at number views ≡ Some view)
kept_view views key number own =
    find_some (λ (v : View). eqb v.number number) views own.1
    (in_contains views own.1 (own.0, own.2, own.3)) (eq-eqb own.1.number number own.4.0)

-- the view that it names is kept
pub own_view : (views : List View) (app : AppState) (number : ℕ) → IsApp views app
    → app.current ≡ Some number → (view : View) × (view_at number views ≡ Some view)
own_view views app number is current =
    kept_view views app.key number
    (MatchOption-at_some ⊤ (IsViewOf views app.key) number current is.current)

-- and so is the one before it
pub previous_kept : (views : List View) (app : AppState) (number : ℕ) → IsApp views app
    → app.previous ≡ Some number → (view : View) × (view_at number views ≡ Some view)
previous_kept views app number is previous =
    kept_view views app.key number
    (MatchOption-at_some ⊤ (IsViewOf views app.key) number previous is.previous)

-- a current view is kept
pub current_kept : (key : Key) (number : ℕ) (store : Store) → Ordered store
    → current_of key store.apps ≡ Some number
    → (view : View) × (current_view key store ≡ Some view)
current_kept key number store was is =
    let app = current_by key store.apps number is in
    let known = entry_in key store.apps app.0 app.1 in
    let of_app = all_in (IsApp store.views) store.apps app.0 was.apps known.0 in
    let view = own_view store.views app.0 number of_app app.2 in
    let named : current_view key store ≡ view_at number store.views =
    ap (λ (o : Option ℕ). option_and_then (λ (n : ℕ). view_at n store.views) o) is in
    (view.0, named ∙ view.1)

-- one that is current has an entry that names it, and is one of those that are kept
pub current_entry : (key : Key) (store : Store) (view : View) → current_view key store ≡ Some view
    → (app : AppState) × (entry_of key store.apps ≡ Some app) × (app.current ≡ Some view.number)
    × In view store.views
current_entry key store view is =
    let number = then_value (λ (n : ℕ). view_at n store.views) (current_of key store.apps)
    view is in
    let app = current_by key store.apps number.0 number.1 in
    let known = view_in number.0 store.views view number.2 in
    (app.0, app.1, app.2 ∙ ap Some (sym known.1), known.0)

-- and it is the view of its own number
pub current_number : (key : Key) (store : Store) (view : View) → current_view key store ≡ Some view
    → view_at view.number store.views ≡ Some view
current_number key store view is =
    let number = then_value (λ (n : ℕ). view_at n store.views) (current_of key store.apps)
    view is in
    let known = view_in number.0 store.views view number.2 in
    ap (λ (n : ℕ). view_at n store.views) known.1 ∙ number.2

-- ---- what is due

-- by the view and the entry
pub due_shown : (key : Key) (now : ℕ) (store : Store) (app : AppState) (view : View)
    → entry_of key store.apps ≡ Some app → current_view key store ≡ Some view
    → due key (shape_of (session_over store)) now
    ≡ Some (due_of (version_of view) view.deployment.rule app now)
due_shown key now store app view entry current =
    ap (λ (o : Option BareView). option_and_then (λ (a : AppState). option_map
    (λ (v : BareView). due_of v.deployment.identity.version v.deployment.rule a now) o)
    (entry_of key store.apps))
    (bare_current key store ∙ ap (option_map bare_view) current)
    ∙ ap (λ (o : Option AppState). option_and_then
    (λ (a : AppState). Some (due_of (version_of view) view.deployment.rule a now)) o) entry

-- where a version is installed there is an answer
pub due_installed : (key : Key) (now number : ℕ) (store : Store) → Ordered store
    → current_of key store.apps ≡ Some number → (d : Due) × (due key (shape_of (session_over store)) now ≡ Some d)
due_installed key now number store was is =
    let app = current_by key store.apps number is in
    let view = current_kept key number store was is in (
      due_of (version_of view.0) view.0.deployment.rule app.0 now,
      due_shown key now store app.0 view.0 app.1 view.1,
    )

pub due_some : (key : Key) (now : ℕ) (store : Store) → Ordered store
    → IsSome (current_of key store.apps) → IsSome (due key (shape_of (session_over store)) now)
due_some key now store was is =
    let number = value_of (current_of key store.apps) is in
    let found = due_installed key now number.0 store was number.1 in
    some_there (due key (shape_of (session_over store)) now) found.0 found.1

no_due : (entry : Option AppState)
    → ◌≡◌ {A = Option Due} (option_and_then (λ (app : AppState). None) entry) None
no_due None = refl
no_due (Some app) = refl

-- and else there is none
pub due_none : (key : Key) (now : ℕ) (shape : Shape) → current_of key shape.apps ≡ None
    → due key shape now ≡ None
due_none key now shape is =
    ap (λ (o : Option ℕ). option_and_then (λ (a : AppState). option_map
    (λ (v : BareView). due_of v.deployment.identity.version v.deployment.rule a now)
    (option_and_then (λ (n : ℕ). bare_view_at n shape.views) o)) (entry_of key shape.apps)) is
    ∙ no_due (entry_of key shape.apps)

pub due_current : (key : Key) (now : ℕ) (shape : Shape) (d : Due) → due key shape now ≡ Some d
    → IsSome (current_of key shape.apps)
due_current key now shape d is = by (current_of key shape.apps) refl
  where
    by : (o : Option ℕ) → current_of key shape.apps ≡ o → IsSome o
    by None none = absurd (none-some d (sym (due_none key now shape none) ∙ is))
    by (Some number) some = refl

-- ---- the files that stand

-- the entry of a name that stands is that of the file of this name
pub named_entry : (name : List ℕ) (view : View) → IsView view
    → entry_named name (standing_entries view.groups view.application)
    ≡ option_map (λ (file : ListedFile). file.entry) (file_named name view.program_files)
named_entry name view is =
    ap (entry_named name) (sym is.files)
    ∙ find-map (λ (file : ListedFile). file.entry) (λ (e : FileEntry). bytes_eq e.name name)
    view.program_files

-- the file of a name is one of them
pub file_in : (name : List ℕ) (files : List ListedFile) (file : ListedFile)
    → file_named name files ≡ Some file → In file files × (bytes_eq file.entry.name name ≡ true)
file_in name files file is =
    find_in (λ (f : ListedFile). bytes_eq f.entry.name name) files file is
