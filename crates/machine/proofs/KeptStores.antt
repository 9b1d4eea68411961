-- Steps keep what holds of a store.
use Rattle.std.proofs.Common.{◌≡◌, ◌∙◌, ◌⊎◌, ◌<◌, ◌≤◌, inl, inr, refl, sym, ap, subst, ℕ, Bool, true, false, cond, ◌==◌, List, [], length, map, All, Option, Some, None, IsSome, arith}
use Rattle.std.specs.Prelude.{unwrap_or, IsSomeAnd, IfSome}
use Rattle.std.specs.declared.cmp.Ordering.{Ordering}
use Rattle.std.specs.declared.cmp.Ordering.TheVariants.{Less, Equal, Greater}
use Rattle.std.specs.Ordering.{is_lt}
use Rattle.std.proofs.lemmas.Bool.{cases_lt}
use Rattle.std.proofs.lemmas.List.Elements.{All-nil, All-weaker}
use Rattle.small_types.specs.declared.room.Room.{Room}
use Rattle.small_types.specs.declared.limits.TheConstants.{APPLICATION_LIMIT, BLOCK_LIMIT, NUMBER_LIMIT}
use Rattle.identity.specs.declared.key.Key.{Key}
use Rattle.identity.specs.declared.version.Version.{Version}
use Rattle.identity.specs.Version.{IsVersion, version_cmp}
use Rattle.machine.specs.declared.app.AppState.{AppState}
use Rattle.machine.specs.Entries.{AreInOrder, entry_of, fresh, key_cmp, with_entry}
use Rattle.machine.specs.Fields.{IsShortKey}
use Rattle.machine.specs.Minimums.{raised, raised_app}
use Rattle.machine.specs.RequireRow.{required}
use Rattle.machine.specs.Sound.{IsSoundView, ShareBytes, Sound, program_files_of}
use Rattle.machine.specs.Shape.{bare_view}
use Rattle.machine.specs.Store.{Store, booted, empty}
use Rattle.machine.specs.Valid.{IsApp, IsInstalled, Ordered, Valid}
use Rattle.machine.specs.Views.{View, key_of}
use Rattle.machine.specs.Weight.{IsLight, IsTooHeavy, app_weight, weight_of}
use Rattle.machine.proofs.AppWeights.{KeepsWeight, known_light}
use Rattle.machine.proofs.EntryOrder.{All-with_entry, entry_of-other, entry_of-with_entry, length-with_known, length-with_new, order-with_entry}
use Rattle.machine.proofs.Lightness.{is_light}
use Rattle.machine.proofs.RaisedMinimums.{entry_of-alike, keeps}

-- ---- the empty store

pub empty_ordered : (room : Room) → 1 ≤ room.blocks → room.blocks ≤ BLOCK_LIMIT → Ordered (empty room)
empty_ordered room some few = record {
  some_blocks = some;
  few_blocks = few;
  boot = omega arith;
  lease_numbers = record { rising = λ i j d lt within. absurd (omega arith); below = All-nil _; limit = omega arith };
  few_leases = omega arith;
  leased = All-nil _;
  view_numbers = record { rising = λ i j d lt within. absurd (omega arith); below = All-nil _; limit = omega arith };
  few_views = omega arith;
  few_files = omega arith;
  views = All-nil _;
  installed = All-nil _;
  order = tt;
  few_apps = omega arith;
  apps = All-nil _;
}

pub empty_valid : (room : Room) → 1 ≤ room.blocks → room.blocks ≤ BLOCK_LIMIT → IsLight room (weight_of [] []) → Valid (empty room)
empty_valid room some few light = record { ordered = empty_ordered room some few; room = omega arith; light = light }

pub empty_sound : (room : Room) → 1 ≤ room.blocks → room.blocks ≤ BLOCK_LIMIT → IsLight room (weight_of [] []) → Sound (empty room)
empty_sound room some few light = record {
  valid = empty_valid room some few light;
  views = All-nil _;
  shared = λ i j d lt within. absurd (omega arith);
}

-- a valid store of the same views is as sound
pub same_views_sound : (old new : Store) → new.views ≡ old.views → Valid new → Sound old → Sound new
same_views_sound old new same valid sound = record {
  valid = valid;
  views = subst (All IsSoundView) (sym same) sound.views;
  shared = subst ShareBytes (ap (λ (views : List View). program_files_of (record old { views = views })) (sym same)) sound.shared;
}

-- ---- a boot

booted_by : (kept : Bool) (boot : ℕ) (old : Store) → boot ≤ NUMBER_LIMIT → Ordered old → Ordered (record old { boot = boot; leases = cond kept old.leases [] })
booted_by true boot old few ordered = record {
  some_blocks = ordered.some_blocks;
  few_blocks = ordered.few_blocks;
  boot = few;
  lease_numbers = ordered.lease_numbers;
  few_leases = ordered.few_leases;
  leased = ordered.leased;
  view_numbers = ordered.view_numbers;
  few_views = ordered.few_views;
  few_files = ordered.few_files;
  views = ordered.views;
  installed = ordered.installed;
  order = ordered.order;
  few_apps = ordered.few_apps;
  apps = ordered.apps;
}
booted_by false boot old few ordered = record {
  some_blocks = ordered.some_blocks;
  few_blocks = ordered.few_blocks;
  boot = few;
  lease_numbers = record { rising = λ i j d lt within. absurd (omega arith); below = All-nil _; limit = ordered.lease_numbers.limit };
  few_leases = omega arith;
  leased = All-nil _;
  view_numbers = ordered.view_numbers;
  few_views = ordered.few_views;
  few_files = ordered.few_files;
  views = ordered.views;
  installed = ordered.installed;
  order = ordered.order;
  few_apps = ordered.few_apps;
  apps = ordered.apps;
}

pub booted_ordered : (boot : ℕ) (old : Store) → boot ≤ NUMBER_LIMIT → Ordered old → Ordered (booted boot old)
booted_ordered boot old few ordered = booted_by (old.boot == boot) boot old few ordered

pub booted_valid : (boot : ℕ) (old : Store) → boot ≤ NUMBER_LIMIT → Valid old → Valid (booted boot old)
booted_valid boot old few valid = record { ordered = booted_ordered boot old few valid.ordered; room = valid.room; light = valid.light }

-- ---- other applications

pub with_apps_ordered : (old : Store) (apps : List AppState) → Ordered old → AreInOrder apps → length apps ≤ APPLICATION_LIMIT → All (IsApp old.views) apps → All (λ (view : View). IsInstalled apps (key_of view)) old.views → Ordered (record old { apps = apps })
with_apps_ordered old apps was order few each installed = record {
  some_blocks = was.some_blocks;
  few_blocks = was.few_blocks;
  boot = was.boot;
  lease_numbers = was.lease_numbers;
  few_leases = was.few_leases;
  leased = was.leased;
  view_numbers = was.view_numbers;
  few_views = was.few_views;
  few_files = was.few_files;
  views = was.views;
  installed = installed;
  order = order;
  few_apps = few;
  apps = each;
}

-- an application is installed still where its entry is changed and keeps its current view
module _ (key : Key) (f : AppState → AppState) (keeps_keys : (app : AppState) → (f app).key ≡ app.key) (keeps_current : (app : AppState) → IsSome app.current → IsSome (f app).current) where
  own : (entry : Option AppState) → IsSomeAnd entry (λ (app : AppState). IsSome app.current) → IsSome (f (unwrap_or entry (fresh key))).current
  own None installed = absurd installed
  own (Some app) installed = keeps_current app installed

  installed_by : (o : Ordering) (apps : List AppState) (k : Key) → key_cmp key k ≡ o → IsInstalled apps k → IsInstalled (with_entry key f apps) k
  installed_by Equal apps k equal installed =
      let made = entry_of-alike key k (with_entry key f apps) equal ∙ entry_of-with_entry key f keeps_keys apps in
      subst (λ (e : Option AppState). IsSomeAnd e (λ (app : AppState). IsSome app.current)) (sym made)
      (own (entry_of key apps) (subst (λ (e : Option AppState). IsSomeAnd e (λ (app : AppState). IsSome app.current)) (entry_of-alike key k apps equal) installed))
  installed_by Less apps k less installed = subst (λ (e : Option AppState). IsSomeAnd e (λ (app : AppState). IsSome app.current)) (sym (entry_of-other key f keeps_keys k (λ e. apart (sym less ∙ e)) apps)) installed
    where
      apart : Less ≡ Equal → ⊥
      apart e = cc
  installed_by Greater apps k greater installed = subst (λ (e : Option AppState). IsSomeAnd e (λ (app : AppState). IsSome app.current)) (sym (entry_of-other key f keeps_keys k (λ e. apart (sym greater ∙ e)) apps)) installed
    where
      apart : Greater ≡ Equal → ⊥
      apart e = cc

  pub installed-with_entry : (apps : List AppState) (views : List View) → All (λ (view : View). IsInstalled apps (key_of view)) views → All (λ (view : View). IsInstalled (with_entry key f apps) (key_of view)) views
  installed-with_entry apps views installed = All-weaker (λ (view : View). IsInstalled apps (key_of view)) (λ (view : View). IsInstalled (with_entry key f apps) (key_of view)) (λ (view : View) is. installed_by (key_cmp key (key_of view)) apps (key_of view) refl is) views installed

  -- there are as many as may be where the key is known, or there was room
  pub length-with_entry : (apps : List AppState) (limit : ℕ) → length apps ≤ limit → ¬ ((entry_of key apps ≡ None) × (limit ≤ length apps)) → length (with_entry key f apps) ≤ limit
  length-with_entry apps limit few room = by (entry_of key apps) refl (cases_lt (length apps) limit)
    where
      by : (entry : Option AppState) → entry_of key apps ≡ entry → (length apps < limit) ⊎ (limit ≤ length apps) → length (with_entry key f apps) ≤ limit
      by (Some app) is count = omega (arith, length-with_known key f keeps_keys apps app is)
      by None is (inl less) = omega (arith, length-with_new key f keeps_keys apps is)
      by None is (inr full) = absurd (room (is, full))

-- ---- a version that is required

chosen : (b : Bool) (v w : Version) → IsVersion v → IsVersion w → IsVersion (cond b v w)
chosen true v w first second = first
chosen false v w first second = second

pub version-raised : (minimum : Option Version) (version : Version) → IfSome minimum IsVersion → IsVersion version → IsVersion (raised minimum version)
version-raised None version old new = new
version-raised (Some m) version old new = chosen (is_lt (version_cmp m version)) version m new old

module _ (views : List View) (key : Key) (version : Version) (is_key : IsShortKey key) (is_version : IsVersion version) where
  raised_is_app : (app : AppState) → IsApp views app → IsApp views (raised_app version app)
  raised_is_app app is = record {
    key = is.key;
    provider = is.provider;
    current = is.current;
    previous = is.previous;
    minimum = version-raised app.minimum version is.minimum is_version;
    offer = is.offer;
    skipped = is.skipped;
    excluded = is.excluded;
    last_check = is.last_check;
    beside = is.beside;
    other = is.other;
    provided = is.provided;
  }

  fresh_is_app : IsApp views (raised_app version (fresh key))
  fresh_is_app = record {
    key = is_key;
    provider = tt;
    current = tt;
    previous = tt;
    minimum = is_version;
    offer = tt;
    skipped = tt;
    excluded = tt;
    last_check = tt;
    beside = λ some. some;
    other = λ number current previous. absurd cc;
    provided = λ some. some;
  }

  pub apps-required : (apps : List AppState) → All (IsApp views) apps → All (IsApp views) (required key version apps)
  apps-required apps each = All-with_entry key (raised_app version) (keeps version) (IsApp views) fresh_is_app raised_is_app apps each

pub required_ordered : (key : Key) (version : Version) (old : Store) → IsShortKey key → IsVersion version → ¬ ((entry_of key old.apps ≡ None) × (APPLICATION_LIMIT ≤ length old.apps)) → Ordered old → Ordered (record old { apps = required key version old.apps })
required_ordered key version old is_key is_version room was =
    with_apps_ordered old (required key version old.apps) was
    (order-with_entry key (raised_app version) (keeps version) old.apps was.order)
    (length-with_entry key (raised_app version) (keeps version) (λ app current. current) old.apps APPLICATION_LIMIT was.few_apps room)
    (apps-required old.views key version is_key is_version old.apps was.apps)
    (installed-with_entry key (raised_app version) (keeps version) (λ app current. current) old.apps old.views was.installed)

keeps_weight : (version : Version) → KeepsWeight (raised_app version)
unfolding app_weight
keeps_weight version app = refl

-- the tables have room where the key is known, or they had room for it
required_light : (key : Key) (version : Version) (old : Store) → ((weight : ℕ) → (entry_of key old.apps ≡ None) × (weight ≡ weight_of (map bare_view old.views) (required key version old.apps)) × IsTooHeavy old.room weight → ⊥) → IsLight old.room (weight_of (map bare_view old.views) old.apps) → IsLight old.room (weight_of (map bare_view old.views) (required key version old.apps))
required_light key version old fits light = by (entry_of key old.apps) refl
  where
    by : (entry : Option AppState) → entry_of key old.apps ≡ entry → IsLight old.room (weight_of (map bare_view old.views) (required key version old.apps))
    by (Some app) known = known_light key (raised_app version) (keeps_weight version) old.room (map bare_view old.views) old.apps app known light
    by None new = is_light old.room (weight_of (map bare_view old.views) (required key version old.apps)) (λ heavy. fits (weight_of (map bare_view old.views) (required key version old.apps)) (new, refl, heavy))

pub required_valid : (key : Key) (version : Version) (old : Store) → IsShortKey key → IsVersion version → ¬ ((entry_of key old.apps ≡ None) × (APPLICATION_LIMIT ≤ length old.apps)) → ((weight : ℕ) → (entry_of key old.apps ≡ None) × (weight ≡ weight_of (map bare_view old.views) (required key version old.apps)) × IsTooHeavy old.room weight → ⊥) → Valid old → Valid (record old { apps = required key version old.apps })
required_valid key version old is_key is_version room fits valid = record {
  ordered = required_ordered key version old is_key is_version room valid.ordered;
  room = valid.room;
  light = required_light key version old fits valid.light;
}
