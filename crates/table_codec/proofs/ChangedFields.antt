-- A change that fits leaves the fields of tables with encodings.
use Rattle.std.proofs.Common.{◌≡◌, ◌<◌, ◌++◌, refl, subst, ℕ, Bool, true, false, cond, eqb, not, bytes_eq, set, List, [], map, All, IfSome, Option, Some, None, arith}
use Rattle.std.specs.Prelude.{option_map, slice_get, unwrap_or}
use Rattle.std.specs.Option.{option_map_or}
use Rattle.std.specs.Ordering.{is_lt}
use Rattle.std.proofs.lemmas.List.Elements.{All-append, All-filter, All-nil, All-push, All-set}
use Rattle.std.proofs.lemmas.Option.{get_or_from_slice_get, slice_get_within}
use Rattle.small_types.specs.declared.limits.TheConstants.{NAME_LIMIT, NUMBER_LIMIT}
use Rattle.small_types.specs.declared.target.Target.{Target}
use Rattle.small_types.specs.Short.{IsShort, IsTarget}
use Rattle.identity.specs.declared.key.Key.{Key}
use Rattle.identity.specs.declared.version.Version.{Version}
use Rattle.identity.specs.Key.{IsShortKey}
use Rattle.identity.specs.Version.{IsVersion, version_cmp}
use Rattle.manifests.specs.declared.facts.Deployment.{Deployment}
use Rattle.machine.specs.declared.app.AppState.{AppState}
use Rattle.machine.specs.declared.lease.Lease.{Lease}
use Rattle.machine.specs.Blocks.{standing_files}
use Rattle.machine.specs.CheckRow.{heard_app, unheard_app}
use Rattle.machine.specs.Entries.{KeepsKeys, fresh, with_entry}
use Rattle.machine.specs.Installed.{above, installed_app, raised_by}
use Rattle.machine.specs.LaunchRow.{started_app}
use Rattle.machine.specs.Minimums.{raised, raised_app}
use Rattle.machine.specs.RollbackRow.{rolled_back_app}
use Rattle.machine.specs.SkipRow.{skipped_app}
use Rattle.machine.proofs.EntryOrder.{All-with_entry}
use Rattle.machine.proofs.FirstFound.{find_in, map_value, then_value}
use Rattle.machine.proofs.ChangedLists.{all_mapped}
use Rattle.machine.proofs.Members.{all_in}
use Rattle.store_state.specs.declared.change.Change.TheVariants.{Boot, Require, Install, Heard, Unheard, Skip, Rollback, Launch, Finish, Group, Put, Remove, Clean}
use Rattle.store_state.specs.declared.view.Content.{Content}
use Rattle.store_state.specs.declared.view.LocalFile.{LocalFile}
use Rattle.store_state.specs.declared.view.View.{View}
use Rattle.store_state.specs.Change.{FitsGroup, FitsInstall, effect, grown, leased}
use Rattle.store_state.specs.Dropped.{is_among, is_needed, needed, removable_in, without_rows}
use Rattle.store_state.specs.Locals.{local_name, with_local, without_local}
use Rattle.store_state.specs.Rows.{current_at, current_row_at, current_version, row_at, version_at, with_app, with_row}
use Rattle.store_state.specs.Tables.{Tables, bare_row}
use Rattle.store_state.proofs.PutItems.{all_left, all_with}
use Rattle.record_codec.specs.Codec.{IsChange}
use Rattle.record_codec.specs.Values.{IsEncodableContent, IsEncodableGroup, IsEncodableInstall, IsEncodableLocal}
use Rattle.table_codec.specs.Laws.{FieldsStay}
use Rattle.table_codec.proofs.Fields.{has_fields}
use Rattle.table_codec.specs.Values.{HasFields, HaveFields, IsEncodableApp, IsEncodableLease, IsWide}

-- ---- versions

chosen : (c : Bool) (a b : Version) → IsVersion a → IsVersion b → IsVersion (cond c a b)
chosen true a b is_a is_b = is_a
chosen false a b is_a is_b = is_b

raised_is : (old : Option Version) (version : Version) → IfSome old IsVersion → IsVersion version
    → IsVersion (raised old version)
raised_is None version old is = is
raised_is (Some minimum) version old is =
    chosen (is_lt (version_cmp minimum version)) version minimum is old

raised_by_is : (heard old : Option Version) → IfSome heard IsVersion → IfSome old IsVersion
    → IfSome (raised_by heard old) IsVersion
raised_by_is None old heard is = is
raised_by_is (Some version) old heard is = raised_is old version is heard

kept_where : (c : Bool) (v : Version) → IsVersion v → IfSome (cond c (Some v) None) IsVersion
kept_where true v is = is
kept_where false v is = tt

above_is : (have : Version) (old : Option Version) → IfSome old IsVersion
    → IfSome (above have old) IsVersion
above_is have None is = is
above_is have (Some v) is = kept_where (is_lt (version_cmp have v)) v is

-- ---- applications

fresh_has : (key : Key) → IsShortKey key → IsEncodableApp (fresh key)
fresh_has key is = record {
  key = is;
  provider = tt;
  current = tt;
  previous = tt;
  minimum = tt;
  offer = tt;
  skipped = tt;
  excluded = tt;
  last_check = tt;
}

raised_has : (version : Version) → IsVersion version → (app : AppState) → IsEncodableApp app
    → IsEncodableApp (raised_app version app)
raised_has version is app has = record {
  key = has.key;
  provider = has.provider;
  current = has.current;
  previous = has.previous;
  minimum = raised_is app.minimum version has.minimum is;
  offer = has.offer;
  skipped = has.skipped;
  excluded = has.excluded;
  last_check = has.last_check;
}

installed_has : (number : ℕ) (d : Deployment) (provider : Target) (now : ℕ) → IsWide number
    → IfSome d.minimum IsVersion → IsTarget provider → IsWide now → (app : AppState)
    → IsEncodableApp app → IsEncodableApp (installed_app number d provider now app)
installed_has number d provider now wide minimum is moment app has = record {
  key = has.key;
  provider = is;
  current = wide;
  previous = has.current;
  minimum = raised_by_is d.minimum app.minimum minimum has.minimum;
  offer = above_is d.identity.version app.offer has.offer;
  skipped = above_is d.identity.version app.skipped has.skipped;
  excluded = above_is d.identity.version app.excluded has.excluded;
  last_check = moment;
}

heard_has : (have version : Version) (minimum : Option Version) (now : ℕ) → IsVersion version
    → IfSome minimum IsVersion → IsWide now → (app : AppState) → IsEncodableApp app
    → IsEncodableApp (heard_app have version minimum now app)
heard_has have version minimum now is least moment app has = record {
  key = has.key;
  provider = has.provider;
  current = has.current;
  previous = has.previous;
  minimum = raised_by_is minimum app.minimum least has.minimum;
  offer = above_is have (Some version) is;
  skipped = has.skipped;
  excluded = has.excluded;
  last_check = moment;
}

unheard_has : (app : AppState) → IsEncodableApp app → IsEncodableApp (unheard_app app)
unheard_has app has = record {
  key = has.key;
  provider = has.provider;
  current = has.current;
  previous = has.previous;
  minimum = has.minimum;
  offer = has.offer;
  skipped = has.skipped;
  excluded = has.excluded;
  last_check = has.last_check;
}

skipped_has : (app : AppState) → IsEncodableApp app → IsEncodableApp (skipped_app app)
skipped_has app has = record {
  key = has.key;
  provider = has.provider;
  current = has.current;
  previous = has.previous;
  minimum = has.minimum;
  offer = has.offer;
  skipped = has.offer;
  excluded = has.excluded;
  last_check = has.last_check;
}

back_has : (have : Version) → IsVersion have → (app : AppState) → IsEncodableApp app
    → IsEncodableApp (rolled_back_app have app)
back_has have is app has = record {
  key = has.key;
  provider = has.provider;
  current = has.previous;
  previous = tt;
  minimum = has.minimum;
  offer = has.offer;
  skipped = has.skipped;
  excluded = is;
  last_check = has.last_check;
}

started_has : (app : AppState) → IsEncodableApp app → IsEncodableApp (started_app app)
started_has app has = record {
  key = has.key;
  provider = has.provider;
  current = has.current;
  previous = has.previous;
  minimum = has.minimum;
  offer = has.offer;
  skipped = has.skipped;
  excluded = has.excluded;
  last_check = has.last_check;
}

-- ---- one of them is changed

-- that of a key
by_key : (key : Key) (f : AppState → AppState) → KeepsKeys f → IsShortKey key
    → ((app : AppState) → IsEncodableApp app → IsEncodableApp (f app))
    → (apps : List AppState) → All IsEncodableApp apps → All IsEncodableApp (with_entry key f apps)
by_key key f keeps is each apps have =
    All-with_entry key f keeps IsEncodableApp (each (fresh key) (fresh_has key is)) each apps have

-- what stands at a place
there_has : {X : Type 0} (P : X → Type 0) (xs : List X) (place : ℕ) (x : X)
    → slice_get xs place ≡ Some x → All P xs → P x
there_has P xs place x is all =
    subst P (get_or_from_slice_get xs place x x is) (all place x (slice_get_within xs place x is))

-- that at a place
by_place : (place : ℕ) (f : AppState → AppState)
    → ((app : AppState) → IsEncodableApp app → IsEncodableApp (f app))
    → (apps : List AppState) → All IsEncodableApp apps → All IsEncodableApp (with_app place f apps)
by_place place f each apps have = by (slice_get apps place) refl
  where
    by : (o : Option AppState) → slice_get apps place ≡ o
        → All IsEncodableApp
        (unwrap_or (option_map (λ (app : AppState). set apps place (f app)) o) apps)
    by None is = have
    by (Some app) is =
        All-set IsEncodableApp apps place (f app)
        (each app (there_has IsEncodableApp apps place app is have)) have

-- ---- views

grown_has : (group : List ℕ) → IsShort NAME_LIMIT group → (view : View) → HasFields view
    → HasFields (grown group view)
grown_has group is view has = record {
  number = has.number;
  deployment = has.deployment;
  application = has.application;
  base = has.base;
  groups = All-push (IsShort NAME_LIMIT) view.groups group has.groups is;
  locals = has.locals;
}

with_has : (file : LocalFile) → IsEncodableLocal file → (view : View) → HasFields view
    → HasFields (with_local file view)
with_has file is view has = record {
  number = has.number;
  deployment = has.deployment;
  application = has.application;
  base = has.base;
  groups = has.groups;
  locals = all_with local_name IsEncodableLocal file view.locals is has.locals;
}

without_has : (name : List ℕ) → (view : View) → HasFields view → HasFields (without_local name view)
without_has name view has = record {
  number = has.number;
  deployment = has.deployment;
  application = has.application;
  base = has.base;
  groups = has.groups;
  locals = all_left (λ (file : LocalFile). not (bytes_eq file.name name)) IsEncodableLocal
      view.locals has.locals;
}

-- that of a number is changed
by_number : (number : ℕ) (f : View → View) → ((view : View) → HasFields view → HasFields (f view))
    → (views : List View) → All HasFields views → All HasFields (with_row number f views)
by_number number f each views have =
    all_mapped (λ (view : View). cond (eqb view.number number) (f view) view) HasFields HasFields
    views (λ view there has. by (eqb view.number number) view has) have
  where
    by : (c : Bool) (view : View) → HasFields view → HasFields (cond c (f view) view)
    by true view has = each view has
    by false view has = has

-- ---- leases

no_more : (c : Bool) (leases : List Lease) → All IsEncodableLease leases
    → All IsEncodableLease (cond c leases [])
no_more true leases are = are
no_more false leases are = All-nil IsEncodableLease

-- ---- tables, by what is changed

with_apps : (t : Tables) (apps : List AppState) → HaveFields t → All IsEncodableApp apps
    → HaveFields (record t { apps = apps })
with_apps t apps have are = record {
  boot = have.boot;
  next_view = have.next_view;
  next_lease = have.next_lease;
  leases = have.leases;
  views = have.views;
  apps = are;
  contents = have.contents;
}

with_views : (t : Tables) (views : List View) (contents : List Content) → HaveFields t
    → All HasFields views → All IsEncodableContent contents
    → HaveFields (record t { views = views; contents = contents })
with_views t views contents have are encode = record {
  boot = have.boot;
  next_view = have.next_view;
  next_lease = have.next_lease;
  leases = have.leases;
  views = are;
  apps = have.apps;
  contents = encode;
}

heard_have : (t : Tables) (key : Key) (version : Version) (minimum : Option Version) (now : ℕ)
    → HaveFields t → IsChange (Heard key version minimum now)
    → HaveFields (effect (Heard key version minimum now) t)
heard_have t key version minimum now have is = by (current_version key t)
  where
    by : (o : Option Version)
        → HaveFields (option_map_or
        (λ (old : Version). record t { apps = with_entry key (heard_app old version minimum now) t.apps })
        o t)
    by None = have
    by (Some old) =
        with_apps t (with_entry key (heard_app old version minimum now) t.apps) have
        (by_key key (heard_app old version minimum now) (λ app. refl) is.key
        (heard_has old version minimum now is.version is.minimum is.now) t.apps have.apps)

-- the version that is current for the application at a place
version_is : (t : Tables) (place : ℕ) (version : Version) → HaveFields t
    → version_at place t ≡ Some version → IsVersion version
version_is t place version have is =
    let row = map_value (λ (view : View). view.deployment.identity.version) (current_row_at place t)
    version is in
    let number = then_value (λ (n : ℕ). row_at n t.views) (current_at place t.apps) row.0 row.1 in
    let there = find_in (λ (view : View). eqb view.number number.0) t.views row.0 number.2 in
    let fields = all_in HasFields t.views row.0 have.views there.0 in
    subst IsVersion row.2 fields.deployment.identity.version

back_have : (t : Tables) (place : ℕ) → HaveFields t → HaveFields (effect (Rollback place) t)
back_have t place have = by (version_at place t) refl
  where
    by : (o : Option Version) → version_at place t ≡ o
        → HaveFields (option_map_or
        (λ (old : Version). record t { apps = with_app place (rolled_back_app old) t.apps }) o t)
    by None is = have
    by (Some old) is =
        with_apps t (with_app place (rolled_back_app old) t.apps) have
        (by_place place (rolled_back_app old) (back_has old (version_is t place old have is)) t.apps
        have.apps)

-- the number of the view that is current for it
current_is : (t : Tables) (place number : ℕ) → HaveFields t
    → current_at place t.apps ≡ Some number → IsWide number
current_is t place number have is =
    let app = then_value (λ (a : AppState). a.current) (slice_get t.apps place) number is in
    let has = there_has IsEncodableApp t.apps place app.0 app.1 have.apps in
    subst (λ (o : Option ℕ). IfSome o IsWide) app.2 has.current

launched_have : (t : Tables) (place : ℕ) → HaveFields t → t.next_lease < NUMBER_LIMIT
    → HaveFields (effect (Launch place) t)
launched_have t place have next = by (current_at place t.apps) refl
  where
    by : (o : Option ℕ) → current_at place t.apps ≡ o
        → HaveFields (option_map_or
        (λ (view : ℕ). record (leased view t) { apps = with_app place started_app t.apps }) o t)
    by None is = have
    by (Some view) is = record {
      boot = have.boot;
      next_view = have.next_view;
      next_lease = omega (arith, next);
      leases = All-push IsEncodableLease t.leases (record { number = t.next_lease; view = view })
          have.leases
          (record { number = have.next_lease; view = current_is t place view have is });
      views = have.views;
      apps = by_place place started_app started_has t.apps have.apps;
      contents = have.contents;
    }

installed_have : (t : Tables) (view : View) (contents : List Content) (provider : Target) (now : ℕ)
    → HaveFields t → FitsInstall t view contents provider now
    → IsEncodableInstall view contents provider now
    → HaveFields (effect (Install view contents provider now) t)
installed_have t view contents provider now have fits is = record {
  boot = have.boot;
  next_view = (let next = fits.next in omega (arith, next));
  next_lease = have.next_lease;
  leases = have.leases;
  views = All-push HasFields t.views view have.views (has_fields view is.view);
  apps = by_key view.deployment.identity.key
      (installed_app view.number view.deployment provider now) (λ app. refl)
      is.view.deployment.identity.key
      (installed_has view.number view.deployment provider now is.view.number
      is.view.deployment.minimum is.provider is.now) t.apps have.apps;
  contents = All-append IsEncodableContent t.contents contents have.contents is.contents;
}

grown_have : (t : Tables) (number : ℕ) (group : List ℕ) (contents : List Content) → HaveFields t
    → FitsGroup t number group contents → IsEncodableGroup number group contents
    → HaveFields (effect (Group number group contents) t)
grown_have t number group contents have fits is =
    with_views t (with_row number (grown group) t.views) (t.contents ++ contents) have
    (by_number number (grown group) (grown_has group is.group) t.views have.views)
    (All-append IsEncodableContent t.contents contents have.contents is.contents)

cleaned_have : (t : Tables) → HaveFields t → HaveFields (effect Clean t)
cleaned_have t have =
    let views = without_rows (removable_in t) t.views in
    let kept = is_needed (standing_files (map bare_row views)) in
    with_views t views (needed views t.contents) have
    (All-filter (λ (view : View). not (is_among (removable_in t) view)) HasFields t.views have.views)
    (All-filter kept IsEncodableContent t.contents have.contents)

-- ---- every change

pub fields_stay : FieldsStay
fields_stay t (Boot boot) have fits is = record {
  boot = is;
  next_view = have.next_view;
  next_lease = have.next_lease;
  leases = no_more (eqb t.boot boot) t.leases have.leases;
  views = have.views;
  apps = have.apps;
  contents = have.contents;
}
fields_stay t (Require key version) have fits is =
    with_apps t (with_entry key (raised_app version) t.apps) have
    (by_key key (raised_app version) (λ app. refl) is.0 (raised_has version is.1) t.apps have.apps)
fields_stay t (Install view contents provider now) have fits is =
    installed_have t view contents provider now have fits is
fields_stay t (Heard key version minimum now) have fits is =
    heard_have t key version minimum now have is
fields_stay t (Unheard key) have fits is =
    with_apps t (with_entry key unheard_app t.apps) have
    (by_key key unheard_app (λ app. refl) is unheard_has t.apps have.apps)
fields_stay t (Skip place) have fits is =
    with_apps t (with_app place skipped_app t.apps) have
    (by_place place skipped_app skipped_has t.apps have.apps)
fields_stay t (Rollback place) have fits is = back_have t place have
fields_stay t (Launch place) have fits is = launched_have t place have fits.next
fields_stay t (Finish number) have fits is = record {
  boot = have.boot;
  next_view = have.next_view;
  next_lease = have.next_lease;
  leases = All-filter (λ (lease : Lease). not (eqb lease.number number)) IsEncodableLease t.leases
      have.leases;
  views = have.views;
  apps = have.apps;
  contents = have.contents;
}
fields_stay t (Group number group contents) have fits is =
    grown_have t number group contents have fits is
fields_stay t (Put number file) have fits is =
    with_views t (with_row number (with_local file) t.views) t.contents have
    (by_number number (with_local file) (with_has file is.1) t.views have.views) have.contents
fields_stay t (Remove number name) have fits is =
    with_views t (with_row number (without_local name) t.views) t.contents have
    (by_number number (without_local name) (without_has name) t.views have.views) have.contents
fields_stay t Clean have fits is = cleaned_have t have
