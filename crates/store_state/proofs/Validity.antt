-- Changes that fit keep the store that tables show within its order and its limits.
use Rattle.std.proofs.Common.{◌≡◌, ◌∙◌, ◌≤◌, ◌<◌, ℕ, ◌≢◌, ◌&&◌, Bool, true, false, cond, not, List, [], ◌∷◌, All, AllPairs, Contains, IfSome, IsSome, IsUtf8, Option, Some, None, length, map, refl, sym, ap, subst, arith}
use Rattle.std.specs.Prelude.{count_by, option_and_then, option_map, slice_get, sum_by, ⊤}
use Rattle.std.specs.declared.cmp.Ordering.TheVariants.{Less}
use Rattle.std.proofs.lemmas.List.{length-map}
use Rattle.std.proofs.lemmas.List.Elements.{All-map, All-weaker}
use Rattle.std.proofs.lemmas.Option.{MatchOption-at_some}
use Rattle.std.proofs.lemmas.Slice.Eq.{bytes_eq-Decides}
use Rattle.small_types.specs.declared.room.Room.{Room}
use Rattle.small_types.specs.declared.limits.TheConstants.{APPLICATION_LIMIT, LEASE_LIMIT, LOCAL_COUNT_LIMIT, NAME_LIMIT, NUMBER_LIMIT}
use Rattle.small_types.specs.declared.target.Target.{Target}
use Rattle.identity.specs.Printed.{text_cmp}
use Rattle.identity.specs.declared.key.Key.{Key}
use Rattle.manifests.specs.declared.facts.FileEntry.{FileEntry}
use Rattle.manifests.specs.declared.facts.Application.{Application}
use Rattle.manifests.specs.Applications.{is_below_pre}
use Rattle.manifests.specs.Facts.{IsFile, IsValue}
use Rattle.machine.specs.declared.app.AppState.{AppState}
use Rattle.machine.specs.declared.lease.Lease.{Lease}
use Rattle.machine.specs.Blocks.{used_blocks}
use Rattle.machine.specs.CheckRow.{heard_app, unheard_app, unheard_store}
use Rattle.machine.specs.CleanRow.{cleaned}
use Rattle.machine.specs.Current.{current_of, view_at}
use Rattle.machine.specs.DataFiles.{data_name, put_in, removed_in, with_named}
use Rattle.machine.specs.Entries.{AreInOrder, entry_of, with_entry}
use Rattle.machine.specs.Fields.{HasEntry, IsApplication, IsShort}
use Rattle.machine.specs.FinishRow.{finished}
use Rattle.machine.specs.Grouped.{grouped}
use Rattle.machine.specs.Groups.{group_files, is_group, is_in}
use Rattle.machine.specs.LaunchRow.{launched}
use Rattle.machine.specs.RollbackRow.{rolled_back}
use Rattle.machine.specs.Shape.{Shape, bare_view, shape_of}
use Rattle.machine.specs.SkipRow.{skipped, skipped_app}
use Rattle.machine.specs.Store.{Store, booted, session_over}
use Rattle.machine.specs.Valid.{IsApp, IsDataFile, IsView, IsViewOf, Ordered}
use Rattle.machine.specs.Views.{DataFile, ListedFile, standing_entries}
use Rattle.machine.specs.Views.{View as KeptView}
use Rattle.machine.specs.Weight.{IsLight, weight_of}
use Rattle.machine.proofs.CheckFacts.{heard_is_app, unheard_is_app}
use Rattle.machine.proofs.CleanedStores.{cleaned_ordered}
use Rattle.machine.proofs.FirstFound.{some_there, then_value, value_of}
use Rattle.machine.proofs.GrownViews.{grouped_ordered}
use Rattle.machine.proofs.NewView.{Fitting, installed_ordered, standing_required}
use Rattle.machine.proofs.KeptStores.{booted_ordered, required_ordered}
use Rattle.machine.proofs.Leased.{view_in}
use Rattle.machine.proofs.LeaseLists.{finished_ordered, launched_ordered}
use Rattle.machine.proofs.Members.{In, all_in, contains_in, filter_in, in_contains, in_map, pairs_map, sum_map}
use Rattle.machine.proofs.SkipFacts.{skipped_is_app}
use Rattle.store_state.specs.declared.change.Change.{Change}
use Rattle.store_state.specs.declared.change.Change.TheVariants.{Boot, Clean, Finish, Group, Heard, Install, Launch, Put, Remove, Require, Rollback, Skip, Unheard}
use Rattle.store_state.specs.declared.view.Content.{Content}
use Rattle.store_state.specs.declared.view.LocalFile.{LocalFile}
use Rattle.store_state.specs.declared.view.View.{View}
use Rattle.store_state.specs.Change.{Fits, FitsInstall, FitsPut, IsLocal, MayPut, effect}
use Rattle.store_state.specs.Laws.{ShowsOrdered, stand_files}
use Rattle.store_state.specs.Locals.{outside_locals, with_local}
use Rattle.store_state.specs.Rows.{current_at, current_row, listed_files, offer_at, row_at}
use Rattle.store_state.specs.Shows.{HoldsNew, SameFiles, Shows, shown_data, shown_file, shown_view}
use Rattle.store_state.specs.Tables.{Tables, bare_row, table_shape}
use Rattle.store_state.proofs.CheckedApps.{current_entry, entry_ordered, own_entry, shows_heard, shows_skipped, shows_unheard, version_shown}
use Rattle.store_state.proofs.CleanedTables.{cleans_shown}
use Rattle.store_state.proofs.Firsts.{in_place}
use Rattle.store_state.proofs.GroupShown.{group_shown}
use Rattle.store_state.proofs.GrownTables.{of_view, row_grows, some_in, some_with}
use Rattle.store_state.proofs.ChangedTables.{room_is}
use Rattle.store_state.proofs.Images.{same_image}
use Rattle.store_state.proofs.LocalsOrdered.{outside_data, put_ordered, removed_ordered}
use Rattle.store_state.proofs.LocalsShown.{put_agrees, puts_shown, removals_shown}
use Rattle.store_state.proofs.RolledBack.{back_key, back_ordered, back_shown, back_version}
use Rattle.store_state.proofs.ShownTables.{data_files, files, installed, shape_shown, shows_booted, shows_finished, shows_installed, shows_launched, shows_required, shows_same}
use Rattle.store_state.proofs.ShownFiles.{row_shown}

-- the store that tables show has their applications
apps_shown : {room : Room} {tables : Tables} {image : List ℕ} {store : Store}
    → Shows room tables image store → tables.apps ≡ store.apps
apps_shown shows = sym (ap (λ (s : Store). s.apps) shows.is)

-- ---- the parts of a new view

entries_of : (room : Room) (image : List ℕ) (contents : List Content) (entries : List FileEntry)
    → map (λ (file : ListedFile). file.entry) (map (shown_file room image contents) entries) ≡ entries
entries_of room image contents [] = refl
entries_of room image contents (entry ∷ entries) =
    ap (λ (rest : List FileEntry). entry ∷ rest) (entries_of room image contents entries)

are_data : (room : Room) (image : List ℕ) (locals : List LocalFile) → All IsLocal locals
    → All IsDataFile (map (shown_data room image) locals)
are_data room image locals is =
    All-map IsDataFile (shown_data room image) locals
    (All-weaker IsLocal (λ (file : LocalFile). IsDataFile (shown_data room image file))
    (λ file local. record { name = local.name; short = local.short }) locals is)

count_data : (room : Room) (image : List ℕ) (locals : List LocalFile)
    → count_by (λ (file : DataFile). not (is_below_pre file.name))
    (map (shown_data room image) locals) ≡ count_by (λ (file : LocalFile). not (is_below_pre file.name)) locals
count_data room image locals =
    sum_map (shown_data room image) (λ (file : DataFile). cond (not (is_below_pre file.name)) 1 0) locals

listed_shown : (room : Room) (image : List ℕ) (contents : List Content) (views : List View)
    → sum_by (λ (view : KeptView). length view.application.files) (map (shown_view room image contents) views)
    ≡ listed_files views
listed_shown room image contents views =
    sum_map (shown_view room image contents) (λ (view : KeptView). length view.application.files) views

module _ (room : Room) (tables : Tables) (view : View) (contents : List Content) (provider : Target)
    (now : ℕ) (image : List ℕ) (store : Store) (shows : Shows room tables image store)
    (holds : HoldsNew room (Install view contents provider now) image)
    (fits : FitsInstall tables view contents provider now) where
  abbrev same : SameFiles room tables image image
  same = same_image room tables image

  abbrev new : Store
  new =
      installed room tables view contents provider now image image store shows same holds fits

  views_long : length store.views ≡ length tables.views
  views_long =
      ap (λ (s : Store). length s.views) shows.is
      ∙ length-map tables.views (shown_view room image tables.contents)

  files_long : sum_by (λ (v : KeptView). length v.application.files) store.views ≡ listed_files
      tables.views
  files_long =
      ap (λ (s : Store). sum_by (λ (v : KeptView). length v.application.files) s.views) shows.is
      ∙ listed_shown room image tables.contents tables.views

  pub fitting : Fitting provider view.base view.deployment view.application
      (files room tables view contents provider now image image store shows same holds fits)
      (data_files room tables view contents provider now image image store shows same holds fits) now store
  fitting = record {
    deployment = fits.row.deployment;
    application = fits.row.application;
    has_provider = fits.has_provider;
    has_base = fits.row.base;
    moment = fits.moment;
    required =
        entries_of room image _ (standing_entries view.groups view.application)
        ∙ ap (λ (groups : List (List ℕ)). standing_entries groups view.application) fits.groups
        ∙ standing_required view.application;
    data_order =
        pairs_map (shown_data room image) (λ (f g : LocalFile). text_cmp f.name g.name ≡ Less)
        (λ (f g : DataFile). text_cmp f.name g.name ≡ Less) view.locals (λ f g less. less)
        fits.row.order;
    are_data = are_data room image view.locals fits.row.locals;
    few_data = (let few = fits.row.few in omega (arith, count_data room image view.locals));
    entry_room =
        room_is view.deployment.identity.key store.apps
        (subst (λ (apps : List AppState). entry_of view.deployment.identity.key apps ≡ None
        → length apps < APPLICATION_LIMIT) (apps_shown shows) fits.application);
    view_room = (let room = fits.views in omega (arith, views_long));
    number_room =
        subst (λ (n : ℕ). n < 4611686018427387904) (sym (ap (λ (s : Store). s.next_view) shows.is))
        fits.next;
    file_room = (let room = fits.files in omega (arith, files_long));
  }

-- ---- change after change

-- a store in its order that tables show
pub record Shown (room : Room) (tables : Tables) (image : List ℕ) : Type 0 where
  pub store : Store
  pub shows : Shows room tables image store
  pub ordered : Ordered store

-- a current view is among those that are kept
current_number : (views : List KeptView) (key : Key) (number : ℕ) → IsViewOf views key number
    → Contains (map (λ (view : KeptView). view.number) views) number
current_number views key number is =
    contains_in (map (λ (view : KeptView). view.number) views) number
    (subst (λ (n : ℕ). In n (map (λ (view : KeptView). view.number) views)) is.4.0
    (in_map (λ (view : KeptView). view.number) views is.1
    (in_contains views is.1 (is.0, is.2, is.3))))

-- the numbers of the views rise, as those of the store do
numbers_shown : (room : Room) (image : List ℕ) (contents : List Content) (views : List View)
    → map (λ (view : KeptView). view.number) (map (shown_view room image contents) views) ≡ map of_view views
numbers_shown room image contents [] = refl
numbers_shown room image contents (view ∷ views) =
    ap (λ (ns : List ℕ). view.number ∷ ns) (numbers_shown room image contents views)

rows_rising : {room : Room} {tables : Tables} {image : List ℕ} {store : Store}
    → Shows room tables image store → Ordered store
    → AllPairs (λ (m n : ℕ). m < n) (map of_view tables.views)
rows_rising {room = room} {tables = tables} {image = image} shows ordered =
    subst (λ (ns : List ℕ). AllPairs (λ (m n : ℕ). m < n) ns)
    (ap (λ (s : Store). map (λ (view : KeptView). view.number) s.views) shows.is
    ∙ numbers_shown room image tables.contents tables.views) ordered.view_numbers.rising

-- a key with a current view has an entry in the store
known_shown : (key : Key) (tables : Tables) (store : Store) → tables.apps ≡ store.apps
    → IsSome (current_row key tables) → IsSome (entry_of key store.apps)
known_shown key tables store same some =
    subst (λ (apps : List AppState). IsSome (entry_of key apps)) same
    (current_entry key tables some)

-- a group that an application lists has a short name
group_named : (group : List ℕ) (of : Option (List ℕ)) → is_group group of ≡ true
    → IfSome of (IsValue 1 NAME_LIMIT) → IfSome of IsUtf8 → IsShort NAME_LIMIT group
group_named group None is value utf8 = absurd cc
group_named group (Some other) is value utf8 =
    subst (IsShort NAME_LIMIT) ((bytes_eq-Decides other group).0 is)
    (record { within = value.few; utf8 = utf8 })

group_by : (group : List ℕ) (local : Bool) (of : Option (List ℕ))
    → (not local && is_group group of) ≡ true → is_group group of ≡ true
group_by group true of is = absurd cc
group_by group false of is = is

group_short : (group : List ℕ) (application : Application) → IsApplication application
    → ◌≢◌ {A = List FileEntry} (group_files group application) [] → IsShort NAME_LIMIT group
group_short group application is listed =
    let one = some_in (group_files group application) listed in
    let of = filter_in (is_in group) application.files one.0 one.1 in
    group_named group one.0.group (group_by group one.0.local one.0.group of.0)
    (all_in IsFile application.files one.0 is.facts.each of.1).group
    (all_in HasEntry application.files one.0 is.files of.1).group

-- the view of a data file that is put
put_row : (number : ℕ) (file : LocalFile) (tables : Tables) → FitsPut tables number file
    → (view : View) × (row_at number tables.views ≡ Some view) × MayPut file view
put_row number file tables fits = some_with (MayPut file) (row_at number tables.views) fits

few_with : (room : Room) (image : List ℕ) (file : LocalFile) (view : View)
    → outside_locals (with_local file view).locals ≤ LOCAL_COUNT_LIMIT
    → outside_data (with_named data_name (shown_data room image file) (map (shown_data room image) view.locals))
    ≤ LOCAL_COUNT_LIMIT
few_with room image file view few =
    let same = ap (λ (files : List DataFile). outside_data files) (put_agrees room image file view.locals)
    ∙ count_data room image (with_local file view).locals in
    omega (arith, few, same)

pub changed_shown : (room : Room) (image : List ℕ) (old : Tables) (change : Change) → Fits old change
    → HoldsNew room change image → Shown room old image → Shown room (effect change old) image
changed_shown room image old (Boot boot) fits holds shown = record {
  store = booted boot shown.store;
  shows = shows_booted image boot (same_image room old image) shown.shows;
  ordered = booted_ordered boot shown.store fits shown.ordered;
}
changed_shown room image old (Require key version) fits holds shown =
    let less = subst (λ (apps : List AppState). entry_of key apps ≡ None
    → length apps < APPLICATION_LIMIT) (apps_shown shown.shows) fits.2 in
    record {
      store = _;
      shows = shows_required image key version (same_image room old image) shown.shows;
      ordered =
          required_ordered key version shown.store fits.0 fits.1 (room_is key shown.store.apps less)
          shown.ordered;
    }
changed_shown room image old (Install view contents provider now) fits holds shown = record {
  store =
      installed room old view contents provider now image image shown.store shown.shows
      (same_image room old image) holds fits;
  shows =
      shows_installed room old view contents provider now image image shown.store shown.shows
      (same_image room old image) holds fits;
  ordered =
      installed_ordered provider view.base view.deployment view.application _ _ now shown.store
      (fitting room old view contents provider now image shown.store shown.shows holds fits)
      shown.ordered;
}
changed_shown room image old (Heard key version minimum now) fits holds shown =
    let row = value_of (current_row key old) fits.installed in
    let have = row.0.deployment.identity.version in
    let current = sym (version_shown room old key)
    ∙ ap (λ (o : Option View). option_map (λ (v : View). v.deployment.identity.version) o) row.1 in
    let known = known_shown key old shown.store (apps_shown shown.shows) fits.installed in
    record {
      store = record shown.store {
        apps = with_entry key (heard_app have version minimum now) shown.store.apps;
      };
      shows =
          shows_heard room old key have version minimum now image image shown.store shown.shows
          (same_image room old image)
          current;
      ordered =
          entry_ordered key (heard_app have version minimum now) (λ app. refl)
          (λ app some. some) shown.store known
          (heard_is_app key have version minimum now shown.store.views fits.heard fits.least
          fits.moment)
          shown.ordered;
    }
changed_shown room image old (Unheard key) fits holds shown = record {
  store = unheard_store key shown.store;
  shows =
      shows_unheard room old key image image shown.store shown.shows (same_image room old image);
  ordered =
      entry_ordered key unheard_app (λ app. refl) (λ app some. some) shown.store
      (known_shown key old shown.store (apps_shown shown.shows) fits)
      (unheard_is_app shown.store.views) shown.ordered;
}
changed_shown room image old (Skip place) fits holds shown =
    let order : AreInOrder old.apps = subst AreInOrder (sym (apps_shown shown.shows))
    shown.ordered.order in
    let offer = value_of (offer_at place old.apps) fits.offered in
    let app = then_value (λ (a : AppState). a.offer) (slice_get old.apps place) offer.0 offer.1 in
    let entry : entry_of app.0.key old.apps ≡ Some app.0 =
    own_entry old.apps place app.0 order app.1 in
    record {
      store = skipped app.0.key shown.store;
      shows =
          shows_skipped room old app.0.key place offer.0 image image shown.store shown.shows
          (same_image room old image) order (app.1 ∙ sym entry)
          (ap (λ (o : Option AppState). option_and_then (λ (a : AppState). a.offer) o) entry
          ∙ app.2);
      ordered =
          entry_ordered app.0.key skipped_app (λ a. refl) (λ a some. some) shown.store
          (some_there (entry_of app.0.key shown.store.apps) app.0
          (ap (entry_of app.0.key) (sym (apps_shown shown.shows)) ∙ entry))
          (skipped_is_app shown.store.views) shown.ordered;
    }
changed_shown room image old (Rollback place) fits holds shown = record {
  store = rolled_back (back_key room place old image shown.store shown.shows shown.ordered fits)
      (back_version room place old image shown.store shown.shows shown.ordered fits) shown.store;
  shows = back_shown room place old image shown.store shown.shows shown.ordered fits;
  ordered = back_ordered room place old image shown.store shown.shows shown.ordered fits;
}
changed_shown room image old (Launch place) fits holds shown =
    let apps = old.apps in
    let order : AreInOrder apps = subst AreInOrder (sym (apps_shown shown.shows))
    shown.ordered.order in
    let number = value_of (current_at place apps) fits.installed in
    let app = then_value (λ (a : AppState). a.current) (slice_get apps place) number.0 number.1 in
    let key = app.0.key in
    let entry : entry_of key apps ≡ Some app.0 = own_entry apps place app.0 order app.1 in
    let current : current_of key apps ≡ Some number.0 =
    ap (λ (o : Option AppState). option_and_then (λ (a : AppState). a.current) o) entry
    ∙ app.2 in
    let same = apps_shown shown.shows in
    let is_app = all_in (IsApp shown.store.views) apps app.0
    (subst (All (IsApp shown.store.views)) (sym same) shown.ordered.apps)
    (in_place apps place app.0 app.1) in
    record {
      store = launched key number.0 shown.store;
      shows =
          shows_launched room old key place number.0 image image shown.store shown.shows
          (same_image room old image) order (app.1 ∙ sym entry) current;
      ordered = launched_ordered key number.0 shown.store is_app.key
          (some_there (entry_of key shown.store.apps) app.0 (ap (entry_of key) (sym same) ∙ entry))
          (current_number shown.store.views key number.0
          (MatchOption-at_some ⊤ (IsViewOf shown.store.views key) number.0 app.2
          is_app.current))
          (let less = fits.room in subst (λ (leases : List Lease). length leases < LEASE_LIMIT)
          (sym (ap (λ (s : Store). s.leases) shown.shows.is)) less)
          (let left = fits.next in subst (λ (n : ℕ). n < NUMBER_LIMIT)
          (sym (ap (λ (s : Store). s.next_lease) shown.shows.is)) left)
          shown.ordered;
    }
changed_shown room image old (Finish lease) fits holds shown = record {
  store = finished lease shown.store;
  shows = shows_finished image lease (same_image room old image) shown.shows;
  ordered = finished_ordered lease shown.store shown.ordered;
}
changed_shown room image old (Group number group contents) fits holds shown =
    let row = row_grows number group old contents fits in
    let rising = rows_rising shown.shows shown.ordered in
    let is = group_shown room old number group contents row.0 image image shown.store shown.shows
    (same_image room old image) holds rising row.1 row.2 in
    record {
      store = grouped number group (stand_files room image old contents group row.0) shown.store;
      shows = is.shows;
      ordered =
          grouped_ordered number group (stand_files room image old contents group row.0) shown.store
          (shown_view room image old.contents row.0) is.there is.among.order
          (group_short group row.0.application
          (all_in IsView shown.store.views (shown_view room image old.contents row.0) shown.ordered.views
          (view_in number shown.store.views (shown_view room image old.contents row.0) is.there).0).application
          row.2.listed)
          shown.ordered;
    }
changed_shown room image old (Put number file) fits holds shown =
    let row = put_row number file old fits in
    let c = old.contents in
    let there = ap (λ (s : Store). view_at number s.views) shown.shows.is
    ∙ row_shown room image number c old.views ∙ ap (option_map (shown_view room image c)) row.1 in
    record {
      store = put_in number (shown_data room image file) shown.store;
      shows =
          puts_shown room old number file image image shown.store shown.shows
          (same_image room old image) holds;
      ordered =
          put_ordered number (shown_data room image file) (shown_view room image c row.0) shown.store there
          (record { name = row.2.local.name; short = row.2.local.short })
          (few_with room image file row.0 row.2.few) shown.ordered;
    }
changed_shown room image old (Remove number name) fits holds shown = record {
  store = removed_in number name shown.store;
  shows = removals_shown room old number name image image shown.store shown.shows
      (same_image room old image);
  ordered = removed_ordered number name shown.store shown.ordered;
}
changed_shown room image old Clean fits holds shown = record {
  store = cleaned shown.store;
  shows = cleans_shown room old image image shown.store shown.shows (same_image room old image);
  ordered = cleaned_ordered shown.store shown.ordered;
}

room_shown : (room : Room) (tables : Tables) (image : List ℕ) (store : Store)
    → Shows room tables image store → used_blocks (map bare_row tables.views) ≤ room.blocks
    → used_blocks (map bare_view store.views) ≤ store.room.blocks
room_shown room tables image store shows few =
    let shape : shape_of (session_over store) ≡ table_shape room tables = shape_shown (session_over store) refl shows in
    let used : used_blocks (map bare_view store.views) ≡ used_blocks (map bare_row tables.views) =
    ap (λ (s : Shape). used_blocks s.views) shape in
    let same : store.room.blocks ≡ room.blocks = ap (λ (s : Shape). s.room.blocks) shape in
    omega (arith, few, used, same)

light_shown : (room : Room) (tables : Tables) (image : List ℕ) (store : Store)
    → Shows room tables image store
    → IsLight room (weight_of (map bare_row tables.views) tables.apps)
    → IsLight store.room (weight_of (map bare_view store.views) store.apps)
light_shown room tables image store shows light =
    subst (λ (s : Shape). IsLight s.room (weight_of s.views s.apps))
    (sym (shape_shown (session_over store) refl shows)) light

as_ordered : (room : Room) (tables : Tables) (image : List ℕ) → Shown room tables image
    → ShowsOrdered room tables image
as_ordered room tables image shown = record {
  store = shown.store;
  shows = shown.shows;
  ordered = shown.ordered;
  valid =
      λ few light. record {
        ordered = shown.ordered;
        room = room_shown room tables image shown.store shown.shows few;
        light = light_shown room tables image shown.store shown.shows light;
      };
}

pub change_ordered : (room : Room) (tables : Tables) (change : Change) (image later : List ℕ)
    (store : Store) → Shows room tables image store → Ordered store
    → SameFiles room tables image later → HoldsNew room change later → Fits tables change
    → ShowsOrdered room (effect change tables) later
change_ordered room tables change image later store shows ordered same holds fits =
    as_ordered room (effect change tables) later
    (changed_shown room later tables change fits holds
    (record { store = store; shows = shows_same later same shows; ordered = ordered }))
