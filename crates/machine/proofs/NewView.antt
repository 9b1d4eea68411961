-- A store with one more view is within its order and its limits.
use Rattle.std.proofs.Common.{◌≡◌, ◌∙◌, ◌++◌, ◌+◌, ◌&&◌, ◌<◌, ◌≤◌, refl, sym, subst, ℕ, Bool, true, false, cond, not, List, [], ◌∷◌, length, map, All, AllPairs, Contains, Option, Some, None, IsSome, is_none, arith, length-append}
use Rattle.std.specs.Prelude.{IfSome, IsSomeAnd, count_by, filter, sum_by}
use Rattle.std.specs.Ordering.{is_lt}
use Rattle.std.specs.declared.cmp.Ordering.TheVariants.{Less, Equal}
use Rattle.std.proofs.lemmas.List.{map-append}
use Rattle.std.proofs.lemmas.List.Elements.{All-push, All-weaker, Contains-append_left, filter_agree}
use Rattle.std.proofs.lemmas.List.Sums.{sum_by_push}
use Rattle.small_types.specs.declared.limits.TheConstants.{APPLICATION_LIMIT, FILE_COUNT_LIMIT, LOCAL_COUNT_LIMIT, NUMBER_LIMIT, VIEW_LIMIT}
use Rattle.small_types.specs.declared.target.Target.{Target}
use Rattle.identity.specs.declared.key.Key.{Key}
use Rattle.identity.specs.declared.version.Version.{Version}
use Rattle.identity.specs.Printed.{text_cmp}
use Rattle.identity.specs.Version.{IsVersion, version_cmp}
use Rattle.manifests.specs.declared.facts.Application.{Application}
use Rattle.manifests.specs.declared.facts.Deployment.{Deployment}
use Rattle.manifests.specs.declared.facts.FileEntry.{FileEntry}
use Rattle.manifests.specs.Applications.{is_below_pre}
use Rattle.machine.specs.declared.app.AppState.{AppState}
use Rattle.machine.specs.declared.lease.Lease.{Lease}
use Rattle.machine.specs.Entries.{entry_of, fresh, key_cmp, with_entry}
use Rattle.machine.specs.Fields.{IsApplication, IsDeployment, IsTarget}
use Rattle.machine.specs.Installed.{above, installed_app, new_view, raised_by, with_view}
use Rattle.machine.specs.Store.{Store}
use Rattle.machine.specs.Valid.{AreNumbers, IsApp, IsDataFile, IsInstalled, IsView, IsViewOf, Ordered}
use Rattle.machine.specs.Views.{DataFile, ListedFile, View, is_required, key_of, standing_entries, stands_by}
use Rattle.machine.proofs.EntryOrder.{All-with_changed, entry_of-with_entry, order-with_entry}
use Rattle.machine.proofs.KeptStores.{installed-with_entry, length-with_entry, version-raised}
use Rattle.machine.proofs.Keys.{equal_keys}
use Rattle.machine.proofs.Members.{all_in, any_last, any_left, in_contains, in_map}
use Rattle.machine.proofs.OtherViews.{same_app, still}
use Rattle.machine.proofs.NumberLists.{push_numbers}
use Rattle.machine.proofs.Shortness.{short_key}

-- what the parts of a new view have to be, and what room the store has to have
pub record Fitting (provider base : Target) (d : Deployment) (a : Application) (files : List ListedFile) (data_files : List DataFile) (now : ℕ) (old : Store) : Type 0 where
  pub deployment : IsDeployment d
  pub application : IsApplication a
  pub has_provider : IsTarget provider
  pub has_base : IsTarget base
  pub moment : now ≤ NUMBER_LIMIT
  pub required : map (λ (file : ListedFile). file.entry) files ≡ filter is_required a.files
  pub data_order : AllPairs (λ (f g : DataFile). text_cmp f.name g.name ≡ Less) data_files
  pub are_data : All IsDataFile data_files
  pub few_data : count_by (λ (file : DataFile). not (is_below_pre file.name)) data_files ≤ LOCAL_COUNT_LIMIT
  pub entry_room : ¬ ((entry_of d.identity.key old.apps ≡ None) × (APPLICATION_LIMIT ≤ length old.apps))
  pub view_room : length old.views < VIEW_LIMIT
  pub number_room : old.next_view < NUMBER_LIMIT
  pub file_room : sum_by (λ (view : View). length view.application.files) old.views + length a.files ≤ FILE_COUNT_LIMIT

-- ---- the program files that stand without a group

no_group : (group : Option (List ℕ)) (local : Bool) → (not local && stands_by [] group) ≡ (not local && is_none group)
no_group None local = refl
no_group (Some group) local = refl

pub standing_required : (a : Application) → standing_entries [] a ≡ filter is_required a.files
standing_required a = filter_agree (λ (entry : FileEntry). not entry.local && stands_by [] entry.group) is_required (λ entry. no_group entry.group entry.local) a.files

-- ---- versions

pub version-above : (installed : Version) (version : Option Version) → IfSome version IsVersion → IfSome (above installed version) IsVersion
version-above installed None is = tt
version-above installed (Some version) is = by (is_lt (version_cmp installed version))
  where
    by : (b : Bool) → IfSome (cond b (Some version) None) IsVersion
    by true = is
    by false = tt

pub version-raised_by : (heard old : Option Version) → IfSome heard IsVersion → IfSome old IsVersion → IfSome (raised_by heard old) IsVersion
version-raised_by None old first second = second
version-raised_by (Some heard) old first second = version-raised old heard second first

-- ---- the store

module _ (provider base : Target) (d : Deployment) (a : Application) (files : List ListedFile) (data_files : List DataFile) (now : ℕ) (old : Store) (fit : Fitting provider base d a files data_files now old) (was : Ordered old) where
  abbrev number : ℕ
  number = old.next_view

  abbrev key : Key
  key = d.identity.key

  abbrev view : View
  view = new_view old.next_view base d a files data_files

  abbrev views : List View
  views = old.views ++ new_view old.next_view base d a files data_files ∷ []

  abbrev change : AppState → AppState
  change app = installed_app old.next_view d provider now app

  its_view : (k : Key) → k ≡ key → IsViewOf views k number
  its_view k same = any_last (λ (v : View). (v.number ≡ number) × (key_of v ≡ k)) old.views view (refl, sym same)

  stays : (k : Key) (n : ℕ) → IsViewOf old.views k n → IsViewOf views k n
  stays k n is = any_left (λ (v : View). (v.number ≡ n) × (key_of v ≡ k)) old.views (view ∷ []) is

  -- a kept view has a smaller number
  smaller : (k : Key) → IsViewOf old.views k number → ⊥
  smaller k found =
      let there = in_map (λ (v : View). v.number) old.views found.1 (in_contains old.views found.1 (found.0, found.2, found.3)) in
      let less : found.1.number < number = all_in (λ (n : ℕ). n < number) (map (λ (v : View). v.number) old.views) found.1.number was.view_numbers.below there in
      let same : found.1.number ≡ number = found.4.0 in
      absurd (omega (arith, less, same))

  is_view : IsView view
  is_view = record {
    deployment = fit.deployment;
    application = fit.application;
    base = fit.has_base;
    groups = λ k d lt. absurd (omega arith);
    files = fit.required ∙ sym (standing_required a);
    data_order = fit.data_order;
    data_files = fit.are_data;
    few_data = fit.few_data;
  }

  changed_app : (app : AppState) → key_cmp app.key key ≡ Equal → IsApp old.views app → IsApp views (change app)
  changed_app app equal is =
      let same = equal_keys app.key key is.key (short_key fit.deployment.identity.key) equal in
      record {
        key = is.key;
        provider = fit.has_provider;
        current = its_view app.key same;
        previous = still old.views views stays app.key app.current is.current;
        minimum = version-raised_by d.minimum app.minimum fit.deployment.minimum is.minimum;
        offer = version-above d.identity.version app.offer is.offer;
        skipped = version-above d.identity.version app.skipped is.skipped;
        excluded = version-above d.identity.version app.excluded is.excluded;
        last_check = fit.moment;
        beside = λ some. refl;
        other = λ n current previous. smaller app.key (subst (λ (o : Option ℕ). IfSome o (IsViewOf old.views app.key)) (previous ∙ sym current) is.current);
        provided = λ some. refl;
      }

  made_app : IsApp views (change (fresh key))
  made_app = record {
    key = short_key fit.deployment.identity.key;
    provider = fit.has_provider;
    current = its_view key refl;
    previous = tt;
    minimum = version-raised_by d.minimum None fit.deployment.minimum tt;
    offer = tt;
    skipped = tt;
    excluded = tt;
    last_check = fit.moment;
    beside = λ some. refl;
    other = λ n current previous. absurd cc;
    provided = λ some. refl;
  }

  keeps_key : (app : AppState) → (change app).key ≡ app.key
  keeps_key app = refl

  keeps_current : (app : AppState) → IsSome app.current → IsSome (change app).current
  keeps_current app some = refl

  apps : List AppState
  apps = with_entry key change old.apps

  is_installed : IsInstalled apps key
  unfolding apps
  is_installed = subst (λ (e : Option AppState). IsSomeAnd e (λ (app : AppState). IsSome app.current)) (sym (entry_of-with_entry key change keeps_key old.apps)) refl

  view_leased : All (λ (lease : Lease). Contains (map (λ (v : View). v.number) views) lease.view) old.leases
  view_leased = All-weaker (λ (lease : Lease). Contains (map (λ (v : View). v.number) old.views) lease.view) (λ (lease : Lease). Contains (map (λ (v : View). v.number) views) lease.view) (λ lease there. subst (λ (ns : List ℕ). Contains ns lease.view) (sym (map-append (λ (v : View). v.number) old.views (view ∷ []))) (Contains-append_left (map (λ (v : View). v.number) old.views) (number ∷ []) lease.view there)) old.leases was.leased

  pub installed_ordered : Ordered (with_view provider base d a files data_files now old)
  unfolding apps
  installed_ordered = record {
    some_blocks = was.some_blocks;
    few_blocks = was.few_blocks;
    boot = was.boot;
    lease_numbers = was.lease_numbers;
    few_leases = was.few_leases;
    leased = view_leased;
    view_numbers = subst (λ (ns : List ℕ). AreNumbers (number + 1) ns) (sym (map-append (λ (v : View). v.number) old.views (view ∷ []))) (push_numbers number (map (λ (v : View). v.number) old.views) was.view_numbers fit.number_room);
    few_views = (let room = fit.view_room in omega (arith, length-append old.views (view ∷ [])));
    few_files = (let room = fit.file_room in omega (arith, sum_by_push (λ (v : View). length v.application.files) old.views view));
    views = All-push IsView old.views view was.views is_view;
    installed = All-push (λ (v : View). IsInstalled apps (key_of v)) old.views view (installed-with_entry key change keeps_key keeps_current old.apps old.views was.installed) is_installed;
    order = order-with_entry key change keeps_key old.apps was.order;
    few_apps = length-with_entry key change keeps_key keeps_current old.apps APPLICATION_LIMIT was.few_apps fit.entry_room;
    apps = All-with_changed key change keeps_key (IsApp old.views) (IsApp views) made_app changed_app (same_app old.views views stays) old.apps was.apps;
  }
