-- Tables once they are changed.
use Rattle.std.proofs.Common.{◌≡◌, ◌∙◌, ◌++◌, ◌+◌, ◌<◌, ◌≤◌, refl, sym, ap, subst, ℕ, List, [], ◌∷◌, length, map, get_or, take, None, All, AllPairs, arith}
use Rattle.std.proofs.lemmas.Grind.{flat_map-append}
use Rattle.std.proofs.lemmas.List.{append-nil, get_or_push, length_push, map-append}
use Rattle.std.proofs.Math.Seq.{take-append_seam}
use Rattle.std.proofs.lemmas.List.Elements.{All-nil, All-push, All-weaker}
use Rattle.std.proofs.lemmas.List.Sums.{sum_by_push}
use Rattle.small_types.specs.declared.limits.TheConstants.{APPLICATION_LIMIT, LEASE_LIMIT, NUMBER_LIMIT}
use Rattle.small_types.specs.declared.target.Target.{Target}
use Rattle.identity.specs.declared.key.Key.{Key}
use Rattle.identity.specs.declared.version.Version.{Version}
use Rattle.manifests.specs.declared.facts.FileEntry.{FileEntry}
use Rattle.machine.specs.declared.app.AppState.{AppState}
use Rattle.machine.specs.declared.lease.Lease.{Lease}
use Rattle.machine.specs.Blocks.{standing_files}
use Rattle.machine.specs.Entries.{AreInOrder, entry_of, with_entry}
use Rattle.machine.specs.Installed.{installed_app}
use Rattle.machine.specs.Leases.{without_lease}
use Rattle.machine.specs.Minimums.{raised_app}
use Rattle.machine.specs.Shape.{BareView}
use Rattle.machine.specs.Valid.{AreNumbers}
use Rattle.machine.specs.Views.{standing_entries}
use Rattle.machine.proofs.EntryOrder.{order-with_entry}
use Rattle.machine.proofs.KeptStores.{length-with_entry}
use Rattle.machine.proofs.LeaseLists.{fewer_leases, numbers_fewer}
use Rattle.machine.proofs.Members.{pairs_push}
use Rattle.store_state.specs.declared.change.Change.TheVariants.{Install}
use Rattle.store_state.specs.declared.view.Content.{Content}
use Rattle.store_state.specs.declared.view.View.{View}
use Rattle.store_state.specs.Change.{FitsInstall, IsRow, effect}
use Rattle.store_state.specs.Contents.{AreContentsOf}
use Rattle.store_state.specs.Kept.{AreTables}
use Rattle.store_state.specs.Tables.{Tables, bare_row}
use Rattle.store_state.proofs.Keyed.{joined}

pub with_apps : (tables : Tables) (apps : List AppState) → AreTables tables → AreInOrder apps
    → length apps ≤ APPLICATION_LIMIT → AreTables (record tables { apps = apps })
with_apps tables apps are order few = record {
  order = order;
  few_apps = few;
  rising = are.rising;
  below = are.below;
  limit = are.limit;
  few_views = are.few_views;
  few_files = are.few_files;
  lease_numbers = are.lease_numbers;
  few_leases = are.few_leases;
  rows = are.rows;
  contents = are.contents;
}

pub with_leases : (tables : Tables) (boot next : ℕ) (leases : List Lease) → AreTables tables
    → AreNumbers next (map (λ (lease : Lease). lease.number) leases) → length leases ≤ LEASE_LIMIT
    → AreTables (record tables { boot = boot; next_lease = next; leases = leases })
with_leases tables boot next leases are numbers few = record {
  order = are.order;
  few_apps = are.few_apps;
  rising = are.rising;
  below = are.below;
  limit = are.limit;
  few_views = are.few_views;
  few_files = are.few_files;
  lease_numbers = numbers;
  few_leases = few;
  rows = are.rows;
  contents = are.contents;
}

-- no leases
pub no_leases : (next : ℕ) → next ≤ NUMBER_LIMIT → AreNumbers next []
no_leases next few =
    record { rising = λ i j d lt within. absurd (omega arith); below = All-nil _; limit = few }

pub with_fewer : (tables : Tables) (number : ℕ) (left : List Lease) → AreTables tables
    → left ≡ without_lease number tables.leases → AreTables (record tables { leases = left })
with_fewer tables number left are is =
    rw is (with_leases tables tables.boot tables.next_lease (without_lease number tables.leases) are
    (numbers_fewer number tables.next_lease tables.leases are.lease_numbers)
    (omega (arith, are.few_leases, fewer_leases number tables.leases)))

-- where the key is known or there is room, there are few enough still
pub room_is : (key : Key) (apps : List AppState)
    → (entry_of key apps ≡ None → length apps < APPLICATION_LIMIT)
    → ¬ ((entry_of key apps ≡ None) × (APPLICATION_LIMIT ≤ length apps))
room_is key apps room = λ full. (let few = room full.0 in let many = full.1 in absurd (omega arith))

pub few_raised : (key : Key) (version : Version) (apps new : List AppState)
    → length apps ≤ APPLICATION_LIMIT → (entry_of key apps ≡ None → length apps < APPLICATION_LIMIT)
    → new ≡ with_entry key (raised_app version) apps → length new ≤ APPLICATION_LIMIT
few_raised key version apps new few room is =
    subst (λ (xs : List AppState). length xs ≤ APPLICATION_LIMIT) (sym is)
    (length-with_entry key (raised_app version) (λ app. refl) (λ app some. some) apps
    APPLICATION_LIMIT few (room_is key apps room))

pub standing_push : (views : List View) (view : View)
    → standing_files (map bare_row (views ++ view ∷ [])) ≡ standing_files
    (map bare_row views) ++ standing_entries view.groups view.application
standing_push views view =
    ap standing_files (map-append bare_row views (view ∷ []))
    ∙ flat_map-append (λ (v : BareView). standing_entries v.groups v.application)
    (map bare_row views) (bare_row view ∷ [])
    ∙ ap (λ (entries : List FileEntry). standing_files (map bare_row views) ++ entries)
    (append-nil (standing_entries view.groups view.application))

pub installed_tables : (tables : Tables) (view : View) (contents : List Content) (provider : Target)
    (now : ℕ) → AreTables tables → FitsInstall tables view contents provider now
    → AreTables (effect (Install view contents provider now) tables)
installed_tables tables view contents provider now are fits =
    let numbers = map-append (λ (v : View). v.number) tables.views (view ∷ []) in
    let pushed : map (λ (v : View). v.number) (tables.views ++ view ∷ []) ≡ map
    (λ (v : View). v.number) tables.views ++ tables.next_view ∷ [] =
    numbers ∙ ap (λ (n : ℕ). map (λ (v : View). v.number) tables.views ++ n ∷ []) fits.number in
    record {
      order =
          order-with_entry view.deployment.identity.key
          (installed_app view.number view.deployment provider now) (λ app. refl) tables.apps
          are.order;
      few_apps =
          length-with_entry view.deployment.identity.key
          (installed_app view.number view.deployment provider now) (λ app. refl) (λ app some. refl)
          tables.apps APPLICATION_LIMIT are.few_apps
          (room_is view.deployment.identity.key tables.apps fits.application);
      rising =
          subst (λ (ns : List ℕ). AllPairs (λ (m n : ℕ). m < n) ns) (sym pushed)
          (pairs_push (λ (m n : ℕ). m < n) (map (λ (v : View). v.number) tables.views)
          tables.next_view are.below are.rising);
      below =
          subst (λ (ns : List ℕ). All (λ (n : ℕ). n < tables.next_view + 1) ns) (sym pushed)
          (All-push (λ (n : ℕ). n < tables.next_view + 1)
          (map (λ (v : View). v.number) tables.views) tables.next_view
          (All-weaker (λ (n : ℕ). n < tables.next_view) (λ (n : ℕ). n < tables.next_view + 1)
          (λ n lt. omega arith) (map (λ (v : View). v.number) tables.views) are.below)
          (omega arith));
      limit = (let room = fits.next in omega arith);
      few_views = (let room = fits.views in omega (arith, length_push tables.views view));
      few_files =
          (let room = fits.files
          in omega (
            arith,
            sum_by_push (λ (v : View). length v.application.files) tables.views
                view,
          ));
      lease_numbers = are.lease_numbers;
      few_leases = are.few_leases;
      rows = All-push IsRow tables.views view are.rows fits.row;
      contents =
          subst (λ (entries : List FileEntry). AreContentsOf entries (tables.contents ++ contents))
          (sym (standing_push tables.views view))
          (joined (standing_files (map bare_row tables.views))
          (standing_entries view.groups view.application) tables.contents contents are.contents
          fits.brings);
    }

-- ---- an install, as it goes

-- one view more stands at the end
pub read_last : {X : Type 0} (xs list : List X) (x read : X) (n : ℕ) → n ≡ length xs
    → list ≡ xs ++ x ∷ [] → read ≡ get_or list n read → read ≡ x
read_last xs list x read n long is at =
    at ∙ ap (λ ys. get_or ys n read) is ∙ get_or_push xs x read n (sym long)

-- what was added is cut off
pub cut_back : {X : Type 0} (xs ys added left : List X) (n : ℕ) → n ≡ length xs → added ≡ xs ++ ys
    → left ≡ take n added → left ≡ xs
cut_back xs ys added left n long is cut =
    cut ∙ ap (λ k. take k added) long ∙ ap (λ zs. take (length xs) zs) is ∙ take-append_seam xs ys

-- the application of the view that is read is that of the view that was added
pub made_apps : (view read : View) (provider : Target) (now : ℕ) (apps new : List AppState)
    → read ≡ view
    → new ≡ with_entry read.deployment.identity.key
    (installed_app read.number read.deployment provider now) apps
    → new ≡ with_entry view.deployment.identity.key
    (installed_app view.number view.deployment provider now) apps
made_apps view read provider now apps new is changed =
    changed ∙ ap (λ (v : View). with_entry v.deployment.identity.key (installed_app v.number v.deployment provider now) apps) is

pub same_tables : (tables : Tables) (views : List View) (apps : List AppState)
    (contents : List Content) → views ≡ tables.views → apps ≡ tables.apps
    → contents ≡ tables.contents → AreTables tables
    → AreTables (record tables { views = views; apps = apps; contents = contents })
same_tables tables views apps contents same_views same_apps same_contents are =
    rw (same_views, same_apps, same_contents) are

pub made_tables : (tables : Tables) (view read : View) (views : List View) (apps : List AppState)
    (new contents : List Content) (provider : Target) (now : ℕ) → AreTables tables
    → FitsInstall tables view new provider now → read ≡ view → views ≡ tables.views ++ view ∷ []
    → apps ≡ with_entry read.deployment.identity.key
    (installed_app read.number read.deployment provider now) tables.apps
    → contents ≡ tables.contents ++ new
    → AreTables (record tables {
      next_view = tables.next_view + 1;
      views = views;
      apps = apps;
      contents = contents;
    })
made_tables tables view read views apps new contents provider now are fits is added changed more =
    let made = installed_tables tables view new provider now are fits in
    let changed_by : apps ≡ with_entry view.deployment.identity.key
    (installed_app view.number view.deployment provider now) tables.apps = changed
    ∙ ap (λ (v : View). with_entry v.deployment.identity.key
    (installed_app v.number v.deployment provider now) tables.apps) is in
    rw (added, changed_by, more) made
