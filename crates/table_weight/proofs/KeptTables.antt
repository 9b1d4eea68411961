-- What holds of all tables holds after a change that fits.
use Rattle.std.proofs.Common.{◌≡◌, ◌≤◌, ◌+◌, refl, sym, ap, subst, ℕ, Bool, true, false, cond, eqb, set, List, [], length, map, IsSome, Option, Some, None, arith}
use Rattle.std.specs.Prelude.{option_map, slice_get, unwrap_or}
use Rattle.std.specs.Option.{option_map_or}
use Rattle.std.proofs.lemmas.Cmp.{tied_itself}
use Rattle.std.proofs.lemmas.List.{length_push}
use Rattle.small_types.specs.declared.limits.TheConstants.{LEASE_LIMIT}
use Rattle.identity.specs.declared.key.Key.{Key}
use Rattle.identity.specs.declared.version.Version.{Version}
use Rattle.identity.specs.Key.{key_text}
use Rattle.machine.specs.declared.app.AppState.{AppState}
use Rattle.machine.specs.declared.lease.Lease.{Lease}
use Rattle.machine.specs.CheckRow.{heard_app, unheard_app}
use Rattle.machine.specs.Entries.{KeepsKeys, entry_of, with_entry}
use Rattle.machine.specs.LaunchRow.{started_app}
use Rattle.machine.specs.Leases.{with_lease, without_lease}
use Rattle.machine.specs.Minimums.{raised_app}
use Rattle.machine.specs.RequireRow.{required}
use Rattle.machine.specs.RollbackRow.{rolled_back_app}
use Rattle.machine.specs.SkipRow.{skipped_app}
use Rattle.machine.specs.Valid.{AreNumbers}
use Rattle.machine.proofs.EntryOrder.{length-with_known, order-with_entry}
use Rattle.machine.proofs.EntryOrder.{order as text_order}
use Rattle.machine.proofs.FirstFound.{some_there, value_of}
use Rattle.machine.proofs.LeaseLists.{numbers_more}
use Rattle.store_state.specs.declared.change.Change.TheVariants.{Boot, Require, Install, Heard, Unheard, Skip, Rollback, Launch, Finish, Group, Put, Remove, Clean}
use Rattle.store_state.specs.Change.{FitsLaunch, leased}
use Rattle.store_state.specs.Dropped.{removable_in}
use Rattle.store_state.specs.Kept.{AreTables}
use Rattle.store_state.specs.Locals.{local_name}
use Rattle.store_state.specs.Rows.{current_at, current_version, version_at, with_app}
use Rattle.store_state.specs.Tables.{Tables}
use Rattle.store_state.proofs.CheckedApps.{current_entry, own_entry}
use Rattle.store_state.proofs.Edited.{edited_tables, left_row, put_row}
use Rattle.store_state.proofs.GrownTables.{grown_tables, row_grows}
use Rattle.store_state.proofs.ChangedTables.{few_raised, installed_tables, no_leases, with_apps, with_fewer, with_leases}
use Rattle.store_state.proofs.Placed.{placed_entry}
use Rattle.store_state.proofs.WithoutRows.{dropped_tables}
use Rattle.machine.specs.DataFiles.{with_named, without_named}
use Rattle.table_weight.specs.Laws.{StayTables}

-- ---- an application that is changed

-- that at a place, by what stands there
pub at_place : (f : AppState → AppState) (apps : List AppState) (place : ℕ) (o : Option AppState)
    → slice_get apps place ≡ o
    → with_app place f apps
    ≡ unwrap_or (option_map (λ (app : AppState). set apps place (f app)) o) apps
at_place f apps place o is =
    ap (λ (p : Option AppState). unwrap_or
    (option_map (λ (app : AppState). set apps place (f app)) p) apps) is

module _ (tables : Tables) (are : AreTables tables) (f : AppState → AppState) (keeps : KeepsKeys f)
  where
    -- that of a key
    known_changed : (key : Key) → IsSome (entry_of key tables.apps)
        → AreTables (record tables { apps = with_entry key f tables.apps })
    known_changed key some =
        let app = value_of (entry_of key tables.apps) some in
        with_apps tables (with_entry key f tables.apps) are
        (order-with_entry key f keeps tables.apps are.order)
        (omega (arith, are.few_apps, length-with_known key f keeps tables.apps app.0 app.1))

    changed_by : (place : ℕ) (o : Option AppState) → slice_get tables.apps place ≡ o
        → AreTables (record tables { apps = with_app place f tables.apps })
    changed_by place None is =
        subst (λ (apps : List AppState). AreTables (record tables { apps = apps }))
        (sym (at_place f tables.apps place None is)) are
    changed_by place (Some app) is =
        let entry = own_entry tables.apps place app are.order is in
        subst (λ (apps : List AppState). AreTables (record tables { apps = apps }))
        (placed_entry app.key f tables.apps place app are.order is
        (tied_itself text_order (key_text app.key)))
        (known_changed app.key (some_there (entry_of app.key tables.apps) app entry))

    place_changed : (place : ℕ) → AreTables (record tables { apps = with_app place f tables.apps })
    place_changed place = changed_by place (slice_get tables.apps place) refl

-- ---- leases

module _ (tables : Tables) (are : AreTables tables) where
  numbers_left : (same : Bool) → AreNumbers tables.next_lease
      (map (λ (lease : Lease). lease.number) (cond same tables.leases []))
  numbers_left true = are.lease_numbers
  numbers_left false = no_leases tables.next_lease are.lease_numbers.limit

  few_left : (same : Bool) → length (cond same tables.leases []) ≤ LEASE_LIMIT
  few_left true = are.few_leases
  few_left false = omega arith

  -- one more
  leased_tables : (app view : ℕ) → FitsLaunch tables app → AreTables (leased view tables)
  leased_tables app view fits =
      let room = fits.room in
      let new : Lease = record { number = tables.next_lease; view = view } in
      with_leases tables tables.boot (tables.next_lease + 1)
      (with_lease tables.next_lease view tables.leases) are
      (numbers_more tables.next_lease view tables.leases fits.next are.lease_numbers)
      (omega (arith, room, length_push tables.leases new))

-- ---- what may be found or not

module _ (tables : Tables) (are : AreTables tables) where
  heard_by : (key : Key) (version : Version) (minimum : Option Version) (now : ℕ)
      → IsSome (entry_of key tables.apps) → (o : Option Version)
      → AreTables (option_map_or (λ (have : Version). record tables {
        apps = with_entry key (heard_app have version minimum now) tables.apps;
      }) o tables)
  heard_by key version minimum now some None = are
  heard_by key version minimum now some (Some have) =
      known_changed tables are (heard_app have version minimum now) (λ app. refl) key some

  back_by : (place : ℕ) (o : Option Version)
      → AreTables (option_map_or (λ (have : Version). record tables {
        apps = with_app place (rolled_back_app have) tables.apps;
      }) o tables)
  back_by place None = are
  back_by place (Some have) =
      place_changed tables are (rolled_back_app have) (λ app. refl) place

  started_by : (place : ℕ) → FitsLaunch tables place → (o : Option ℕ)
      → AreTables (option_map_or (λ (view : ℕ). record (leased view tables) {
        apps = with_app place started_app tables.apps;
      }) o tables)
  started_by place fits None = are
  started_by place fits (Some view) =
      place_changed (leased view tables) (leased_tables tables are place view fits) started_app
      (λ app. refl) place

-- ---- each change

pub kept_tables : StayTables
kept_tables tables (Boot boot) are fits =
    with_leases tables boot tables.next_lease (cond (eqb tables.boot boot) tables.leases []) are
    (numbers_left tables are (eqb tables.boot boot)) (few_left tables are (eqb tables.boot boot))
kept_tables tables (Require key version) are fits =
    with_apps tables (required key version tables.apps) are
    (order-with_entry key (raised_app version) (λ app. refl) tables.apps are.order)
    (few_raised key version tables.apps (required key version tables.apps) are.few_apps fits.2
    refl)
kept_tables tables (Install view contents provider now) are fits =
    installed_tables tables view contents provider now are fits
kept_tables tables (Heard key version minimum now) are fits =
    heard_by tables are key version minimum now (current_entry key tables fits.installed)
    (current_version key tables)
kept_tables tables (Unheard key) are fits =
    known_changed tables are unheard_app (λ app. refl) key (current_entry key tables fits)
kept_tables tables (Skip place) are fits =
    place_changed tables are skipped_app (λ app. refl) place
kept_tables tables (Rollback place) are fits =
    back_by tables are place (version_at place tables)
kept_tables tables (Launch place) are fits =
    started_by tables are place fits (current_at place tables.apps)
kept_tables tables (Finish lease) are fits =
    with_fewer tables lease (without_lease lease tables.leases) are refl
kept_tables tables (Group number group contents) are fits =
    let row = row_grows number group tables contents fits in
    grown_tables tables number group contents row.0 are row.1 row.2
kept_tables tables (Put number file) are fits =
    edited_tables number (with_named local_name file) tables are
    (put_row number file refl are fits)
kept_tables tables (Remove number name) are fits =
    edited_tables number (without_named local_name name) tables are
    (left_row number name {inside = tables} {now = tables} refl)
kept_tables tables Clean are fits = dropped_tables (removable_in tables) tables are
