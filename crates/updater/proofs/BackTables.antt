-- The previous view of an application, in the tables.
use Rattle.std.proofs.Common.{◌≡◌, ◌∙◌, ℕ, Option, Some, None, sym, ap, subst}
use Rattle.std.specs.Prelude.{IsSomeAnd, option_and_then, option_map, slice_get}
use Rattle.std.proofs.lemmas.Option.{none-some}
use Rattle.small_types.specs.declared.room.Room.{Room}
use Rattle.identity.specs.declared.key.Key.{Key}
use Rattle.identity.specs.declared.version.Version.{Version}
use Rattle.identity.specs.Version.{IsBelow}
use Rattle.machine.specs.declared.app.AppState.{AppState}
use Rattle.machine.specs.Current.{current_bare, current_of, current_version}
use Rattle.machine.specs.Entries.{entry_of}
use Rattle.machine.specs.Minimums.{minimum_of}
use Rattle.machine.specs.Previous.{numbered_bare, previous_of, previous_version}
use Rattle.machine.specs.RollbackRow.{IsPreviousBelow}
use Rattle.machine.specs.Shape.{BareView}
use Rattle.machine.proofs.FirstFound.{some_there}
use Rattle.store_state.specs.declared.view.View.{View}
use Rattle.store_state.specs.Change.{FitsRollback}
use Rattle.store_state.specs.Rows.{current_row, current_row_at, previous_row, previous_row_at, row_at}
use Rattle.store_state.specs.Tables.{Tables, bare_row, table_shape}
use Rattle.updater.specs.RollbackStep.{IsRollbackStep}

module _ (key : Key) (tables : Tables) (row earlier : View) (place : ℕ)
    (current : Some row ≡ current_row key tables)
    (bare : (room : Room) → Some (bare_row row) ≡ current_bare key (table_shape room tables))
    (previous : Some earlier ≡ previous_row key tables)
    (bare_previous : (room : Room) → Some (bare_row earlier)
    ≡ numbered_bare (previous_of key tables.apps) (table_shape room tables))
    (placed : slice_get tables.apps place ≡ entry_of key tables.apps)
    (free : (minimum : Version) → minimum_of key tables.apps ≡ Some minimum
    → ¬ IsBelow earlier.deployment.identity.version minimum) where
  is_current : (room : Room)
      → current_version key (table_shape room tables) ≡ Some row.deployment.identity.version
  is_current room =
      ap (option_map (λ (v : BareView). v.deployment.identity.version)) (sym (bare room))

  is_previous : (room : Room)
      → previous_version key (table_shape room tables)
      ≡ Some earlier.deployment.identity.version
  is_previous room =
      ap (option_map (λ (v : BareView). v.deployment.identity.version)) (sym (bare_previous room))

  installed : ¬ (current_of key tables.apps ≡ None)
  installed none =
      none-some row (sym (ap (option_and_then (λ (n : ℕ). row_at n tables.views)) none)
      ∙ sym current)

  has_previous : ¬ (previous_of key tables.apps ≡ None)
  has_previous none =
      none-some earlier (sym (ap (option_and_then (λ (n : ℕ). row_at n tables.views)) none)
      ∙ sym previous)

  not_below : (room : Room) (minimum : Version)
      → ¬ IsPreviousBelow key (table_shape room tables) minimum
  not_below room minimum below =
      free minimum below.0 (subst (λ (o : Option Version). IsSomeAnd o (λ v. IsBelow v minimum))
      (is_previous room) below.1)

  fits_back : FitsRollback tables place
  fits_back = record {
    installed = some_there (current_row_at place tables) row
        (ap (λ (o : Option AppState). option_and_then (λ (n : ℕ). row_at n tables.views)
        (option_and_then (λ (app : AppState). app.current) o)) placed ∙ sym current);
    earlier = some_there (previous_row_at place tables) earlier
        (ap (λ (o : Option AppState). option_and_then (λ (n : ℕ). row_at n tables.views)
        (option_and_then (λ (app : AppState). app.previous) o)) placed ∙ sym previous);
  }

  pub goes_back : IsRollbackStep key tables
      (record { app = place; version = earlier.deployment.identity.version })
  goes_back = record {
    passes = λ now room. (installed, (has_previous, (not_below room, tt)));
    app = placed;
    fits = fits_back;
    have = row.deployment.identity.version;
    current = is_current;
    previous = is_previous;
  }
