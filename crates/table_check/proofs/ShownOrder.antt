-- Ordered tables, and the store that they show.
use Rattle.std.proofs.Common.{◌≡◌, ◌↔◌, ◌≤◌, ◌<◌, ℕ, Bool, refl, sym, subst, List, All, AllPairs, Contains, IsSome, IsTrue, map}
use Rattle.std.proofs.lemmas.List.{length-map}
use Rattle.std.proofs.lemmas.List.Elements.{All-map, All-weaker}
use Rattle.small_types.specs.declared.room.Room.{Room}
use Rattle.small_types.specs.declared.limits.TheConstants.{BLOCK_LIMIT, FILE_COUNT_LIMIT, VIEW_LIMIT}
use Rattle.manifests.specs.declared.facts.FileEntry.{FileEntry}
use Rattle.machine.specs.declared.lease.Lease.{Lease}
use Rattle.machine.specs.Blocks.{standing_files, used_blocks}
use Rattle.machine.specs.Shape.{Shape, shape_of}
use Rattle.machine.specs.Store.{Store, session_over}
use Rattle.machine.specs.Valid.{IsApp, IsInstalled, IsView, Ordered, Valid}
use Rattle.machine.specs.Views.{key_of, standing_entries}
use Rattle.machine.specs.Views.{View as KeptView}
use Rattle.machine.specs.Weight.{IsLight, weight_of}
use Rattle.machine.proofs.Members.{all_in, in_all, in_map}
use Rattle.store_state.specs.declared.view.View.{View}
use Rattle.store_state.specs.Change.{IsRow}
use Rattle.store_state.specs.Contents.{content_of}
use Rattle.store_state.specs.Kept.{AreTables}
use Rattle.store_state.specs.Laws.{ShowsOrdered}
use Rattle.store_state.specs.Rows.{row_at}
use Rattle.store_state.specs.Shows.{Shows, shown_store}
use Rattle.store_state.specs.Stored.{HasContents, HasLocals}
use Rattle.store_state.specs.Tables.{Tables, bare_row, table_shape}
use Rattle.store_state.proofs.GrownTables.{files_row}
use Rattle.store_state.proofs.ShownTables.{shape_shown}
use Rattle.table_check.specs.OrderedTables.{AreOrderedTables, IsAppOf, IsInstalledRow}
use Rattle.table_check.proofs.ShownViews.{app_kept, app_shown, listed_are, number_kept, number_shown, numbers_are, of_kept, shown, view_shown}

module _ (room : Room) (image : List ℕ) (tables : Tables) (are : AreTables tables) where
  abbrev views : List View
  views = tables.views

  abbrev kept : List KeptView
  kept = map (shown room image tables.contents) views

  abbrev IsOwn : View → Type 0
  IsOwn view = IsInstalledRow tables.apps view

  -- ---- ordered tables are of an ordered store

  ordered_store : AreOrderedTables tables → 1 ≤ room.blocks → room.blocks ≤ BLOCK_LIMIT
      → Ordered (shown_store room image tables)
  ordered_store ordered some few = record {
    some_blocks = some;
    few_blocks = few;
    boot = ordered.boot;
    lease_numbers = are.lease_numbers;
    few_leases = are.few_leases;
    leased =
        All-weaker (λ (lease : Lease). IsSome (row_at lease.view views))
        (λ (lease : Lease). Contains (map (of_kept room image tables.contents) kept) lease.view)
        (λ lease there. number_shown room image tables.contents views lease.view there)
        tables.leases ordered.leased;
    view_numbers = record {
      rising =
          subst (λ (ns : List ℕ). AllPairs (λ (m n : ℕ). m < n) ns)
          (sym (numbers_are room image tables.contents views)) are.rising;
      below =
          subst (λ (ns : List ℕ). All (λ (n : ℕ). n < tables.next_view) ns)
          (sym (numbers_are room image tables.contents views)) are.below;
      limit = are.limit;
    };
    few_views =
        subst (λ (n : ℕ). n ≤ VIEW_LIMIT)
        (sym (length-map views (shown room image tables.contents))) are.few_views;
    few_files =
        subst (λ (n : ℕ). n ≤ FILE_COUNT_LIMIT)
        (sym (listed_are room image tables.contents views)) are.few_files;
    views =
        All-map IsView (shown room image tables.contents) views
        (in_all (λ (view : View). IsView (shown room image tables.contents view)) views
        (λ view there. view_shown room image tables.contents view
        (all_in IsRow views view are.rows there)
        (all_in IsOwn views view ordered.views there).groups));
    installed =
        All-map (λ (view : KeptView). IsInstalled tables.apps (key_of view))
        (shown room image tables.contents) views
        (All-weaker IsOwn
        (λ (view : View). IsInstalled tables.apps view.deployment.identity.key)
        (λ view own. own.installed) views ordered.views);
    order = are.order;
    few_apps = are.few_apps;
    apps =
        All-weaker (IsAppOf views) (IsApp kept)
        (λ app is. app_shown room image tables.contents views app is) tables.apps ordered.apps;
  }

  -- ---- and back

  ordered_tables : Ordered (shown_store room image tables) → AreOrderedTables tables
  ordered_tables ordered = record {
    boot = ordered.boot;
    leased =
        All-weaker
        (λ (lease : Lease). Contains (map (of_kept room image tables.contents) kept) lease.view)
        (λ (lease : Lease). IsSome (row_at lease.view views))
        (λ lease there. number_kept room image tables.contents views lease.view there)
        tables.leases ordered.leased;
    views =
        in_all IsOwn views
        (λ view there. record {
          groups =
              (all_in IsView kept (shown room image tables.contents view) ordered.views
              (in_map (shown room image tables.contents) views view there)).groups;
          installed =
              all_in (λ (v : KeptView). IsInstalled tables.apps (key_of v)) kept
              (shown room image tables.contents view) ordered.installed
              (in_map (shown room image tables.contents) views view there);
        });
    apps =
        All-weaker (IsApp kept) (IsAppOf views)
        (λ app is. app_kept room image tables.contents views are.rising app is) tables.apps
        ordered.apps;
  }

  -- ---- the store that they show

  abbrev Holds : FileEntry → Type 0
  Holds entry = IsSome (content_of tables.contents entry)

  shows_store : HasContents room image tables.contents
      → All (λ (view : View). HasLocals room image view.locals) views
      → Shows room tables image (shown_store room image tables)
  shows_store whole measured = record {
    is = refl;
    held =
        in_all (λ (view : View). All Holds (standing_entries view.groups view.application)) views
        (λ view there. in_all Holds (standing_entries view.groups view.application)
        (λ entry stands. all_in Holds (standing_files (map bare_row views)) entry are.contents.each
        (files_row views view entry there stands)));
    whole = whole;
    measured = measured;
  }

  valid_shown : (store : Store) → Shows room tables image store → Ordered store
      → used_blocks (map bare_row views) ≤ room.blocks
      → IsLight room (weight_of (map bare_row views) tables.apps) → Valid store
  valid_shown store shows ordered few light =
      let shape : shape_of (session_over store) ≡ table_shape room tables =
      shape_shown (session_over store) refl shows in
      record {
        ordered = ordered;
        room =
            subst (λ (s : Shape). used_blocks s.views ≤ s.room.blocks) (sym shape) few;
        light = subst (λ (s : Shape). IsLight s.room (weight_of s.views s.apps)) (sym shape) light;
      }

  pub ordered_shown : AreOrderedTables tables → 1 ≤ room.blocks → room.blocks ≤ BLOCK_LIMIT
      → HasContents room image tables.contents
      → All (λ (view : View). HasLocals room image view.locals) views
      → ShowsOrdered room tables image
  ordered_shown ordered some few whole measured = record {
    store = shown_store room image tables;
    shows = shows_store whole measured;
    ordered = ordered_store ordered some few;
    valid =
        λ few_blocks light. valid_shown (shown_store room image tables) (shows_store whole measured)
        (ordered_store ordered some few) few_blocks light;
  }

  pub exactly_ordered : (store : Store) → 1 ≤ room.blocks → room.blocks ≤ BLOCK_LIMIT
      → Shows room tables image store → AreOrderedTables tables ↔ Ordered store
  exactly_ordered store some few shows =
      subst (λ (s : Store). AreOrderedTables tables ↔ Ordered s) (sym shows.is)
      (λ ordered. ordered_store ordered some few, λ ordered. ordered_tables ordered)

  -- whoever tells the one tells the other
  pub told_by : (store : Store) → 1 ≤ room.blocks → room.blocks ≤ BLOCK_LIMIT
      → Shows room tables image store → {answer : Bool} → IsTrue answer ↔ AreOrderedTables tables
      → IsTrue answer ↔ Ordered store
  told_by store some few shows told =
      let exact = exactly_ordered store some few shows in (
        λ yes. exact.0 (told.0 yes),
        λ ordered. told.1 (exact.1 ordered),
      )
