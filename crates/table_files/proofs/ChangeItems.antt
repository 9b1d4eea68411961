-- What is held before a change and after it.
use Rattle.std.proofs.Common.{◌≡◌, ◌<◌, ◌++◌, refl, sym, ap, subst, ℕ, eqb, List, [], ◌∷◌, map, Option, Some, None, IsSome, arith}
use Rattle.std.specs.Prelude.{option_and_then}
use Rattle.std.specs.Option.{option_map_or}
use Rattle.std.proofs.lemmas.List.{length-append}
use Rattle.std.proofs.lemmas.List.Concat.{flat_map-append}
use Rattle.std.proofs.lemmas.List.Sorted.{All-permutation, IsPermutation-append_left, length_permutation}
use Rattle.std.proofs.lemmas.List.Sums.{sum_by-append}
use Rattle.identity.specs.declared.version.Version.{Version}
use Rattle.small_types.specs.declared.target.Target.{Target}
use Rattle.machine.specs.Blocks.{standing_files}
use Rattle.machine.specs.CheckRow.{heard_app}
use Rattle.machine.specs.Entries.{with_entry}
use Rattle.machine.specs.LaunchRow.{started_app}
use Rattle.machine.specs.RollbackRow.{rolled_back_app}
use Rattle.machine.proofs.FirstFound.{find_in as found_in}
use Rattle.machine.proofs.Members.{all_in}
use Rattle.store_state.specs.declared.change.Change.{Change}
use Rattle.store_state.specs.declared.change.Change.TheVariants.{Boot, Require, Install, Heard, Unheard, Skip, Rollback, Launch, Finish, Group, Put, Remove, Clean}
use Rattle.store_state.specs.declared.view.Content.{Content}
use Rattle.store_state.specs.declared.view.LocalFile.{LocalFile}
use Rattle.store_state.specs.declared.view.View.{View}
use Rattle.store_state.specs.Change.{Fits, IsRow, MayPut, effect, grown, leased}
use Rattle.store_state.specs.Dropped.{is_among, is_needed, removable_in, without_rows}
use Rattle.store_state.specs.Kept.{AreTables}
use Rattle.store_state.specs.Locals.{local_at, local_named, with_local, without_local}
use Rattle.store_state.specs.Rows.{current_at, current_version, row_at, version_at, with_app, with_row}
use Rattle.store_state.specs.Tables.{Tables, bare_row}
use Rattle.store_state.proofs.ByNumber.{Rise}
use Rattle.store_state.proofs.GrownTables.{of_view, some_with}
use Rattle.store_state.proofs.Indexed.{pairs_of_map}
use Rattle.table_files.specs.Freed.{brought, freed, held_for_one, rows_among, unneeded}
use Rattle.table_files.specs.Held.{held_by, held_for_contents, held_for_locals, held_for_views}
use Rattle.table_files.specs.Laws.{ChangesKeepItems, after, before}
use Rattle.table_files.proofs.LocalItems.{left_total, put_total, total}
use Rattle.table_files.proofs.RowItems.{row_total, same_locals, total_parted}
use Rattle.table_files.proofs.SameItems.{SameTotals, apart_permuted, from_totals, one_for}

-- ---- changes that touch no file

same_held : (new old : List ℕ) → new ≡ old → SameTotals (old ++ []) (new ++ [])
same_held new old is w = ap (λ (items : List ℕ). total w (items ++ [])) (sym is)

-- what may be found or not
either_held : {X : Type 0} (tables : Tables) (f : X → Tables)
    → ((x : X) → held_by (f x) ≡ held_by tables) → (o : Option X)
    → held_by (option_map_or f o tables) ≡ held_by tables
either_held tables f keeps None = refl
either_held tables f keeps (Some x) = keeps x

-- ---- a view of the tables

module _ (tables : Tables) (are : AreTables tables) where
  rise : Rise of_view tables.views
  rise = pairs_of_map of_view (λ (m n : ℕ). m < n) tables.views are.rising

  is_row : (number : ℕ) (row : View) → row_at number tables.views ≡ Some row → IsRow row
  is_row number row there =
      all_in IsRow tables.views row are.rows
      (found_in (λ (v : View). eqb v.number number) tables.views row there).0

  at_row : (number : ℕ) (name : List ℕ) (row : View) → row_at number tables.views ≡ Some row
      → local_at number name tables ≡ local_named name row.locals
  at_row number name row there =
      ap (option_and_then (λ (view : View). local_named name view.locals)) there

  -- a data file that is put
  put_same : (number : ℕ) (file : LocalFile) (row : View) → row_at number tables.views ≡ Some row
      → SameTotals (before (Put number file) tables) (after (Put number file) tables)
  put_same number file row there w =
      let contents = held_for_contents tables.contents in
      let views = held_for_views tables.views in
      let new = held_for_views (with_row number (with_local file) tables.views) in
      let out = held_for_one (local_at number file.name tables) in
      omega (
        arith,
        row_total w number (with_local file) (total w file.held)
            (total w (held_for_one (local_named file.name row.locals))) row tables.views rise there
            (put_total w file row.locals (is_row number row there).order),
        ap (λ (o : Option LocalFile). total w (held_for_one o)) (at_row number file.name row there),
        sum_by-append w (contents ++ views) file.held,
        sum_by-append w contents views,
        sum_by-append w (contents ++ new) out,
        sum_by-append w contents new,
      )

  -- a data file that is taken out
  left_same : (number : ℕ) (name : List ℕ) (row : View) → row_at number tables.views ≡ Some row
      → SameTotals (before (Remove number name) tables) (after (Remove number name) tables)
  left_same number name row there w =
      let contents = held_for_contents tables.contents in
      let views = held_for_views tables.views in
      let new = held_for_views (with_row number (without_local name) tables.views) in
      let out = held_for_one (local_at number name tables) in
      let left = left_total w name row.locals (is_row number row there).order in
      omega (
        arith,
        row_total w number (without_local name) 0
            (total w (held_for_one (local_named name row.locals))) row tables.views rise there
            (omega (arith, left)),
        ap (λ (o : Option LocalFile). total w (held_for_one o)) (at_row number name row there),
        sum_by-append w (contents ++ views) [],
        sum_by-append w contents views,
        sum_by-append w (contents ++ new) out,
        sum_by-append w contents new,
      )

  -- the view of a data file that is found
  row_found : (number : ℕ) (name : List ℕ) (o : Option View) → row_at number tables.views ≡ o
      → IsSome (local_at number name tables)
      → (row : View) × (row_at number tables.views ≡ Some row)
  row_found number name None is some =
      absurd (let none = subst (λ (o : Option View). IsSome
      (option_and_then (λ (view : View). local_named name view.locals) o)) is some in cc)
  row_found number name (Some row) is some = (row, is)

-- ---- more contents, and more views

module _ (tables : Tables) where
  install_same : (view : View) (contents : List Content) (provider : Target) (now : ℕ)
      → SameTotals (before (Install view contents provider now) tables)
      (after (Install view contents provider now) tables)
  install_same view contents provider now w =
      let old = held_for_contents tables.contents in
      let new = held_for_contents contents in
      let views = held_for_views tables.views in
      let own = held_for_locals view.locals in
      let made = effect (Install view contents provider now) tables in
      omega (
        arith,
        sum_by-append w (old ++ views) (new ++ own),
        sum_by-append w old views,
        sum_by-append w new own,
        sum_by-append w (held_by made) [],
        sum_by-append w (held_for_contents made.contents) (held_for_views made.views),
        ap (total w) (flat_map-append (λ (c : Content). c.held) tables.contents contents),
        sum_by-append w old new,
        ap (total w) (flat_map-append (λ (v : View). held_for_locals v.locals) tables.views
            (view ∷ [])),
        sum_by-append w views (own ++ []),
        sum_by-append w own [],
      )

  group_same : (number : ℕ) (group : List ℕ) (contents : List Content)
      → SameTotals (before (Group number group contents) tables)
      (after (Group number group contents) tables)
  group_same number group contents w =
      let old = held_for_contents tables.contents in
      let new = held_for_contents contents in
      let views = held_for_views tables.views in
      let made = effect (Group number group contents) tables in
      omega (
        arith,
        sum_by-append w (old ++ views) new,
        sum_by-append w old views,
        sum_by-append w (held_by made) [],
        sum_by-append w (held_for_contents made.contents) (held_for_views made.views),
        ap (total w) (flat_map-append (λ (c : Content). c.held) tables.contents contents),
        sum_by-append w old new,
        ap (total w) (same_locals number (grown group) (λ v. refl) tables.views),
      )

  clean_same : SameTotals (before Clean tables) (after Clean tables)
  clean_same w =
      let numbers = removable_in tables in
      let keeps = is_needed (standing_files (map bare_row (without_rows numbers tables.views))) in
      let made = effect Clean tables in
      omega (
        arith,
        total_parted w (λ (c : Content). c.held) keeps tables.contents,
        total_parted w (λ (v : View). held_for_locals v.locals) (is_among numbers) tables.views,
        sum_by-append w (held_by tables) [],
        sum_by-append w (held_for_contents tables.contents) (held_for_views tables.views),
        sum_by-append w (held_by made) (freed Clean tables),
        sum_by-append w (held_for_contents made.contents) (held_for_views made.views),
        sum_by-append w
            (held_for_contents (unneeded (without_rows numbers tables.views) tables.contents))
            (held_for_views (rows_among numbers tables.views)),
      )

-- ---- each change

same_totals : (tables : Tables) (change : Change) → AreTables tables → Fits tables change
    → SameTotals (before change tables) (after change tables)
same_totals tables (Boot boot) are fits = same_held (held_by tables) (held_by tables) refl
same_totals tables (Require key version) are fits =
    same_held (held_by tables) (held_by tables) refl
same_totals tables (Install view contents provider now) are fits =
    install_same tables view contents provider now
same_totals tables (Heard key version minimum now) are fits =
    same_held (held_by (effect (Heard key version minimum now) tables)) (held_by tables)
    (either_held tables (λ (have : Version). record tables {
      apps = with_entry key (heard_app have version minimum now) tables.apps;
    }) (λ have. refl) (current_version key tables))
same_totals tables (Unheard key) are fits = same_held (held_by tables) (held_by tables) refl
same_totals tables (Skip place) are fits = same_held (held_by tables) (held_by tables) refl
same_totals tables (Rollback place) are fits =
    same_held (held_by (effect (Rollback place) tables)) (held_by tables)
    (either_held tables (λ (have : Version). record tables {
      apps = with_app place (rolled_back_app have) tables.apps;
    }) (λ have. refl) (version_at place tables))
same_totals tables (Launch place) are fits =
    same_held (held_by (effect (Launch place) tables)) (held_by tables)
    (either_held tables (λ (view : ℕ). record (leased view tables) {
      apps = with_app place started_app tables.apps;
    }) (λ view. refl) (current_at place tables.apps))
same_totals tables (Finish lease) are fits = same_held (held_by tables) (held_by tables) refl
same_totals tables (Group number group contents) are fits =
    group_same tables number group contents
same_totals tables (Put number file) are fits =
    let found = some_with (MayPut file) (row_at number tables.views) fits in
    put_same tables are number file found.0 found.1
same_totals tables (Remove number name) are fits =
    let found = row_found tables are number name (row_at number tables.views) refl fits in
    left_same tables are number name found.0 found.1
same_totals tables Clean are fits = clean_same tables

pub items_kept : ChangesKeepItems
items_kept tables change are fits =
    let same = same_totals tables change are fits in
    let moved = from_totals (before change tables) (after change tables) same in
    record {
      same = moved;
      count = λ item. omega (
        arith,
        same (one_for item),
        sum_by-append (one_for item) (held_by tables) (brought change),
        sum_by-append (one_for item) (held_by (effect change tables)) (freed change tables),
      );
      long = omega (
        arith,
        length_permutation (before change tables) (after change tables) moved,
        length-append (held_by tables) (brought change),
        length-append (held_by (effect change tables)) (freed change tables),
      );
      within = λ limit all. All-permutation (λ (item : ℕ). item < limit) (before change tables)
          (after change tables) moved all;
      apart = λ others apart. apart_permuted (before change tables ++ others)
          (after change tables ++ others)
          (IsPermutation-append_left others (before change tables) (after change tables) moved)
          apart;
    }
