-- Tables once the data files of one view are others.
use Rattle.std.proofs.Common.{◌≡◌, ◌∙◌, ◌++◌, ◌<◌, ◌≤◌, cond, not, bytes_eq, refl, sym, ap, subst, ℕ, List, [], ◌∷◌, length, get_or, set, map, All, AllPairs, Option, Some, None, HoldsAt, eqb, eqb-true, arith}
use Rattle.std.specs.Prelude.{option_map, slice_get}
use Rattle.std.proofs.lemmas.List.{length-map}
use Rattle.std.proofs.lemmas.Option.{none-some, same_Some, slice_get-get_or, slice_get-map}
use Rattle.std.proofs.lemmas.List.Kept.{AllPairs-filter}
use Rattle.std.specs.declared.cmp.Ordering.TheVariants.{Less}
use Rattle.small_types.specs.declared.limits.TheConstants.{LOCAL_COUNT_LIMIT}
use Rattle.identity.specs.Printed.{text_cmp}
use Rattle.manifests.specs.declared.facts.FileEntry.{FileEntry}
use Rattle.manifests.specs.Applications.{is_below_pre}
use Rattle.machine.specs.Blocks.{standing_files}
use Rattle.machine.specs.DataFiles.{with_named, without_named}
use Rattle.machine.specs.Views.{standing_entries}
use Rattle.machine.proofs.FirstFound.{find_in as found_in}
use Rattle.machine.proofs.ChangedLists.{all_mapped}
use Rattle.machine.proofs.Members.{In}
use Rattle.store_state.specs.declared.view.LocalFile.{LocalFile}
use Rattle.store_state.specs.declared.view.View.{View}
use Rattle.store_state.specs.Change.{FitsPut, IsLocal, IsRow, MayPut}
use Rattle.store_state.specs.Locals.{local_name, outside_locals, with_local}
use Rattle.store_state.specs.Contents.{AreContentsOf}
use Rattle.store_state.specs.Kept.{AreTables}
use Rattle.store_state.specs.Named.{AreNameIndexes, IsNameIndex}
use Rattle.store_state.specs.Rows.{row_at, with_row}
use Rattle.store_state.specs.Tables.{Tables, bare_row}
use Rattle.store_state.proofs.ByNumber.{became, change, changed_place, map_kept, one_is, sum_kept}
use Rattle.store_state.proofs.GrownTables.{of_view, some_with}
use Rattle.store_state.proofs.Indexed.{pairs_of_map}
use Rattle.store_state.proofs.NamedFiles.{same_indexes}
use Rattle.store_state.proofs.PutItems.{all_left, all_with, fewer_left, order_with}

module _ (number : ℕ) (h : List LocalFile → List LocalFile) where
  abbrev pub edit : View → View
  edit view = record view { locals = h view.locals }

  abbrev pub edited : List View → List View
  edited views = with_row number edit views

  abbrev at_number : View → View
  at_number view = change of_view number edit view

  -- what holds of a view whatever its data files are
  kept : (P : View → Type 0) → ((view : View) → P view → P (edit view)) → (view : View) → P view
      → P (at_number view)
  kept P keeps view holds =
      became of_view number edit P view (λ is. keeps view holds) (λ other. holds)

  pub all_edited : (P : View → Type 0) → ((view : View) → P view → P (edit view))
      → (views : List View) → All P views → All P (edited views)
  all_edited P keeps views all =
      all_mapped at_number P P views (λ view there holds. kept P keeps view holds) all

  same_standing : (views : List View)
      → standing_files (map bare_row (edited views)) ≡ standing_files (map bare_row views)
  same_standing [] = refl
  same_standing (view ∷ views) =
      ap (λ (entries : List FileEntry). entries ++ standing_files (map bare_row (edited views)))
      (kept (λ (v : View). standing_entries v.groups v.application
      ≡ standing_entries view.groups view.application) (λ v is. is) view refl)
      ∙ ap (λ (entries : List FileEntry). standing_entries view.groups view.application
      ++ entries) (same_standing views)

  -- each view of the number is still what an install could bring
  abbrev pub KeepsRows : Tables → Type 0
  KeepsRows tables = (view : View) → In view tables.views → view.number ≡ number → IsRow view
      → IsRow (edit view)

  pub edited_tables : (tables : Tables) → AreTables tables → KeepsRows tables
      → AreTables (record tables { views = edited tables.views })
  edited_tables tables are keeps =
      let numbers = map_kept of_view number edit of_view (λ v. refl) tables.views in
      record {
        order = are.order;
        few_apps = are.few_apps;
        rising = subst (λ (ns : List ℕ). AllPairs (λ (m n : ℕ). m < n) ns) (sym numbers)
            are.rising;
        below = subst (λ (ns : List ℕ). All (λ (n : ℕ). n < tables.next_view) ns) (sym numbers)
            are.below;
        limit = are.limit;
        few_views = omega (arith, are.few_views, length-map tables.views at_number);
        few_files = omega (
          arith,
          are.few_files,
          sum_kept of_view number edit (λ (v : View). length v.application.files)
              (λ v. refl) tables.views,
        );
        lease_numbers = are.lease_numbers;
        few_leases = are.few_leases;
        rows = all_mapped at_number IsRow IsRow tables.views
            (λ view there is. became of_view number edit IsRow view
            (λ same. keeps view there same is) (λ other. is)) are.rows;
        contents = subst (λ (entries : List FileEntry). AreContentsOf entries tables.contents)
            (sym (same_standing tables.views)) are.contents;
      }

  -- the indexes of names stay
  pub edited_indexes : (views : List View) (indexes : List (List ℕ))
      → AreNameIndexes views indexes → AreNameIndexes (edited views) indexes
  edited_indexes views indexes are = record {
    long = are.long ∙ sym (length-map views at_number);
    each = λ k next places there listed. by k next places (slice_get views k) refl
        (sym (slice_get-map at_number views k) ∙ there) listed;
  }
    where
      by : (k : ℕ) (next : View) (places : List ℕ) (o : Option View) → slice_get views k ≡ o
          → option_map at_number (slice_get views k) ≡ Some next
          → slice_get indexes k ≡ Some places → IsNameIndex next.application.files places
      by k next places None e there listed =
          absurd (none-some next (sym (ap (option_map at_number) e) ∙ there))
      by k next places (Some v) e there listed =
          subst (λ (w : View). IsNameIndex w.application.files places)
          (same_Some (at_number v) next (sym (ap (option_map at_number) e) ∙ there))
          (kept (λ (w : View). IsNameIndex w.application.files places) (λ w is. is) v
          (are.each k v places e listed))

  -- ---- the edit, as it comes

  a_view : (views : List View) (place : ℕ) → place < length views → View
  a_view [] place within = absurd (omega arith)
  a_view (view ∷ views) place within = view

  -- what the place of the view and the edit there come to
  module _ {inside now : Tables} {views : List View} {place : ℕ} (same : inside ≡ now)
      (are : AreTables inside)
      (stands : (place < length now.views)
      × (slice_get now.views place ≡ row_at number now.views))
      (done : HoldsAt (λ (v : View). views ≡ set inside.views place (edit v)) inside.views place)
    where
      at : (place < length inside.views)
          × (slice_get inside.views place ≡ row_at number inside.views)
      at =
          subst (λ (t : Tables). (place < length t.views)
          × (slice_get t.views place ≡ row_at number t.views)) (sym same) stands

      d : View
      d = a_view inside.views place at.0

      found : row_at number inside.views ≡ Some (get_or inside.views place d)
      found = sym at.1 ∙ slice_get-get_or inside.views place d at.0

      numbered : (get_or inside.views place d).number ≡ number
      numbered =
          eqb-true (get_or inside.views place d).number number
          (found_in (λ (v : View). eqb v.number number) inside.views
          (get_or inside.views place d) found).1

      pub views_are : views ≡ edited inside.views
      views_are =
          done d
          ∙ changed_place of_view number edit inside.views place d
          (pairs_of_map of_view (λ (m n : ℕ). m < n) inside.views are.rising) at.0 numbered

      pub tables_are : KeepsRows inside → AreTables (record inside { views = views })
      tables_are keeps = rw views_are (edited_tables inside are keeps)

      pub indexes_are : (indexes : List (List ℕ)) → AreNameIndexes inside.views indexes
          → AreNameIndexes views indexes
      indexes_are indexes named =
          same_indexes (edited inside.views) views indexes indexes
          (edited_indexes inside.views indexes named) views_are refl

      pub edit_is : record inside { views = views } ≡ record now { views = edited now.views }
      edit_is =
          rw views_are
          (ap (λ (t : Tables). record t { views = edited t.views }) same)

-- a view with a data file that may be put, and one without one of its own
pub put_row : (number : ℕ) (file : LocalFile) {inside now : Tables} → inside ≡ now
    → AreTables inside → FitsPut now number file
    → KeepsRows number (with_named local_name file) inside
put_row number file {inside} {now} same are fits view there is row =
    let found = some_with (MayPut file) (row_at number now.views) fits in
    let of : row_at number inside.views ≡ Some found.0 =
    ap (λ (t : Tables). row_at number t.views) same ∙ found.1 in
    let one : view ≡ found.0 =
    one_is of_view number (with_local file) inside.views found.0
    (pairs_of_map of_view (λ (m n : ℕ). m < n) inside.views are.rising) of view there is in
    record {
      deployment = row.deployment;
      application = row.application;
      base = row.base;
      order = order_with local_name file view.locals row.order;
      locals = all_with local_name IsLocal file view.locals found.2.local row.locals;
      few = subst (λ (v : View). outside_locals (with_named local_name file v.locals)
          ≤ LOCAL_COUNT_LIMIT) (sym one) found.2.few;
    }

pub left_row : (number : ℕ) (name : List ℕ) {inside now : Tables} → inside ≡ now
    → KeepsRows number (without_named local_name name) inside
left_row number name same view there is row = record {
  deployment = row.deployment;
  application = row.application;
  base = row.base;
  order = AllPairs-filter (λ (f g : LocalFile). text_cmp f.name g.name ≡ Less)
      (λ (f : LocalFile). not (bytes_eq f.name name)) view.locals row.order;
  locals = all_left (λ (f : LocalFile). not (bytes_eq f.name name)) IsLocal view.locals row.locals;
  few = (let fewer = fewer_left (λ (f : LocalFile). not (bytes_eq f.name name))
      (λ (f : LocalFile). cond (not (is_below_pre f.name)) 1 0) view.locals in
      let few = row.few in omega (arith, fewer, few));
}
