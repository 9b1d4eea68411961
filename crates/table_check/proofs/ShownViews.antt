-- Views of tables, and the views that they are shown as.
use Rattle.std.proofs.Common.{◌≡◌, ◌∙◌, ◌≤◌, ◌<◌, ◌==◌, ℕ, cond, not, refl, sym, ap, subst, List, [], ◌∷◌, All, AllPairs, Contains, IsSome, Option, length, map, eq-eqb, eqb-true}
use Rattle.std.specs.Prelude.{IsSomeAnd, count_by, sum_by}
use Rattle.std.specs.declared.cmp.Ordering.TheVariants.{Less}
use Rattle.std.proofs.lemmas.List.Elements.{All-map, All-weaker}
use Rattle.std.proofs.lemmas.Option.{IfSome_then}
use Rattle.small_types.specs.declared.room.Room.{Room}
use Rattle.small_types.specs.declared.limits.TheConstants.{LOCAL_COUNT_LIMIT, NAME_LIMIT}
use Rattle.identity.specs.declared.key.Key.{Key}
use Rattle.identity.specs.Printed.{text_cmp}
use Rattle.manifests.specs.declared.facts.FileEntry.{FileEntry}
use Rattle.manifests.specs.Applications.{is_below_pre}
use Rattle.machine.specs.declared.app.AppState.{AppState}
use Rattle.machine.specs.Fields.{IsShort}
use Rattle.machine.specs.Valid.{IsApp, IsDataFile, IsView, IsViewOf}
use Rattle.machine.specs.Views.{DataFile, ListedFile, key_of, standing_entries}
use Rattle.machine.specs.Views.{View as KeptView}
use Rattle.machine.proofs.FirstFound.{find_in, find_some, some_there, value_of}
use Rattle.machine.proofs.Members.{In, contains_in, in_contains, in_map, map_in, pairs_map, sum_map}
use Rattle.store_state.specs.declared.view.Content.{Content}
use Rattle.store_state.specs.declared.view.LocalFile.{LocalFile}
use Rattle.store_state.specs.declared.view.View.{View}
use Rattle.store_state.specs.Change.{IsLocal, IsRow}
use Rattle.store_state.specs.Locals.{outside_locals}
use Rattle.store_state.specs.Rows.{listed_files, row_at}
use Rattle.store_state.specs.Shows.{shown_data, shown_file, shown_view}
use Rattle.store_state.proofs.ByNumber.{one_of}
use Rattle.store_state.proofs.GrownTables.{of_view, some_with}
use Rattle.store_state.proofs.Indexed.{pairs_of_map}
use Rattle.store_state.proofs.Keyed.{any_in, in_any}
use Rattle.table_check.specs.OrderedTables.{IsAppOf, IsRowOf}

module _ (room : Room) (image : List ℕ) (contents : List Content) where
  abbrev pub shown : View → KeptView
  shown view = shown_view room image contents view

  abbrev pub of_kept : KeptView → ℕ
  of_kept view = view.number

  -- ---- all views

  pub numbers_are : (views : List View) → map of_kept (map shown views) ≡ map of_view views
  numbers_are [] = refl
  numbers_are (view ∷ views) = ap (λ (ns : List ℕ). view.number ∷ ns) (numbers_are views)

  pub listed_are : (views : List View)
      → sum_by (λ (view : KeptView). length view.application.files) (map shown views)
      ≡ listed_files views
  listed_are views =
      sum_map shown (λ (view : KeptView). length view.application.files) views

  -- ---- one view

  entries_are : (entries : List FileEntry)
      → map (λ (file : ListedFile). file.entry) (map (shown_file room image contents) entries)
      ≡ entries
  entries_are [] = refl
  entries_are (entry ∷ entries) =
      ap (λ (rest : List FileEntry). entry ∷ rest) (entries_are entries)

  are_data : (locals : List LocalFile) → All IsLocal locals
      → All IsDataFile (map (shown_data room image) locals)
  are_data locals is =
      All-map IsDataFile (shown_data room image) locals
      (All-weaker IsLocal (λ (file : LocalFile). IsDataFile (shown_data room image file))
      (λ file local. record { name = local.name; short = local.short }) locals is)

  outside_are : (locals : List LocalFile)
      → count_by (λ (file : DataFile). not (is_below_pre file.name))
      (map (shown_data room image) locals) ≡ outside_locals locals
  outside_are locals =
      sum_map (shown_data room image)
      (λ (file : DataFile). cond (not (is_below_pre file.name)) 1 0) locals

  pub view_shown : (view : View) → IsRow view → All (IsShort NAME_LIMIT) view.groups
      → IsView (shown view)
  view_shown view row groups = record {
    deployment = row.deployment;
    application = row.application;
    base = row.base;
    groups = groups;
    files = entries_are (standing_entries view.groups view.application);
    data_order =
        pairs_map (shown_data room image)
        (λ (f g : LocalFile). text_cmp f.name g.name ≡ Less)
        (λ (f g : DataFile). text_cmp f.name g.name ≡ Less) view.locals (λ f g less. less) row.order;
    data_files = are_data view.locals row.locals;
    few_data =
        subst (λ (count : ℕ). count ≤ LOCAL_COUNT_LIMIT) (sym (outside_are view.locals)) row.few;
  }

  -- ---- views by their numbers

  module _ (views : List View) where
    pub number_shown : (number : ℕ) → IsSome (row_at number views)
        → Contains (map of_kept (map shown views)) number
    number_shown number some =
        let row = value_of (row_at number views) some in
        let there = find_in (λ (view : View). view.number == number) views row.0 row.1 in
        contains_in (map of_kept (map shown views)) number
        (subst (λ (n : ℕ). In n (map of_kept (map shown views)))
        (eqb-true row.0.number number there.1)
        (in_map of_kept (map shown views) (shown row.0) (in_map shown views row.0 there.0)))

    pub number_kept : (number : ℕ) → Contains (map of_kept (map shown views)) number
        → IsSome (row_at number views)
    number_kept number there =
        let kept = map_in of_kept (map shown views) number
        (in_contains (map of_kept (map shown views)) number there) in
        let row = map_in shown views kept.0 kept.1 in
        let is : row.0.number ≡ number = ap of_kept row.2 ∙ kept.2 in
        let found = find_some (λ (view : View). view.number == number) views row.0 row.1
        (eq-eqb row.0.number number is) in
        some_there (row_at number views) found.0 found.1

    module _ (key : Key) (number : ℕ) where
      abbrev IsOf : KeptView → Type 0
      IsOf view = (view.number ≡ number) × (key_of view ≡ key)

      abbrev HasKey : View → Type 0
      HasKey view = view.deployment.identity.key ≡ key

      row_shown : IsRowOf views key number → IsViewOf (map shown views) key number
      row_shown is =
          let row = some_with HasKey (row_at number views) is in
          let there = find_in (λ (view : View). view.number == number) views row.0 row.1 in
          in_any IsOf (map shown views) (shown row.0) (in_map shown views row.0 there.0)
          (eqb-true row.0.number number there.1, row.2)

      row_kept : AllPairs (λ (m n : ℕ). m < n) (map of_view views)
          → IsViewOf (map shown views) key number → IsRowOf views key number
      row_kept rising is =
          let kept = any_in IsOf (map shown views) is in
          let row = map_in shown views kept.0 kept.1 in
          let numbered : row.0.number ≡ number = ap of_kept row.2 ∙ kept.2.0 in
          let keyed : row.0.deployment.identity.key ≡ key = ap key_of row.2 ∙ kept.2.1 in
          subst (λ (o : Option View). IsSomeAnd o HasKey)
          (sym (one_of of_view number (λ (view : View). view) views row.0
          (pairs_of_map of_view (λ (m n : ℕ). m < n) views rising) row.1 numbered))
          keyed

    -- ---- an application

    pub app_shown : (app : AppState) → IsAppOf views app → IsApp (map shown views) app
    app_shown app is = record {
      key = is.key;
      provider = is.provider;
      current = IfSome_then app.current is.current (λ number. row_shown app.key number);
      previous = IfSome_then app.previous is.previous (λ number. row_shown app.key number);
      minimum = is.minimum;
      offer = is.offer;
      skipped = is.skipped;
      excluded = is.excluded;
      last_check = is.last_check;
      beside = is.beside;
      other = is.other;
      provided = is.provided;
    }

    pub app_kept : AllPairs (λ (m n : ℕ). m < n) (map of_view views) → (app : AppState)
        → IsApp (map shown views) app → IsAppOf views app
    app_kept rising app is = record {
      key = is.key;
      provider = is.provider;
      current = IfSome_then app.current is.current (λ number. row_kept app.key number rising);
      previous = IfSome_then app.previous is.previous (λ number. row_kept app.key number rising);
      minimum = is.minimum;
      offer = is.offer;
      skipped = is.skipped;
      excluded = is.excluded;
      last_check = is.last_check;
      beside = is.beside;
      other = is.other;
      provided = is.provided;
    }
