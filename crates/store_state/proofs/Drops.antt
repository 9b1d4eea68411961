-- A store without views that are not in use.
use Rattle.std.proofs.Common.{◌≡◌, ◌⊎◌, ◌≤◌, inl, inr, refl, sym, ap, subst, ℕ, Bool, true, not, eqb, eqb-true, List, length, map, All, Contains, Option, Some, None, arith}
use Rattle.std.specs.Prelude.{IfSome, filter}
use Rattle.std.specs.List.{list_any}
use Rattle.std.proofs.lemmas.Bool.{false_from_ne_true}
use Rattle.std.proofs.lemmas.List.Elements.{All-filter}
use Rattle.std.proofs.lemmas.List.Filters.{length-filter_both, sum_by-filter_both}
use Rattle.identity.specs.declared.key.Key.{Key}
use Rattle.manifests.specs.declared.facts.FileEntry.{FileEntry}
use Rattle.machine.specs.declared.app.AppState.{AppState}
use Rattle.machine.specs.declared.lease.Lease.{Lease}
use Rattle.machine.specs.Blocks.{standing_files, used_blocks}
use Rattle.machine.specs.InUse.{IsInUse}
use Rattle.machine.specs.Shape.{BareView, bare_view}
use Rattle.machine.specs.Store.{Store}
use Rattle.machine.specs.Valid.{AreNumbers, IsApp, IsInstalled, IsView, IsViewOf, Ordered, Valid}
use Rattle.machine.specs.Views.{View, key_of, standing_entries}
use Rattle.machine.specs.Weight.{weight_of}
use Rattle.machine.proofs.DataViews.{data_sum, view_blocks}
use Rattle.machine.proofs.GrownViews.{blocks_among}
use Rattle.machine.proofs.Lightness.{lighter}
use Rattle.machine.proofs.LowerWeights.{lower_kept}
use Rattle.machine.proofs.ChangedLists.{flat_map_in}
use Rattle.machine.proofs.Members.{In, all_in, contains_in, filter_in, filter_map_is, in_all, in_contains, in_filter, in_flat_map, in_map, map_in}
use Rattle.machine.proofs.OwnContents.{passes_in}
use Rattle.machine.proofs.OtherViews.{over_views}
use Rattle.machine.proofs.NumberLists.{numbers_among}
use Rattle.machine.proofs.ViewUse.{any_in, in_any}
use Rattle.store_state.specs.Laws.{without_views}

module _ (numbers : List ℕ) (old : Store)
    (unused : All (λ (number : ℕ). ¬ IsInUse number old.apps old.leases) numbers) where
  abbrev stays : ℕ → Bool
  stays number = not (list_any (λ (n : ℕ). eqb n number) numbers)

  abbrev is_kept : View → Bool
  is_kept view = not (list_any (λ (n : ℕ). eqb n view.number) numbers)

  abbrev is_gone : View → Bool
  is_gone view = not (not (list_any (λ (n : ℕ). eqb n view.number) numbers))

  abbrev Used : ℕ → Type 0
  Used number = IsInUse number old.apps old.leases

  abbrev views : List View
  views = filter (λ (view : View). not (list_any (λ (n : ℕ). eqb n view.number) numbers)) old.views

  -- ---- a view that is in use is left

  used_stays : (number : ℕ) → Used number → stays number ≡ true
  used_stays number used =
      ap not (false_from_ne_true (list_any (λ (n : ℕ). eqb n number) numbers) (λ some. (
      let one = passes_in (λ (n : ℕ). eqb n number) numbers some in
      all_in (λ (n : ℕ). ¬ IsInUse n old.apps old.leases) numbers one.0 unused one.1
      (subst Used (sym (eqb-true one.0 number one.2)) used)
      )))

  left : (view : View) → In view old.views → Used view.number → In view views
  left view there used = in_filter is_kept old.views view (used_stays view.number used) there

  was_there : (view : View) → In view views → In view old.views
  was_there view there = (filter_in is_kept old.views view there).1

  still : (key : Key) (number : ℕ) → Used number → IsViewOf old.views key number
      → IsViewOf views key number
  still key number used is =
      let own = in_any (λ (v : View). (v.number ≡ number) × (key_of v ≡ key)) old.views is in
      any_in (λ (v : View). (v.number ≡ number) × (key_of v ≡ key)) views own.0
      (left own.0 own.1 (subst Used (sym own.2.0) used)) own.2

  of_current : (app : AppState) (number : ℕ) → In app old.apps → app.current ≡ Some number
      → Used number
  of_current app number there is =
      inl (any_in (λ (a : AppState). (a.current ≡ Some number) ⊎ (a.previous ≡ Some number))
      old.apps app there (inl is))

  of_previous : (app : AppState) (number : ℕ) → In app old.apps → app.previous ≡ Some number
      → Used number
  of_previous app number there is =
      inl (any_in (λ (a : AppState). (a.current ≡ Some number) ⊎ (a.previous ≡ Some number))
      old.apps app there (inr is))

  each_app : (app : AppState) → In app old.apps → IsApp old.views app → IsApp views app
  each_app app there is =
      over_views old.views views app (by app.current (of_current app) is.current)
      (by app.previous (of_previous app) is.previous) is
    where
      by : (o : Option ℕ) → ((number : ℕ) → In app old.apps → o ≡ Some number → Used number)
          → IfSome o (IsViewOf old.views app.key) → IfSome o (IsViewOf views app.key)
      by None used own = tt
      by (Some number) used own = still app.key number (used number there refl) own

  lease_kept : (lease : Lease) → In lease old.leases
      → Contains (map (λ (v : View). v.number) old.views) lease.view
      → Contains (map (λ (v : View). v.number) views) lease.view
  lease_kept lease there named =
      let all = map (λ (v : View). v.number) old.views in
      let view = map_in (λ (v : View). v.number) old.views lease.view
      (in_contains all lease.view named) in
      let used : Used lease.view =
      inr (any_in (λ (l : Lease). l.view ≡ lease.view) old.leases lease there refl) in
      contains_in (map (λ (v : View). v.number) views) lease.view
      (subst (λ (n : ℕ). In n (map (λ (v : View). v.number) views)) view.2
      (in_map (λ (v : View). v.number) views view.0
      (left view.0 view.1 (subst Used (sym view.2) used))))

  -- ---- within its order

  same_numbers : map (λ (v : View). v.number) views
      ≡ filter (λ (n : ℕ). not (list_any (λ (m : ℕ). eqb m n) numbers))
      (map (λ (v : View). v.number) old.views)
  same_numbers = sym (filter_map_is (λ (v : View). v.number) stays old.views)

  pub left_ordered : Ordered old → Ordered (without_views numbers old)
  left_ordered was = record {
    some_blocks = was.some_blocks;
    few_blocks = was.few_blocks;
    boot = was.boot;
    lease_numbers = was.lease_numbers;
    few_leases = was.few_leases;
    leased = in_all (λ (l : Lease). Contains (map (λ (v : View). v.number) views) l.view) old.leases
        (λ l there. lease_kept l there (all_in (λ (l : Lease).
        Contains (map (λ (v : View). v.number) old.views) l.view) old.leases l was.leased there));
    view_numbers = subst (AreNumbers old.next_view) (sym same_numbers)
        (numbers_among stays old.next_view (map (λ (v : View). v.number) old.views)
        was.view_numbers);
    few_views = omega (
      arith,
      was.few_views,
      length-filter_both is_kept is_gone (λ v. refl) old.views,
    );
    few_files = omega (
      arith,
      was.few_files,
      sum_by-filter_both is_kept is_gone (λ v. refl) (λ (v : View). length v.application.files)
          old.views,
    );
    views = All-filter is_kept IsView old.views was.views;
    installed = All-filter is_kept (λ (v : View). IsInstalled old.apps (key_of v)) old.views
        was.installed;
    order = was.order;
    few_apps = was.few_apps;
    apps = in_all (IsApp views) old.apps
        (λ app there. each_app app there (all_in (IsApp old.views) old.apps app was.apps there));
  }

  -- ---- its files take no more room

  among_standing : (entry : FileEntry) → In entry (standing_files (map bare_view views))
      → In entry (standing_files (map bare_view old.views))
  among_standing entry there =
      let of = flat_map_in (λ (v : BareView). standing_entries v.groups v.application)
      (map bare_view views) entry there in
      let from = map_in bare_view views of.0 of.1 in
      in_flat_map (λ (v : BareView). standing_entries v.groups v.application)
      (map bare_view old.views) of.0 entry
      (subst (λ (v : BareView). In v (map bare_view old.views)) from.2
      (in_map bare_view old.views from.0 (was_there from.0 from.1))) of.2

  room : used_blocks (map bare_view views) ≤ used_blocks (map bare_view old.views)
  room =
      let files = blocks_among (standing_files (map bare_view views))
      (standing_files (map bare_view old.views)) among_standing in
      let fewer = sum_by-filter_both is_kept is_gone (λ v. refl) view_blocks old.views in
      omega (arith, files, fewer, data_sum views, data_sum old.views)

  pub left_valid : Valid old → Valid (without_views numbers old)
  left_valid valid = record {
    ordered = left_ordered valid.ordered;
    room = (let was = valid.room in omega (arith, was, room));
    light = lighter old.room (weight_of (map bare_view views) old.apps)
        (weight_of (map bare_view old.views) old.apps)
        (lower_kept is_kept old.views old.apps among_standing) valid.light;
  }
