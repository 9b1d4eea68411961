-- A store without the views that are not in use.
use Rattle.std.proofs.Common.{◌≡◌, ◌∙◌, ◌⊎◌, ◌+◌, ◌≤◌, inl, inr, refl, sym, ap, subst, ℕ, Bool, not, eqb, eqb-true, List, [], ◌∷◌, length, map, Contains, Option, Some, None, IsSome, arith}
use Rattle.std.specs.Prelude.{IfSome, filter, sum_by}
use Rattle.std.proofs.lemmas.List.{length-map}
use Rattle.std.proofs.lemmas.List.Elements.{All-filter}
use Rattle.std.proofs.lemmas.List.Filters.{length-filter_both, sum_by-filter_both}
use Rattle.identity.specs.declared.key.Key.{Key}
use Rattle.manifests.specs.declared.facts.FileEntry.{FileEntry}
use Rattle.machine.specs.declared.app.AppState.{AppState}
use Rattle.machine.specs.declared.lease.Lease.{Lease}
use Rattle.machine.specs.Blocks.{standing_files, used_blocks}
use Rattle.machine.specs.CleanRow.{cleaned, removable}
use Rattle.machine.specs.Current.{view_at}
use Rattle.machine.specs.InUse.{IsInUse, is_in_use}
use Rattle.machine.specs.Shape.{BareView, bare_view, shape_of}
use Rattle.machine.specs.Sound.{IsSoundView, Sound, program_files_of}
use Rattle.machine.specs.Store.{Store, session_over}
use Rattle.machine.specs.Valid.{AreNumbers, IsApp, IsInstalled, IsView, IsViewOf, Ordered, Valid}
use Rattle.machine.specs.Views.{ListedFile, View, key_of, standing_entries}
use Rattle.machine.specs.Weight.{weight_of}
use Rattle.machine.proofs.DataViews.{data_sum, view_blocks}
use Rattle.machine.proofs.FirstFound.{find-kept, value_of}
use Rattle.machine.proofs.GrownViews.{blocks_among}
use Rattle.machine.proofs.Leased.{lease_in, view_in}
use Rattle.machine.proofs.LeasesKept.{KeepsLeases, keeps_by}
use Rattle.machine.proofs.Lightness.{lighter}
use Rattle.machine.proofs.LowerWeights.{lower_kept}
use Rattle.machine.proofs.ChangedLists.{flat_map_in}
use Rattle.machine.proofs.Members.{In, all_in, contains_in, filter_in, filter_map_is, in_all, in_contains, in_filter, in_flat_map, in_map, map_in}
use Rattle.machine.proofs.OtherViews.{over_views}
use Rattle.machine.proofs.NumberLists.{numbers_among}
use Rattle.machine.proofs.RowFacts.{TakesMore}
use Rattle.machine.proofs.Shared.{alike_each, each_alike}
use Rattle.machine.proofs.ViewUse.{any_in, in_any, is_used, used_is}

module _ (old : Store) where
  -- a view that is in use
  abbrev is_kept : View → Bool
  is_kept view = is_in_use view.number old.apps old.leases

  abbrev Used : ℕ → Type 0
  Used number = IsInUse number old.apps old.leases

  abbrev views : List View
  views = filter (λ (view : View). is_in_use view.number old.apps old.leases) old.views

  -- ---- views by their numbers

  pub stays : (view : View) → In view old.views → IsInUse view.number old.apps old.leases
      → In view (cleaned old).views
  stays view there used =
      in_filter is_kept old.views view (is_used view.number old.apps old.leases used) there

  pub stayed : (view : View) → In view (cleaned old).views
      → In view old.views × IsInUse view.number old.apps old.leases
  stayed view there =
      let kept = filter_in is_kept old.views view there in
      (kept.1, used_is view.number old.apps old.leases kept.0)

  pub used_at : (number : ℕ) → IsInUse number old.apps old.leases
      → view_at number (cleaned old).views ≡ view_at number old.views
  used_at number used =
      find-kept (λ (v : View). eqb v.number number) is_kept old.views
      (λ v is. ap (λ (n : ℕ). is_in_use n old.apps old.leases) (eqb-true v.number number is)
      ∙ is_used number old.apps old.leases used)

  -- one that is left is in use
  pub kept_used : (number : ℕ) → IsSome (view_at number (cleaned old).views)
      → IsInUse number old.apps old.leases
  kept_used number is =
      let view = value_of (view_at number (cleaned old).views) is in
      let known = view_in number (cleaned old).views view.0 view.1 in
      subst Used known.1 (stayed view.0 known.0).1

  -- ---- what names a view

  pub of_lease : (lease : Lease) → In lease old.leases → IsInUse lease.view old.apps old.leases
  of_lease lease there = inr (any_in (λ (l : Lease). l.view ≡ lease.view) old.leases lease there refl)

  pub of_current : (app : AppState) (number : ℕ) → In app old.apps → app.current ≡ Some number
      → IsInUse number old.apps old.leases
  of_current app number there is =
      inl (any_in (λ (a : AppState). (a.current ≡ Some number) ⊎ (a.previous ≡ Some number)) old.apps
      app there (inl is))

  pub of_previous : (app : AppState) (number : ℕ) → In app old.apps → app.previous ≡ Some number
      → IsInUse number old.apps old.leases
  of_previous app number there is =
      inl (any_in (λ (a : AppState). (a.current ≡ Some number) ⊎ (a.previous ≡ Some number)) old.apps
      app there (inr is))

  -- ---- leases

  pub cleaned_keeps : KeepsLeases old (cleaned old)
  cleaned_keeps =
      keeps_by old (cleaned old) (omega arith) (λ number less lives. refl)
      (λ number lease view is found. (
        view,
        used_at lease.view (of_lease lease (lease_in number old.leases lease is)) ∙ found,
        refl,
        λ differ name file there. there,
      ))

  -- ---- parts of all views

  among_files : (file : ListedFile) → In file (program_files_of (cleaned old))
      → In file (program_files_of old)
  among_files file there =
      let of = flat_map_in (λ (v : View). v.program_files) views file there in
      in_flat_map (λ (v : View). v.program_files) old.views of.0 file (stayed of.0 of.1).0 of.2

  among_standing : (entry : FileEntry) → In entry (standing_files (map bare_view views))
      → In entry (standing_files (map bare_view old.views))
  among_standing entry there =
      let of = flat_map_in (λ (v : BareView). standing_entries v.groups v.application)
      (map bare_view views) entry there in
      let from = map_in bare_view views of.0 of.1 in
      in_flat_map (λ (v : BareView). standing_entries v.groups v.application)
      (map bare_view old.views) of.0 entry
      (subst (λ (v : BareView). In v (map bare_view old.views)) from.2
      (in_map bare_view old.views from.0 (stayed from.0 from.1).0)) of.2

  abbrev is_gone : View → Bool
  is_gone view = not (is_in_use view.number old.apps old.leases)

  no_more_data : sum_by view_blocks views ≤ sum_by view_blocks old.views
  no_more_data =
      omega (arith, sum_by-filter_both is_kept is_gone (λ v. refl) view_blocks old.views)

  pub cleaned_takes : TakesMore 0 old (cleaned old)
  cleaned_takes = record {
    programs = among_files;
    standing = among_standing;
    data_blocks = omega (arith, data_sum views, data_sum old.views, no_more_data);
  }

  room : used_blocks (map bare_view views) ≤ used_blocks (map bare_view old.views)
  room =
      let files = blocks_among (standing_files (map bare_view views))
      (standing_files (map bare_view old.views)) among_standing in
      omega (arith, files, data_sum views, data_sum old.views, no_more_data)

  -- ---- how many are gone

  same_numbers : map (λ (v : View). v.number) views
      ≡ filter (λ (n : ℕ). is_in_use n old.apps old.leases)
      (map (λ (v : View). v.number) old.views)
  same_numbers =
      sym (filter_map_is (λ (v : View). v.number) (λ (n : ℕ). is_in_use n old.apps old.leases)
      old.views)

  bare_numbers : (vs : List View)
      → map (λ (v : BareView). v.number) (map bare_view vs) ≡ map (λ (v : View). v.number) vs
  bare_numbers [] = refl
  bare_numbers (v ∷ vs) = ap (λ (ns : List ℕ). v.number ∷ ns) (bare_numbers vs)

  pub gone_count : length (removable (shape_of (session_over old))) + length (cleaned old).views
      ≡ length old.views
  gone_count =
      let of_bare = ap (λ (ns : List ℕ). length (filter (λ (n : ℕ). not
      (is_in_use n old.apps old.leases)) ns)) (bare_numbers old.views) in
      let kept = ap length same_numbers in
      omega (
        arith,
        of_bare,
        kept,
        length-map views (λ (v : View). v.number),
        length-map old.views (λ (v : View). v.number),
        length-filter_both (λ (n : ℕ). is_in_use n old.apps old.leases)
            (λ (n : ℕ). not (is_in_use n old.apps old.leases)) (λ n. refl)
            (map (λ (v : View). v.number) old.views),
      )

  -- ---- within its order

  still : (key : Key) (number : ℕ) → Used number → IsViewOf old.views key number
      → IsViewOf views key number
  still key number used is =
      let own = in_any (λ (v : View). (v.number ≡ number) × (key_of v ≡ key)) old.views is in
      any_in (λ (v : View). (v.number ≡ number) × (key_of v ≡ key)) views own.0
      (stays own.0 own.1 (subst Used (sym own.2.0) used)) own.2

  each_app : (app : AppState) → In app old.apps → IsApp old.views app → IsApp views app
  each_app app there is =
      over_views old.views views app (by app.current (of_current app) is.current)
      (by app.previous (of_previous app) is.previous) is
    where
      by : (o : Option ℕ) → ((number : ℕ) → In app old.apps → o ≡ Some number → Used number)
          → IfSome o (IsViewOf old.views app.key) → IfSome o (IsViewOf views app.key)
      by None used own = tt
      by (Some number) used own = still app.key number (used number there refl) own

  lease_kept : (lease : Lease) → In lease old.leases
      → Contains (map (λ (v : View). v.number) old.views) lease.view
      → Contains (map (λ (v : View). v.number) views) lease.view
  lease_kept lease there named =
      let numbers = map (λ (v : View). v.number) old.views in
      let view = map_in (λ (v : View). v.number) old.views lease.view
      (in_contains numbers lease.view named) in
      contains_in (map (λ (v : View). v.number) views) lease.view
      (subst (λ (n : ℕ). In n (map (λ (v : View). v.number) views)) view.2
      (in_map (λ (v : View). v.number) views view.0
      (stays view.0 view.1 (subst Used (sym view.2) (of_lease lease there)))))

  pub cleaned_ordered : Ordered old → Ordered (cleaned old)
  cleaned_ordered was = record {
    some_blocks = was.some_blocks;
    few_blocks = was.few_blocks;
    boot = was.boot;
    lease_numbers = was.lease_numbers;
    few_leases = was.few_leases;
    leased = in_all (λ (l : Lease). Contains (map (λ (v : View). v.number) views) l.view) old.leases
        (λ l there. lease_kept l there (all_in (λ (l : Lease).
        Contains (map (λ (v : View). v.number) old.views) l.view) old.leases l was.leased there));
    view_numbers = subst (AreNumbers old.next_view) (sym same_numbers)
        (numbers_among (λ (n : ℕ). is_in_use n old.apps old.leases) old.next_view
        (map (λ (v : View). v.number) old.views) was.view_numbers);
    few_views = omega (
      arith,
      was.few_views,
      length-filter_both is_kept is_gone (λ v. refl) old.views,
    );
    few_files = omega (
      arith,
      was.few_files,
      sum_by-filter_both is_kept is_gone (λ v. refl) (λ (v : View). length v.application.files)
          old.views,
    );
    views = All-filter is_kept IsView old.views was.views;
    installed = All-filter is_kept (λ (v : View). IsInstalled old.apps (key_of v)) old.views
        was.installed;
    order = was.order;
    few_apps = was.few_apps;
    apps = in_all (IsApp views) old.apps
        (λ app there. each_app app there (all_in (IsApp old.views) old.apps app was.apps there));
  }

  pub cleaned_valid : Valid old → Valid (cleaned old)
  cleaned_valid valid = record {
    ordered = cleaned_ordered valid.ordered;
    room = (let was = valid.room in omega (arith, was, room));
    light = lighter old.room (weight_of (map bare_view views) old.apps)
        (weight_of (map bare_view old.views) old.apps)
        (lower_kept is_kept old.views old.apps among_standing) valid.light;
  }

  pub cleaned_sound : Sound old → Sound (cleaned old)
  cleaned_sound sound = record {
    valid = cleaned_valid sound.valid;
    views = All-filter is_kept IsSoundView old.views sound.views;
    shared = alike_each (program_files_of (cleaned old))
        (λ f g a b. each_alike (program_files_of old) sound.shared f g (among_files f a)
        (among_files g b));
  }
