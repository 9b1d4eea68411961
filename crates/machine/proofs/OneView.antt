-- A store of which one view is changed.
use Rattle.std.proofs.Common.{◌≡◌, ◌≢◌, ◌∙◌, ◌++◌, ◌<◌, refl, sym, ap, subst, ℕ, Bool, true, false, cond, eqb, eqb-true, eq-eqb, List, [], ◌∷◌, length, map, All, Contains, Option, Some, None, arith}
use Rattle.std.specs.Prelude.{flat_map, option_map, sum_by}
use Rattle.std.proofs.lemmas.Bool.{cond-true}
use Rattle.std.proofs.lemmas.List.{length-map}
use Rattle.std.proofs.lemmas.List.Elements.{All-weaker}
use Rattle.identity.specs.declared.key.Key.{Key}
use Rattle.manifests.specs.declared.facts.Application.{Application}
use Rattle.manifests.specs.declared.facts.Deployment.{Deployment}
use Rattle.machine.specs.declared.lease.Lease.{Lease}
use Rattle.machine.specs.Current.{view_at}
use Rattle.machine.specs.Grouped.{with_view_at}
use Rattle.machine.specs.LifeLaws.{IsSameRelease}
use Rattle.machine.specs.Shape.{BareView, bare_view}
use Rattle.machine.specs.Store.{Store}
use Rattle.machine.specs.Valid.{AreNumbers, IsApp, IsInstalled, IsView, IsViewOf, Ordered}
use Rattle.machine.specs.Views.{View, key_of}
use Rattle.machine.proofs.FirstFound.{map_at, map_value}
use Rattle.machine.proofs.Leased.{view_in}
use Rattle.machine.proofs.ChangedLists.{all_mapped, any_mapped, one_of, pairs_unmap, same_parts}
use Rattle.machine.proofs.Members.{In, in_all, pairs_weaker, sum_agree, sum_map}
use Rattle.machine.proofs.OtherViews.{same_app}

-- the number is of one view
pub only_one : (number : ℕ) (old : Store) → Ordered old → (view other : View)
    → view_at number old.views ≡ Some view → In other old.views → eqb other.number number ≡ true
    → other ≡ view
only_one number old was view other found there is =
    let known = view_in number old.views view found in
    one_of (λ (v : View). v.number) old.views
    (pairs_weaker (λ (v w : View). v.number < w.number) (λ (v w : View). v.number ≢ w.number)
    old.views (λ v w less e. omega (arith, less, e))
    (pairs_unmap (λ (v : View). v.number) (λ (m n : ℕ). m < n) old.views was.view_numbers.rising))
    other view there known.0 (eqb-true other.number number is ∙ sym known.1)

-- what a change leaves of each view
pub record Leaves (f : View → View) : Type 0 where
  pub number : (view : View) → (f view).number ≡ view.number
  pub deployment : (view : View) → (f view).deployment ≡ view.deployment
  pub application : (view : View) → (f view).application ≡ view.application
  pub base : (view : View) → (f view).base ≡ view.base

module _ (number : ℕ) (f : View → View) (old : Store) where
  abbrev change : View → View
  change view = cond (eqb view.number number) (f view) view

  abbrev views : List View
  views = with_view_at number f old.views

  -- a part that it leaves
  left_by : {X : Type 0} (part : View → X) → ((view : View) → part (f view) ≡ part view)
      → (b : Bool) (view : View) → part (cond b (f view) view) ≡ part view
  left_by part same true view = same view
  left_by part same false view = refl

  pub left_of : {X : Type 0} (part : View → X) → ((view : View) → part (f view) ≡ part view)
      → (view : View) → part (cond (eqb view.number number) (f view) view) ≡ part view
  left_of part same view = left_by part same (eqb view.number number) view

  -- lists that it leaves, of all views without their bytes
  pub same_bare_lists : {X : Type 0} (part : BareView → List X)
      → ((view : View) → part (bare_view (f view)) ≡ part (bare_view view)) → (vs : List View)
      → flat_map part (map bare_view (with_view_at number f vs)) ≡ flat_map part (map bare_view vs)
  same_bare_lists part same [] = refl
  same_bare_lists {X} part same (v ∷ vs) =
      ap (λ (xs : List X). xs ++ flat_map part (map bare_view (with_view_at number f vs)))
      (left_of (λ (w : View). part (bare_view w)) same v)
      ∙ ap (λ (xs : List X). part (bare_view v) ++ xs) (same_bare_lists part same vs)

  -- what holds of what becomes of the view of the number, and of each other one
  pub by_number : (P : View → Type 0) → Ordered old → (view : View)
      → view_at number old.views ≡ Some view → P (f view) → (other : View) → In other old.views
      → P other → P (cond (eqb other.number number) (f other) other)
  by_number P was view found made other there holds = by (eqb other.number number) refl
    where
      by : (b : Bool) → eqb other.number number ≡ b → P (cond b (f other) other)
      by true same =
          subst (λ (v : View). P (f v)) (sym (only_one number old was view other found there same))
          made
      by false differ = holds

  module _ (leaves : Leaves f) where
    -- ---- views by their numbers

    view_at_changed : (n : ℕ) (vs : List View)
        → view_at n (map change vs) ≡ option_map change (view_at n vs)
    view_at_changed n [] = refl
    view_at_changed n (v ∷ vs) =
        ap (λ (k : ℕ). cond (eqb k n) (Some (change v)) (view_at n (map change vs)))
        (left_of (λ (w : View). w.number) leaves.number v)
        ∙ ap (λ (rest : Option View). cond (eqb v.number n) (Some (change v)) rest)
        (view_at_changed n vs)
        ∙ map_at change (eqb v.number n) v (view_at n vs)

    pub changed_at : (n : ℕ) (view : View) → view_at n old.views ≡ Some view
        → view_at n (with_view_at number f old.views)
        ≡ Some (cond (eqb view.number number) (f view) view)
    changed_at n view is = view_at_changed n old.views ∙ ap (option_map change) is

    -- the view of the number
    pub own_at : (view : View) → view_at number old.views ≡ Some view
        → view_at number (with_view_at number f old.views) ≡ Some (f view)
    own_at view is =
        changed_at number view is
        ∙ ap Some (cond-true (eqb view.number number) (f view) view
        (eq-eqb view.number number (view_in number old.views view is).1))

    -- and each other one
    other_by : (n : ℕ) → n ≢ number → (o : Option View) → view_at n old.views ≡ o
        → option_map change o ≡ o
    other_by n apart None is = refl
    other_by n apart (Some view) is = by (eqb view.number number) refl
      where
        by : (b : Bool) → eqb view.number number ≡ b
            → ◌≡◌ {A = Option View} (Some (cond b (f view) view)) (Some view)
        by true same =
            absurd (apart (sym (view_in n old.views view is).1 ∙ eqb-true view.number number same))
        by false differ = refl

    pub other_at : (n : ℕ) → n ≢ number
        → view_at n (with_view_at number f old.views) ≡ view_at n old.views
    other_at n apart =
        view_at_changed n old.views ∙ other_by n apart (view_at n old.views) refl

    -- one that is kept was kept, as the same release
    pub kept_before : (n : ℕ) (later : View)
        → view_at n (with_view_at number f old.views) ≡ Some later
        → (view : View) × (view_at n old.views ≡ Some view) × IsSameRelease view later
    kept_before n later is =
        let was = map_value change (view_at n old.views) later
        (sym (view_at_changed n old.views) ∙ is) in (
          was.0,
          was.1,
          subst (IsSameRelease was.0) was.2 (record {
            deployment = left_of (λ (w : View). w.deployment) leaves.deployment was.0;
            application = left_of (λ (w : View). w.application) leaves.application was.0;
            base = left_of (λ (w : View). w.base) leaves.base was.0;
          }),
        )

    same_key : (view : View) → key_of (f view) ≡ key_of view
    same_key view = ap (λ (d : Deployment). d.identity.key) (leaves.deployment view)

    -- ---- within its order

    stays : (key : Key) (n : ℕ) → IsViewOf old.views key n → IsViewOf views key n
    stays key n is =
        any_mapped change (λ (v : View). (v.number ≡ n) × (key_of v ≡ key))
        (λ (v : View). (v.number ≡ n) × (key_of v ≡ key)) old.views
        (λ v own. (
          left_of (λ (w : View). w.number) leaves.number v ∙ own.0,
          left_of key_of same_key v ∙ own.1,
        )) is

    same_numbers : map (λ (v : View). v.number) views ≡ map (λ (v : View). v.number) old.views
    same_numbers =
        same_parts change (λ (v : View). v.number)
        (left_of (λ (w : View). w.number) leaves.number) old.views

    same_count : sum_by (λ (v : View). length v.application.files) views
        ≡ sum_by (λ (v : View). length v.application.files) old.views
    same_count =
        sum_map change (λ (v : View). length v.application.files) old.views
        ∙ sum_agree (λ (v : View). length (change v).application.files)
        (λ (v : View). length v.application.files) old.views
        (in_all (λ (v : View). length (change v).application.files ≡ length v.application.files)
        old.views
        (λ v there. left_of (λ (w : View). length w.application.files)
        (λ w. ap (λ (a : Application). length a.files) (leaves.application w)) v))

    pub with_one_ordered : (view : View) → view_at number old.views ≡ Some view → IsView (f view)
        → Ordered old → Ordered (record old { views = with_view_at number f old.views })
    with_one_ordered view found is was = record {
      some_blocks = was.some_blocks;
      few_blocks = was.few_blocks;
      boot = was.boot;
      lease_numbers = was.lease_numbers;
      few_leases = was.few_leases;
      leased = subst (λ (ns : List ℕ). All (λ (l : Lease). Contains ns l.view) old.leases)
          (sym same_numbers) was.leased;
      view_numbers = subst (λ (ns : List ℕ). AreNumbers old.next_view ns) (sym same_numbers)
          was.view_numbers;
      few_views = omega (arith, was.few_views, length-map old.views change);
      few_files = omega (arith, was.few_files, same_count);
      views = all_mapped change IsView IsView old.views (by_number IsView was view found is)
          was.views;
      installed = all_mapped change (λ (v : View). IsInstalled old.apps (key_of v))
          (λ (v : View). IsInstalled old.apps (key_of v)) old.views
          (λ v there is. subst (λ (k : Key). IsInstalled old.apps k)
          (sym (left_of key_of same_key v)) is) was.installed;
      order = was.order;
      few_apps = was.few_apps;
      apps = All-weaker (IsApp old.views) (IsApp views) (same_app old.views views stays) old.apps
          was.apps;
    }
