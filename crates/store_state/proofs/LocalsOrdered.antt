-- A store in its order, once the data files of one view are others.
use Rattle.std.proofs.Common.{◌≡◌, ◌∙◌, ◌≤◌, refl, sym, subst, ℕ, Bool, true, false, cond, not, eqb, List, length, map, All, Contains, Option, Some, None, bytes_eq, arith}
use Rattle.std.specs.Prelude.{IfSome, count_by, sum_by}
use Rattle.std.specs.declared.cmp.Ordering.TheVariants.{Less}
use Rattle.std.proofs.lemmas.List.{length-map}
use Rattle.std.proofs.lemmas.List.Elements.{All-weaker}
use Rattle.std.proofs.lemmas.List.Kept.{AllPairs-filter}
use Rattle.small_types.specs.declared.limits.TheConstants.{LOCAL_COUNT_LIMIT}
use Rattle.identity.specs.Printed.{text_cmp}
use Rattle.identity.specs.declared.key.Key.{Key}
use Rattle.manifests.specs.Applications.{is_below_pre}
use Rattle.machine.specs.declared.app.AppState.{AppState}
use Rattle.machine.specs.declared.lease.Lease.{Lease}
use Rattle.machine.specs.Current.{view_at}
use Rattle.machine.specs.DataFiles.{data_name, put_in, removed_in, with_named, without_named}
use Rattle.machine.specs.Grouped.{with_view_at}
use Rattle.machine.specs.Store.{Store}
use Rattle.machine.specs.Valid.{AreNumbers, IsApp, IsDataFile, IsInstalled, IsView, IsViewOf, Ordered}
use Rattle.machine.specs.Views.{DataFile, View, key_of}
use Rattle.machine.proofs.OneView.{only_one}
use Rattle.machine.proofs.ChangedLists.{all_mapped, any_mapped, same_parts}
use Rattle.machine.proofs.Members.{In, in_all, sum_agree, sum_map}
use Rattle.store_state.proofs.PutItems.{all_left, all_with, fewer_left, order_with}

module _ (number : ℕ) (k : List DataFile → List DataFile) (old : Store) where
  abbrev kept_with : View → View
  kept_with view = record view { data_files = k view.data_files }

  abbrev change : View → View
  change view = cond (eqb view.number number) (kept_with view) view

  abbrev views : List View
  views = with_view_at number kept_with old.views

  -- what a view has beside its data files
  left_by : {X : Type 0} (part : View → X) → ((view : View) → part (kept_with view) ≡ part view)
      → (b : Bool) (view : View) → part (cond b (kept_with view) view) ≡ part view
  left_by part same true view = same view
  left_by part same false view = refl

  left_of : {X : Type 0} (part : View → X) → ((view : View) → part (kept_with view) ≡ part view)
      → (view : View) → part (change view) ≡ part view
  left_of part same view = left_by part same (eqb view.number number) view

  still : (key : Key) (n : Option ℕ) → IfSome n (IsViewOf old.views key)
      → IfSome n (IsViewOf views key)
  still key None is = tt
  still key (Some n) is =
      any_mapped change (λ (v : View). (v.number ≡ n) × (key_of v ≡ key))
      (λ (v : View). (v.number ≡ n) × (key_of v ≡ key)) old.views
      (λ v own. (
        left_of (λ (w : View). w.number) (λ w. refl) v ∙ own.0,
        left_of key_of (λ w. refl) v ∙ own.1,
      )) is

  same_app : (app : AppState) → IsApp old.views app → IsApp views app
  same_app app is = record {
    key = is.key;
    provider = is.provider;
    current = still app.key app.current is.current;
    previous = still app.key app.previous is.previous;
    minimum = is.minimum;
    offer = is.offer;
    skipped = is.skipped;
    excluded = is.excluded;
    last_check = is.last_check;
    beside = is.beside;
    other = is.other;
    provided = is.provided;
  }

  same_numbers : map (λ (v : View). v.number) views ≡ map (λ (v : View). v.number) old.views
  same_numbers =
      same_parts change (λ (v : View). v.number) (left_of (λ (w : View). w.number) (λ w. refl))
      old.views

  same_count : sum_by (λ (v : View). length v.application.files) views
      ≡ sum_by (λ (v : View). length v.application.files) old.views
  same_count =
      sum_map change (λ (v : View). length v.application.files) old.views
      ∙ sum_agree (λ (v : View). length (change v).application.files)
      (λ (v : View). length v.application.files) old.views
      (in_all (λ (v : View). length (change v).application.files ≡ length v.application.files)
      old.views
      (λ v there. left_of (λ (w : View). length w.application.files) (λ w. refl) v))

  -- each view that is changed is one still
  pub data_ordered : Ordered old
      → ((view : View) → In view old.views → IsView view → eqb view.number number ≡ true
      → IsView (kept_with view))
      → Ordered (record old { views = views })
  data_ordered was each = record {
    some_blocks = was.some_blocks;
    few_blocks = was.few_blocks;
    boot = was.boot;
    lease_numbers = was.lease_numbers;
    few_leases = was.few_leases;
    leased = subst (λ (ns : List ℕ). All (λ (l : Lease). Contains ns l.view) old.leases)
        (sym same_numbers) was.leased;
    view_numbers = subst (λ (ns : List ℕ). AreNumbers old.next_view ns) (sym same_numbers)
        was.view_numbers;
    few_views = omega (arith, was.few_views, length-map old.views change);
    few_files = omega (arith, was.few_files, same_count);
    views = all_mapped change IsView IsView old.views
        (λ v there is. by v (eqb v.number number) refl (each v there is) is) was.views;
    installed = all_mapped change (λ (v : View). IsInstalled old.apps (key_of v))
        (λ (v : View). IsInstalled old.apps (key_of v)) old.views
        (λ v there is. subst (λ (key : Key). IsInstalled old.apps key)
        (sym (left_of key_of (λ w. refl) v)) is) was.installed;
    order = was.order;
    few_apps = was.few_apps;
    apps = All-weaker (IsApp old.views) (IsApp views) same_app old.apps was.apps;
  }
    where
      by : (v : View) (b : Bool) → eqb v.number number ≡ b
          → (eqb v.number number ≡ true → IsView (kept_with v)) → IsView v
          → IsView (cond b (kept_with v) v)
      by v true e made is = made e
      by v false e made is = is

-- ---- a data file that is put

abbrev pub outside_data : List DataFile → ℕ
outside_data files = count_by (λ (file : DataFile). not (is_below_pre file.name)) files

pub put_ordered : (number : ℕ) (file : DataFile) (view : View) (old : Store)
    → view_at number old.views ≡ Some view → IsDataFile file
    → outside_data (with_named data_name file view.data_files) ≤ LOCAL_COUNT_LIMIT
    → Ordered old → Ordered (put_in number file old)
put_ordered number file view old found is few was =
    data_ordered number (with_named data_name file) old was
    (λ other there of same. (
    let one = only_one number old was view other found there same in record {
      deployment = of.deployment;
      application = of.application;
      base = of.base;
      groups = of.groups;
      files = of.files;
      data_order = order_with data_name file other.data_files of.data_order;
      data_files = all_with data_name IsDataFile file other.data_files is of.data_files;
      few_data = subst (λ (v : View). outside_data (with_named data_name file v.data_files)
          ≤ LOCAL_COUNT_LIMIT) (sym one) few;
    }))

-- ---- and one that is removed

pub removed_ordered : (number : ℕ) (name : List ℕ) (old : Store) → Ordered old
    → Ordered (removed_in number name old)
removed_ordered number name old was =
    data_ordered number (without_named data_name name) old was
    (λ other there of same. record {
      deployment = of.deployment;
      application = of.application;
      base = of.base;
      groups = of.groups;
      files = of.files;
      data_order = AllPairs-filter (λ (f g : DataFile). text_cmp f.name g.name ≡ Less)
          (λ (f : DataFile). not (bytes_eq f.name name))
          other.data_files of.data_order;
      data_files = all_left (λ (f : DataFile). not (bytes_eq f.name name)) IsDataFile
          other.data_files of.data_files;
      few_data = (let fewer = fewer_left (λ (f : DataFile). not (bytes_eq f.name name))
          (λ (f : DataFile). cond (not (is_below_pre f.name)) 1 0) other.data_files in
          let few = of.few_data in omega (arith, fewer, few));
    })
