-- The plans of an update: which they are, and their names.
use Rattle.std.proofs.Common.{◌≡◌, ◌∙◌, ◌⊎◌, ◌++◌, ◌&&◌, inl, inr, refl, sym, ap, subst, ℕ, Bool, true, false, cond, List, [], ◌∷◌, map, All}
use Rattle.std.specs.Prelude.{filter, flat_map}
use Rattle.std.specs.List.Sorted.{IsPermutation}
use Rattle.std.proofs.lemmas.List.{map-append}
use Rattle.std.proofs.lemmas.List.Sorted.{All-permutation, IsPermutation-map}
use Rattle.small_types.specs.Name.{IsBelowPre}
use Rattle.manifests.specs.declared.facts.FileEntry.{FileEntry}
use Rattle.manifests.specs.Applications.{is_below_pre}
use Rattle.machine.specs.Migrated.{aside, is_fresh, migrated_names, moved, stays}
use Rattle.machine.proofs.ChangedLists.{flat_map_in}
use Rattle.machine.proofs.Members.{In, contains_in, filter_in, filter_map_is, in_all, in_either, in_filter, in_flat_map, in_left, in_map, in_right, map_in}
use Rattle.machine.proofs.Names.{outside_test, test_outside}
use Rattle.store_state.specs.declared.view.LocalFile.{LocalFile}
use Rattle.data_migration.specs.declared.plan.LocalPlan.{LocalPlan}
use Rattle.data_migration.specs.declared.plan.LocalPlan.TheVariants.{Copy, Fresh}
use Rattle.data_migration.specs.Migration.{HasSource, deployed_files}
use Rattle.data_migration.specs.Plans.{carried, carried_to, fresh_one, local_names, plan_name, planned}

-- ---- old data files

module _ (stay : List ℕ → Bool) (name : List ℕ) where
  abbrev pub carrying : LocalPlan
  carrying = Copy name (carried_to (stay name) name)

  -- a plan of the one of that name
  pub carried_in : (p : LocalPlan) → In p (carried stay name)
      → ¬ IsBelowPre name × (carrying ≡ p)
  carried_in p there = by (is_below_pre name) refl there
    where
      by : (b : Bool) → is_below_pre name ≡ b → In p (cond b [] (carrying ∷ []))
          → ¬ IsBelowPre name × (carrying ≡ p)
      by true is found = absurd found
      by false is (inl same) = (test_outside name is, same)
      by false is (inr none) = absurd none

  pub in_carried : ¬ IsBelowPre name → In carrying (carried stay name)
  in_carried outside =
      subst (λ (ps : List LocalPlan). In carrying ps)
      (sym (ap (λ (b : Bool). cond b [] (carrying ∷ [])) (outside_test name outside))) (inl refl)

-- ---- deployed data files

module _ (comes : List ℕ → Bool) where
  one_fresh : (l c : Bool) (entry : FileEntry) (kept : List FileEntry) → comes entry.name ≡ c
      → cond (l && c) (Fresh entry.name ∷ []) []
      ++ map (λ (e : FileEntry). Fresh e.name) (filter (λ (e : FileEntry). comes e.name) kept)
      ≡ map (λ (e : FileEntry). Fresh e.name)
      (filter (λ (e : FileEntry). comes e.name) (cond l (entry ∷ kept) kept))
  one_fresh true c entry kept is =
      by c
      ∙ ap (λ (b : Bool). map (λ (e : FileEntry). Fresh e.name)
      (cond b (entry ∷ filter (λ (e : FileEntry). comes e.name) kept)
      (filter (λ (e : FileEntry). comes e.name) kept))) (sym is)
    where
      by : (b : Bool) → cond b (Fresh entry.name ∷ []) []
          ++ map (λ (e : FileEntry). Fresh e.name) (filter (λ (e : FileEntry). comes e.name) kept)
          ≡ map (λ (e : FileEntry). Fresh e.name)
          (cond b (entry ∷ filter (λ (e : FileEntry). comes e.name) kept)
          (filter (λ (e : FileEntry). comes e.name) kept))
      by true = refl
      by false = refl
  one_fresh false c entry kept is = refl

  -- their plans, in their order
  pub fresh_plans : (files : List FileEntry)
      → flat_map (fresh_one comes) files
      ≡ map (λ (e : FileEntry). Fresh e.name)
      (filter (λ (e : FileEntry). comes e.name) (deployed_files files))
  fresh_plans [] = refl
  fresh_plans (entry ∷ files) =
      ap (λ (ps : List LocalPlan). fresh_one comes entry ++ ps) (fresh_plans files)
      ∙ one_fresh entry.local (comes entry.name) entry (deployed_files files) refl

  -- a plan of one of them
  pub fresh_in : (files : List FileEntry) (p : LocalPlan) → In p (flat_map (fresh_one comes) files)
      → (entry : FileEntry) × In entry (deployed_files files) × (comes entry.name ≡ true)
      × (Fresh entry.name ≡ p)
  fresh_in files p there =
      let from = map_in (λ (e : FileEntry). Fresh e.name)
      (filter (λ (e : FileEntry). comes e.name) (deployed_files files)) p
      (subst (λ (ps : List LocalPlan). In p ps) (fresh_plans files) there) in
      let kept = filter_in (λ (e : FileEntry). comes e.name) (deployed_files files) from.0 from.1 in
      (from.0, kept.1, kept.0, from.2)

  pub in_fresh : (files : List FileEntry) (entry : FileEntry) → In entry (deployed_files files)
      → comes entry.name ≡ true → In (Fresh entry.name) (flat_map (fresh_one comes) files)
  in_fresh files entry there fresh =
      subst (λ (ps : List LocalPlan). In (Fresh entry.name) ps) (sym (fresh_plans files))
      (in_map (λ (e : FileEntry). Fresh e.name)
      (filter (λ (e : FileEntry). comes e.name) (deployed_files files)) entry
      (in_filter (λ (e : FileEntry). comes e.name) (deployed_files files) entry fresh there))

-- ---- all plans

module _ (old : List LocalFile) (old_files new_files : List FileEntry) where
  abbrev pub stay : List ℕ → Bool
  stay = stays old_files new_files

  abbrev pub comes : List ℕ → Bool
  comes = is_fresh (local_names old) old_files new_files

  abbrev pub olds : List LocalPlan
  olds = flat_map (λ (file : LocalFile). carried stay file.name) old

  abbrev pub news : List LocalPlan
  news = flat_map (fresh_one comes) new_files

  -- the plan of an old data file outside `.pre`
  pub record IsOld (p : LocalPlan) : Type 0 where
    pub file : LocalFile
    pub there : In file old
    pub outside : ¬ IsBelowPre file.name
    pub is : carrying stay file.name ≡ p

  -- the plan of a deployed data file under whose name no old one stays
  pub record IsNew (p : LocalPlan) : Type 0 where
    pub entry : FileEntry
    pub there : In entry (deployed_files new_files)
    pub fresh : comes entry.name ≡ true
    pub is : Fresh entry.name ≡ p

  pub old_plan : (p : LocalPlan) → In p olds → IsOld p
  old_plan p there =
      let from = flat_map_in (λ (file : LocalFile). carried stay file.name) old p there in
      let one = carried_in stay from.0.name p from.2 in
      record { file = from.0; there = from.1; outside = one.0; is = one.1 }

  pub new_plan : (p : LocalPlan) → In p news → IsNew p
  new_plan p there =
      let from = fresh_in comes new_files p there in
      record { entry = from.0; there = from.1; fresh = from.2; is = from.3 }

  pub plan_is : (p : LocalPlan) → In p (planned old old_files new_files) → IsOld p ⊎ IsNew p
  plan_is p there = by (in_either olds news p there)
    where
      by : In p olds ⊎ In p news → IsOld p ⊎ IsNew p
      by (inl first) = inl (old_plan p first)
      by (inr second) = inr (new_plan p second)

  pub plan_of_old : (file : LocalFile) → In file old → ¬ IsBelowPre file.name
      → In (carrying stay file.name) (planned old old_files new_files)
  plan_of_old file there outside =
      in_left olds news (carrying stay file.name)
      (in_flat_map (λ (f : LocalFile). carried stay f.name) old file (carrying stay file.name) there
      (in_carried stay file.name outside))

  pub plan_of_new : (entry : FileEntry) → In entry (deployed_files new_files)
      → comes entry.name ≡ true → In (Fresh entry.name) (planned old old_files new_files)
  plan_of_new entry there fresh =
      in_right olds news (Fresh entry.name) (in_fresh comes new_files entry there fresh)

  -- ---- their sources

  pub sources : (plans : List LocalPlan) → IsPermutation (planned old old_files new_files) plans
      → All (HasSource old new_files) plans
  sources plans same =
      All-permutation (HasSource old new_files) (planned old old_files new_files) plans same
      (in_all (HasSource old new_files) (planned old old_files new_files)
      (λ p there. by p (plan_is p there)))
    where
      to : (same : Bool) (name : List ℕ)
          → (carried_to same name ≡ name) ⊎ (carried_to same name ≡ aside name)
      to true name = inl refl
      to false name = inr refl

      by : (p : LocalPlan) → IsOld p ⊎ IsNew p → HasSource old new_files p
      by p (inl one) =
          subst (HasSource old new_files) one.is
          ((
            contains_in (local_names old) one.file.name
                (in_map (λ (f : LocalFile). f.name) old one.file one.there),
            to (stay one.file.name) one.file.name,
          ))
      by p (inr one) =
          subst (HasSource old new_files) one.is
          (contains_in (map (λ (e : FileEntry). e.name) (deployed_files new_files)) one.entry.name
          (in_map (λ (e : FileEntry). e.name) (deployed_files new_files) one.entry one.there))

  -- ---- their names

  one_moved : (below same : Bool) (name : List ℕ)
      → map plan_name (cond below [] (Copy name (carried_to same name) ∷ []))
      ≡ cond below [] (cond same (name ∷ []) (aside name ∷ []))
  one_moved true same name = refl
  one_moved false true name = refl
  one_moved false false name = refl

  old_names : (files : List LocalFile)
      → map plan_name (flat_map (λ (file : LocalFile). carried stay file.name) files)
      ≡ flat_map (moved old_files new_files) (local_names files)
  old_names [] = refl
  old_names (file ∷ files) =
      map-append plan_name (carried stay file.name)
      (flat_map (λ (f : LocalFile). carried stay f.name) files)
      ∙ ap (λ (ns : List (List ℕ)). ns
      ++ map plan_name (flat_map (λ (f : LocalFile). carried stay f.name) files))
      (one_moved (is_below_pre file.name) (stay file.name) file.name)
      ∙ ap (λ (ns : List (List ℕ)). moved old_files new_files file.name ++ ns) (old_names files)

  fresh_names : (entries : List FileEntry)
      → map plan_name (map (λ (e : FileEntry). Fresh e.name) entries)
      ≡ map (λ (e : FileEntry). e.name) entries
  fresh_names [] = refl
  fresh_names (entry ∷ entries) =
      ap (λ (ns : List (List ℕ)). entry.name ∷ ns) (fresh_names entries)

  new_names : map plan_name news
      ≡ filter comes (map (λ (e : FileEntry). e.name) (deployed_files new_files))
  new_names =
      ap (map plan_name) (fresh_plans comes new_files)
      ∙ fresh_names (filter (λ (e : FileEntry). comes e.name) (deployed_files new_files))
      ∙ sym (filter_map_is (λ (e : FileEntry). e.name) comes (deployed_files new_files))

  pub planned_names : map plan_name (planned old old_files new_files)
      ≡ migrated_names (local_names old) old_files new_files
  planned_names =
      map-append plan_name olds news
      ∙ ap (λ (ns : List (List ℕ)). ns ++ map plan_name news) (old_names old)
      ∙ ap (λ (ns : List (List ℕ)). flat_map (moved old_files new_files) (local_names old) ++ ns)
      new_names

  pub names : (plans : List LocalPlan) → IsPermutation (planned old old_files new_files) plans
      → IsPermutation (migrated_names (local_names old) old_files new_files) (map plan_name plans)
  names plans same =
      subst (λ (ns : List (List ℕ)). IsPermutation ns (map plan_name plans)) planned_names
      (IsPermutation-map plan_name (planned old old_files new_files) plans same)
