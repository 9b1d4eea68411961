-- What plans copy: each old data file outside `.pre` once.
use Rattle.std.proofs.Common.{◌≡◌, ◌≢◌, ◌∙◌, ◌&&◌, ◌+◌, ◌++◌, inl, inr, refl, sym, ap, subst, ℕ, Bool, true, false, cond, not, List, [], ◌∷◌, AllPairs, Option, Some, None, bytes_eq, arith}
use Rattle.std.specs.Prelude.{flat_map, sum_by}
use Rattle.std.specs.List.Sorted.{IsPermutation}
use Rattle.std.proofs.lemmas.List.Sorted.{sum_by-IsPermutation}
use Rattle.std.proofs.lemmas.List.Sums.{sum_by-append, sum_by-cons}
use Rattle.small_types.specs.Blocks.{count_for}
use Rattle.manifests.specs.declared.facts.FileEntry.{FileEntry}
use Rattle.manifests.specs.Applications.{is_below_pre}
use Rattle.machine.specs.Blocks.{blocks_of}
use Rattle.machine.specs.Migrated.{is_fresh, stays}
use Rattle.machine.proofs.Members.{In, all_in, in_all, pairs_head, pairs_tail, sum_agree}
use Rattle.machine.proofs.NamedItems.{own_name}
use Rattle.store_state.specs.declared.view.LocalFile.{LocalFile}
use Rattle.store_state.specs.Locals.{local_named}
use Rattle.data_migration.specs.declared.plan.LocalPlan.{LocalPlan}
use Rattle.data_migration.specs.declared.plan.LocalPlan.TheVariants.{Copy, Fresh}
use Rattle.data_migration.specs.Plans.{carried, carried_to, fresh_one, local_names, planned}
use Rattle.install_plan.specs.Carried.{carried_in, copied_in}
use Rattle.install_plan.specs.Parts.{copied_locals, found_before}
use Rattle.install_plan.proofs.NewData.{other_name}

-- where names differ the file of a name is the one
pub own_first : (files : List LocalFile) (file : LocalFile) → AllPairs (λ (f g : LocalFile). ◌≢◌ {A = List ℕ} f.name g.name) files → In file files → local_named file.name files ≡ Some file
own_first [] file differ there = absurd there
own_first (first ∷ files) file differ (inl is) =
    ap (λ (b : Bool). cond b (Some first) (local_named file.name files)) (own_name first.name file.name (ap (λ (f : LocalFile). f.name) is)) ∙ ap Some is
own_first (first ∷ files) file differ (inr there) =
    let other : bytes_eq first.name file.name ≡ false =
    other_name first.name file.name (all_in (λ (g : LocalFile). ◌≢◌ {A = List ℕ} first.name g.name) files file (pairs_head (λ (f g : LocalFile). ◌≢◌ {A = List ℕ} f.name g.name) first files differ) there) in
    ap (λ (b : Bool). cond b (Some first) (local_named file.name files)) other ∙ own_first files file (pairs_tail (λ (f g : LocalFile). ◌≢◌ {A = List ℕ} f.name g.name) first files differ) there

module _ (f : LocalFile → ℕ) (old : List LocalFile) where
  -- what a plan copies
  abbrev cost_of : LocalPlan → ℕ
  cost_of (Copy from to) = sum_by f (found_before (local_named from old) [])
  cost_of (Fresh name) = 0

  found_sum : (o : Option LocalFile) (rest : List LocalFile) → sum_by f (found_before o rest) ≡ sum_by f (found_before o []) + sum_by f rest
  found_sum None rest = omega arith
  found_sum (Some file) rest = omega (arith, sum_by-cons f file rest, sum_by-cons f file [])

  copied_sum : (plans : List LocalPlan) → sum_by f (copied_locals old plans) ≡ sum_by cost_of plans
  copied_sum [] = refl
  copied_sum (Copy from to ∷ plans) = omega (arith, found_sum (local_named from old) (copied_locals old plans), copied_sum plans, sum_by-cons cost_of (Copy from to) plans)
  copied_sum (Fresh name ∷ plans) = omega (arith, copied_sum plans, sum_by-cons cost_of (Fresh name) plans)

  fresh_step : (b : Bool) (name : List ℕ) (rest : List LocalPlan) → sum_by cost_of (cond b (Fresh name ∷ []) [] ++ rest) ≡ sum_by cost_of rest
  fresh_step true name rest = omega (arith, sum_by-cons cost_of (Fresh name) rest)
  fresh_step false name rest = refl

  fresh_sum : (comes : List ℕ → Bool) (entries : List FileEntry) → sum_by cost_of (flat_map (fresh_one comes) entries) ≡ 0
  fresh_sum comes [] = refl
  fresh_sum comes (entry ∷ entries) = fresh_step (entry.local && comes entry.name) entry.name (flat_map (fresh_one comes) entries) ∙ fresh_sum comes entries

  -- a file outside `.pre`
  abbrev one_cost : LocalFile → ℕ
  one_cost file = cond (not (is_below_pre file.name)) (f file) 0

  carried_step : (b : Bool) (file : LocalFile) (to : List ℕ) (rest : List LocalPlan) → local_named file.name old ≡ Some file → sum_by cost_of (cond b [] (Copy file.name to ∷ []) ++ rest) ≡ cond (not b) (f file) 0 + sum_by cost_of rest
  carried_step true file to rest own = omega arith
  carried_step false file to rest own =
      let one : cost_of (Copy file.name to) ≡ f file + sum_by f [] = ap (λ (o : Option LocalFile). sum_by f (found_before o [])) own ∙ sum_by-cons f file [] in
      omega (arith, sum_by-cons cost_of (Copy file.name to) rest, one)

  carried_sum : (stay : List ℕ → Bool) (files : List LocalFile) → ((file : LocalFile) → In file files → local_named file.name old ≡ Some file) → sum_by cost_of (flat_map (λ (file : LocalFile). carried stay file.name) files) ≡ sum_by one_cost files
  carried_sum stay [] own = refl
  carried_sum stay (file ∷ files) own =
      let step = carried_step (is_below_pre file.name) file (carried_to (stay file.name) file.name) (flat_map (λ (x : LocalFile). carried stay x.name) files) (own file (inl refl)) in
      omega (arith, step, carried_sum stay files (λ x there. own x (inr there)), sum_by-cons one_cost file files)

  module _ (differ : AllPairs (λ (x y : LocalFile). ◌≢◌ {A = List ℕ} x.name y.name) old) (old_files new_files : List FileEntry) (plans : List LocalPlan) (are : IsPermutation (planned old old_files new_files) plans) where
    pub copied_cost : sum_by f (copied_locals old plans) ≡ sum_by one_cost old
    copied_cost =
        let stay = stays old_files new_files in
        let here = flat_map (λ (file : LocalFile). carried stay file.name) old in
        let fresh = flat_map (fresh_one (is_fresh (local_names old) old_files new_files)) new_files in
        omega (
          arith,
          copied_sum plans,
          sum_by-IsPermutation cost_of (planned old old_files new_files) plans are,
          sum_by-append cost_of here fresh,
          fresh_sum (is_fresh (local_names old) old_files new_files) new_files,
          carried_sum stay old (λ file there. own_first old file differ there),
        )

-- their blocks and their bytes
module _ (old : List LocalFile) (differ : AllPairs (λ (x y : LocalFile). ◌≢◌ {A = List ℕ} x.name y.name) old) (old_files new_files : List FileEntry) (plans : List LocalPlan) (are : IsPermutation (planned old old_files new_files) plans) where
  pub copied_blocks : sum_by (λ (file : LocalFile). count_for file.length) (copied_locals old plans) ≡ copied_in old
  copied_blocks =
      sum_agree (λ (file : LocalFile). count_for file.length) (λ (file : LocalFile). blocks_of file.length) (copied_locals old plans)
      (in_all (λ (file : LocalFile). count_for file.length ≡ blocks_of file.length) (copied_locals old plans) (λ file there. omega arith))
      ∙ copied_cost (λ (file : LocalFile). blocks_of file.length) old differ old_files new_files plans are

  pub copied_bytes : sum_by (λ (file : LocalFile). file.length) (copied_locals old plans) ≡ carried_in old
  copied_bytes = copied_cost (λ (file : LocalFile). file.length) old differ old_files new_files plans are
