-- The plans that are made by tables are those of the update.
use Rattle.std.proofs.Common.{◌≡◌, ◌∙◌, ◌++◌, ◌||◌, refl, ap, ap₂, subst, ℕ, Bool, not, List, [], ◌∷◌}
use mathlib.Core.Path.{fun_ext}
use Rattle.std.specs.Prelude.{flat_map}
use Rattle.std.specs.Borrow.{Bor}
use Rattle.std.specs.BTreeMap.{BTreeMap}
use Rattle.std.specs.BTreeSet.{BTreeSet}
use Rattle.std.specs.List.{list_any}
use Rattle.std.specs.List.Sorted.{IsPermutation}
use Rattle.manifests.specs.declared.facts.FileEntry.{FileEntry}
use Rattle.machine.specs.Migrated.{is_fresh, is_same, stays}
use Rattle.store_state.specs.declared.view.LocalFile.{LocalFile}
use Rattle.data_migration.specs.declared.plan.LocalPlan.{LocalPlan}
use Rattle.data_migration.specs.Plans.{carried, fresh_one, is_kept, local_names, planned}
use Rattle.data_migration.specs.Tables.{IsTable, has_name, is_missing, stays_by}

any_named : (p : List ℕ → Bool) (files : List LocalFile)
    → list_any (λ (file : LocalFile). p file.name) files ≡ list_any p (local_names files)
any_named p [] = refl
any_named p (file ∷ files) = ap (λ (b : Bool). p file.name || b) (any_named p files)

module _ (old : List LocalFile) (old_files new_files : List FileEntry)
    (before after : BTreeMap (Bor (List ℕ)) (Bor FileEntry))
    (was : IsTable before old_files) (now : IsTable after new_files) where
  same_stay : ◌≡◌ {A = List ℕ → Bool} (stays_by before after) (stays old_files new_files)
  same_stay = fun_ext (λ name. ap₂ is_same (was name) (now name))

  module _ (kept : BTreeSet (Bor (List ℕ)))
      (names : (name : List ℕ) → has_name kept name
      ≡ list_any (λ (file : LocalFile). is_kept (stays_by before after) name file.name) old)
    where
      same_fresh : ◌≡◌ {A = List ℕ → Bool} (is_missing kept)
          (is_fresh (local_names old) old_files new_files)
      same_fresh =
          fun_ext (λ name. ap not (names name
          ∙ ap (λ (s : List ℕ → Bool).
          list_any (λ (file : LocalFile). is_kept s name file.name) old) same_stay
          ∙ any_named (is_kept (stays old_files new_files) name) old))

      pub planned_is : (olds plans : List LocalPlan)
          → olds ≡ flat_map (λ (file : LocalFile). carried (stays_by before after) file.name) old
          → plans ≡ olds ++ flat_map (fresh_one (is_missing kept)) new_files
          → plans ≡ planned old old_files new_files
      planned_is olds plans first joined =
          joined
          ∙ ap (λ (ps : List LocalPlan). ps ++ flat_map (fresh_one (is_missing kept)) new_files)
          (first
          ∙ ap (λ (s : List ℕ → Bool). flat_map (λ (file : LocalFile). carried s file.name) old)
          same_stay)
          ∙ ap (λ (t : List ℕ → Bool).
          flat_map (λ (file : LocalFile). carried (stays old_files new_files) file.name) old
          ++ flat_map (fresh_one t) new_files) same_fresh

-- the same of lists as they are read
pub sorted_plans : (old a : List LocalFile) (old_files b new_files d : List FileEntry)
    (items plans : List LocalPlan) → a ≡ old → b ≡ old_files → d ≡ new_files
    → items ≡ planned a b d → IsPermutation items plans
    → IsPermutation (planned old old_files new_files) plans
sorted_plans old a old_files b new_files d items plans first second third made same =
    subst (λ (ps : List LocalPlan). IsPermutation ps plans)
    (made ∙ ap (λ (x : List LocalFile). planned x b d) first
    ∙ ap (λ (x : List FileEntry). planned old x d) second
    ∙ ap (λ (x : List FileEntry). planned old old_files x) third) same
