-- The files that were planned so far, and those that are left.
use Rattle.std.proofs.Common.{◌≡◌, ℕ, ◌+◌, ◌<◌, Bool, true, false, List, [], ◌∷◌, ◌++◌, length, drop, get_or, Option, refl, sym, ap, ap₂, ◌∙◌, append_assoc}
use Rattle.std.specs.Prelude.{find}
use Rattle.std.proofs.lemmas.Bool.{cond-false}
use Rattle.publish_plan.specs.declared.options.Options.{Options}
use Rattle.publish_plan.specs.declared.options.PlannedFile.{PlannedFile}
use Rattle.publish_plan.specs.Places.{has_front, behind, all_behind}
use Rattle.publish_plan.specs.Plans.{is_bad_input, planned, planned_files}
use Rattle.publish_plan.proofs.InputLemmas.{behind_yes, behind_no}

pub record Planned (o : Options) (front : List ℕ) (names : List (List ℕ)) (files : List PlannedFile) (i : ℕ) : Type 0 where
  pub made : files ++ planned_files o (all_behind front (drop i names)) ≡ planned_files o (all_behind front names)
  pub fit : find (is_bad_input o) (all_behind front (drop i names)) ≡ find (is_bad_input o) (all_behind front names)

module _ (o : Options) (front : List ℕ) (names : List (List ℕ)) (files : List PlannedFile) (i : ℕ) (name : List ℕ) (inside : i < length names) (is : name ≡ get_or names i name) (so_far : Planned o front names files i) where
  pub planned_yes : (after : List PlannedFile) → has_front front name ≡ true → is_bad_input o (behind front name) ≡ false → after ≡ files ++ planned o (behind front name) ∷ [] → Planned o front names after (i + 1)
  planned_yes after has fit longer =
      let file = behind front name in
      let rest = all_behind front (drop (i + 1) names) in
      let here : all_behind front (drop i names) ≡ file ∷ rest = behind_yes front names i name inside is has in
      record {
        made = ap (λ (fs : List PlannedFile). fs ++ planned_files o rest) longer ∙ append_assoc files (planned o file ∷ []) (planned_files o rest)
            ∙ sym (ap (λ (fs : List (List ℕ)). files ++ planned_files o fs) here) ∙ so_far.made;
        fit = sym (cond-false (is_bad_input o file) _ _ fit) ∙ sym (ap (find (is_bad_input o)) here) ∙ so_far.fit;
      }

  pub planned_no : has_front front name ≡ false → Planned o front names files (i + 1)
  planned_no has =
      let same : all_behind front (drop i names) ≡ all_behind front (drop (i + 1) names) = behind_no front names i name inside is has in
      record {
        made = sym (ap (λ (fs : List (List ℕ)). files ++ planned_files o fs) same) ∙ so_far.made;
        fit = sym (ap (find (is_bad_input o)) same) ∙ so_far.fit;
      }
