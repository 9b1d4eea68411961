-- The steps of a plan, each of which may refuse it.
use Rattle.std.proofs.Common.{◌≡◌, ℕ, Bool, List, [], Option, Result, Ok, Err, refl, sym, ap, subst, ◌∙◌}
use Rattle.std.specs.Prelude.{find, option_map, if◌then◌else◌}
use Rattle.std.specs.BTreeMap.{BTreeMap}
use Rattle.std.specs.List.{list_any}
use Rattle.small_types.specs.Outcome.{◌>>=◌}
use Rattle.publish_plan.specs.declared.fault.PlanFault.{PlanFault}
use Rattle.publish_plan.specs.declared.options.Options.{Options}
use Rattle.publish_plan.specs.declared.options.PublishPlan.{PublishPlan}
use Rattle.publish_plan.specs.declared.options.PlannedFile.{PlannedFile}
use Rattle.publish_plan.specs.declared.fault.PlanFault.TheVariants.{VersionExists, EmptyInput, NoEntryPoint, BadMark}
use Rattle.publish_plan.specs.declared.marked.Seen.{Seen}
use Rattle.publish_plan.specs.Marks.{bad_mark}
use Rattle.publish_plan.specs.Outcome.{Read, Fails, Gives, unless}
use Rattle.publish_plan.specs.Places.{front_of, has_front, all_behind, lies_below, input_names, version_folder, manifest_name, deployment_name}
use Rattle.publish_plan.specs.Seen.{row, is_fresh, Knows}
use Rattle.publish_plan.specs.Plans.{standing, some_input, fit_inputs, planned_files, few, with_entry, good_marks, plan_for, plan_of}
use Rattle.publish_plan.proofs.Chains.{fails_then, then_fails}
use Rattle.publish_plan.proofs.MarkLemmas.{fresh_known}

abbrev pub done : Read (Unit {0})
done = Ok tt

abbrev pub planned : Options → List (List ℕ) → Read PublishPlan
planned o inputs = Ok (record { files = planned_files o inputs; manifest = manifest_name o; deployment = deployment_name o })

-- ---- over the files that are published

module _ (o : Options) (inputs : List (List ℕ)) where
  fit_fails : (e : PlanFault) → Fails e (fit_inputs o inputs) → Fails e (plan_for o inputs)
  unfolding plan_for
  fit_fails e h = fails_then e (fit_inputs o inputs) _ h

  module _ (fit : fit_inputs o inputs ≡ done) where
    few_fails : (e : PlanFault) → Fails e (few (planned_files o inputs)) → Fails e (plan_for o inputs)
    unfolding plan_for
    few_fails e h = then_fails e (fit_inputs o inputs) tt _ fit (fails_then e (few (planned_files o inputs)) _ h)

    module _ (counted : few (planned_files o inputs) ≡ done) where
      entry_fails : (e : PlanFault) → Fails e (with_entry o inputs) → Fails e (plan_for o inputs)
      unfolding plan_for
      entry_fails e h = then_fails e (fit_inputs o inputs) tt _ fit (then_fails e (few (planned_files o inputs)) tt _ counted (fails_then e (with_entry o inputs) _ h))

      module _ (started : with_entry o inputs ≡ done) where
        marks_fail : (e : PlanFault) → Fails e (good_marks o inputs) → Fails e (plan_for o inputs)
        unfolding plan_for
        marks_fail e h =
            then_fails e (fit_inputs o inputs) tt _ fit (then_fails e (few (planned_files o inputs)) tt _ counted
            (then_fails e (with_entry o inputs) tt _ started (fails_then e (good_marks o inputs) _ h)))

        all_done : good_marks o inputs ≡ done → plan_for o inputs ≡ planned o inputs
        unfolding plan_for
        all_done marked = rw (fit, counted, started, marked) refl

-- ---- over all names

module _ (o : Options) (names inputs : List (List ℕ)) (are : inputs ≡ input_names o.from names) where
  pub standing_fails : (e : PlanFault) → Fails e (standing o names) → Fails e (plan_of o names)
  unfolding plan_of
  standing_fails e h = fails_then e (standing o names) _ h

  module _ (free : standing o names ≡ done) where
    pub input_fails : (e : PlanFault) → Fails e (some_input o names) → Fails e (plan_of o names)
    unfolding plan_of
    input_fails e h = then_fails e (standing o names) tt _ free (fails_then e (some_input o names) _ h)

    module _ (some : some_input o names ≡ done) where
      rest_fails : (e : PlanFault) → Fails e (plan_for o inputs) → Fails e (plan_of o names)
      unfolding plan_of
      rest_fails e h =
          then_fails e (standing o names) tt _ free (then_fails e (some_input o names) tt _ some (subst (λ (files : List (List ℕ)). Fails e (plan_for o files)) are h))

      rest_gives : (wanted : Read PublishPlan) → plan_for o inputs ≡ wanted → plan_of o names ≡ wanted
      unfolding plan_of
      rest_gives wanted is =
          ap (λ (r : Read (Unit {0})). r >>= λ free. some_input o names >>= λ some. plan_for o (input_names o.from names)) free
          ∙ ap (λ (r : Read (Unit {0})). r >>= λ some. plan_for o (input_names o.from names)) some
          ∙ ap (plan_for o) (sym are) ∙ is

      pub files_fail : (e : PlanFault) → Fails e (fit_inputs o inputs) → Fails e (plan_of o names)
      files_fail e h = rest_fails e (fit_fails o inputs e h)

      module _ (fit : fit_inputs o inputs ≡ done) where
        pub count_fails : (e : PlanFault) → Fails e (few (planned_files o inputs)) → Fails e (plan_of o names)
        count_fails e h = rest_fails e (few_fails o inputs fit e h)

        module _ (counted : few (planned_files o inputs) ≡ done) where
          pub start_fails : (e : PlanFault) → Fails e (with_entry o inputs) → Fails e (plan_of o names)
          start_fails e h = rest_fails e (entry_fails o inputs fit counted e h)

          module _ (started : with_entry o inputs ≡ done) where
            pub mark_fails : (e : PlanFault) → Fails e (good_marks o inputs) → Fails e (plan_of o names)
            mark_fails e h = rest_fails e (marks_fail o inputs fit counted started e h)

            pub plan_given : good_marks o inputs ≡ done → plan_of o names ≡ planned o inputs
            plan_given marked = rest_gives (planned o inputs) (all_done o inputs fit counted started marked)

-- ---- what the calls say, in the words of the plan

module _ (o : Options) (names : List (List ℕ)) where
  pub standing_is : (folder : List ℕ) → folder ≡ version_folder o → unless (option_map VersionExists (find (lies_below folder) names)) ≡ standing o names
  standing_is folder is = ap (λ (f : List ℕ). unless (option_map VersionExists (find (lies_below f) names))) is

  pub input_is : (front : List ℕ) → front ≡ front_of o.from → (if list_any (has_front front) names then done else Err EmptyInput) ≡ some_input o names
  input_is front is = ap (λ (f : List ℕ). if list_any (has_front f) names then done else Err EmptyInput) is

  pub inputs_are : (front : List ℕ) → front ≡ front_of o.from → all_behind front names ≡ input_names o.from names
  inputs_are front is = ap (λ (f : List ℕ). all_behind f names) is

module _ (o : Options) (table : BTreeMap (List ℕ) Seen) (inputs : List (List ℕ)) (known : Knows table inputs o.marks) where
  pub entry_is : (if is_fresh (row table o.entry) then done else Err NoEntryPoint) ≡ with_entry o inputs
  entry_is = ap (λ (b : Bool). if b then done else Err NoEntryPoint) (fresh_known table inputs o.marks known o.entry)

pub marks_are : (o : Options) (inputs : List (List ℕ)) (bad : Option (List ℕ)) → bad ≡ bad_mark inputs [] o.marks → unless (option_map BadMark bad) ≡ good_marks o inputs
marks_are o inputs bad is = ap (λ (b : Option (List ℕ)). unless (option_map BadMark b)) is

abbrev pub plan_at : List PlannedFile → List ℕ → List ℕ → Read PublishPlan
plan_at files manifest deployment = Ok (record { files = files; manifest = manifest; deployment = deployment })

pub planned_is : (o : Options) (inputs : List (List ℕ)) (files : List PlannedFile) (manifest deployment : List ℕ)
    → files ≡ planned_files o inputs → manifest ≡ manifest_name o → deployment ≡ deployment_name o → planned o inputs ≡ plan_at files manifest deployment
planned_is o inputs files manifest deployment at_files at_manifest at_deployment = rw (at_files, at_manifest, at_deployment) refl
