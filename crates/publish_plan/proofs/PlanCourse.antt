-- A plan from what its calls say, up to the first that refuses it.
use Rattle.std.proofs.Common.{◌≡◌, ℕ, Bool, List, [], Option, Result, Ok, Err, refl, sym, ap, subst, ◌∙◌}
use Rattle.std.specs.Prelude.{find, option_map, if◌then◌else◌}
use Rattle.std.specs.BTreeMap.{BTreeMap}
use Rattle.std.specs.List.{list_any}
use Rattle.publish_plan.specs.declared.fault.PlanFault.{PlanFault}
use Rattle.publish_plan.specs.declared.fault.PlanFault.TheVariants.{VersionExists, EmptyInput, NoEntryPoint, BadMark}
use Rattle.publish_plan.specs.declared.marked.Seen.{Seen}
use Rattle.publish_plan.specs.declared.options.Mark.{Mark}
use Rattle.publish_plan.specs.declared.options.Options.{Options}
use Rattle.publish_plan.specs.declared.options.PlannedFile.{PlannedFile}
use Rattle.publish_plan.specs.Marks.{bad_mark}
use Rattle.publish_plan.specs.Outcome.{Read, Fails, unless}
use Rattle.publish_plan.specs.Places.{front_of, has_front, all_behind, lies_below, input_names, version_folder, manifest_name, deployment_name}
use Rattle.publish_plan.specs.Plans.{standing, some_input, fit_inputs, planned_files, few, with_entry, good_marks, plan_of}
use Rattle.publish_plan.specs.Seen.{row, is_fresh, Knows}
use Rattle.publish_plan.proofs.Chains.{fails_so, fails_same}
use Rattle.publish_plan.proofs.PlanSteps.{done, standing_is, input_is, inputs_are, entry_is, marks_are, standing_fails, input_fails, files_fail, count_fails, start_fails, mark_fails, plan_given, planned_is, plan_at}

-- what a look at the names says
abbrev standing_at : List ℕ → List (List ℕ) → Read (Unit {0})
standing_at folder names = unless (option_map VersionExists (find (lies_below folder) names))

abbrev input_at : List ℕ → List (List ℕ) → Read (Unit {0})
input_at front names = if list_any (has_front front) names then done else Err EmptyInput

abbrev entry_at : BTreeMap (List ℕ) Seen → List ℕ → Read (Unit {0})
entry_at table entry = if is_fresh (row table entry) then done else Err NoEntryPoint

module _ (o : Options) (names : List (List ℕ)) (start folder : List ℕ) (is_start : start ≡ front_of o.from) (is_folder : folder ≡ version_folder o) where
  abbrev inputs : List (List ℕ)
  inputs = all_behind start names

  are : inputs ≡ input_names o.from names
  are = inputs_are o names start is_start

  pub standing_refused : (e : PlanFault) → Fails e (standing_at folder names) → Fails e (plan_of o names)
  standing_refused e h = standing_fails o names inputs are e (fails_same e (standing_at folder names) (standing o names) (standing_is o names folder is_folder) h)

  module _ (free : standing_at folder names ≡ done) (front : List ℕ) (is_front : front ≡ front_of o.from) where
    is_free : standing o names ≡ done
    is_free = sym (standing_is o names folder is_folder) ∙ free

    pub input_refused : (e : PlanFault) → Err e ≡ input_at front names → Fails e (plan_of o names)
    input_refused e h = input_fails o names inputs are is_free e (fails_so e (some_input o names) (sym (input_is o names front is_front) ∙ sym h))

    module _ (some : done ≡ input_at front names) where
      is_some : some_input o names ≡ done
      is_some = sym (input_is o names front is_front) ∙ sym some

      pub files_refused : (e : PlanFault) → Fails e (fit_inputs o inputs) → Fails e (plan_of o names)
      files_refused e h = files_fail o names inputs are is_free is_some e h

      module _ (files : List PlannedFile) (fit : fit_inputs o inputs ≡ done) (is_files : files ≡ planned_files o inputs) where
        pub count_refused : (e : PlanFault) → Err e ≡ few files → Fails e (plan_of o names)
        count_refused e h = count_fails o names inputs are is_free is_some fit e (fails_so e (few (planned_files o inputs)) (ap few (sym is_files) ∙ sym h))

        module _ (counted : done ≡ few files) (table : BTreeMap (List ℕ) Seen) (marks : List Mark) (is_marks : marks ≡ o.marks) (knows : Knows table (all_behind front names) marks) where
          is_counted : few (planned_files o inputs) ≡ done
          is_counted = ap few (sym is_files) ∙ sym counted

          same_inputs : all_behind front names ≡ inputs
          same_inputs = inputs_are o names front is_front ∙ sym are

          known : Knows table inputs o.marks
          known = subst (λ (ms : List Mark). Knows table inputs ms) is_marks (subst (λ (fs : List (List ℕ)). Knows table fs marks) same_inputs knows)

          pub entry_refused : (e : PlanFault) → Err e ≡ entry_at table o.entry → Fails e (plan_of o names)
          entry_refused e h =
              start_fails o names inputs are is_free is_some fit is_counted e (fails_so e (with_entry o inputs) (sym (entry_is o table inputs known) ∙ sym h))

          module _ (started : done ≡ entry_at table o.entry) (bad : Option (List ℕ)) (is_bad : bad ≡ bad_mark (all_behind front names) [] marks) where
            is_started : with_entry o inputs ≡ done
            is_started = sym (entry_is o table inputs known) ∙ sym started

            all_bad : bad ≡ bad_mark inputs [] o.marks
            all_bad = is_bad ∙ ap (λ (fs : List (List ℕ)). bad_mark fs [] marks) same_inputs ∙ ap (bad_mark inputs []) is_marks

            pub marks_refused : (e : PlanFault) → Err e ≡ unless (option_map BadMark bad) → Fails e (plan_of o names)
            marks_refused e h =
                mark_fails o names inputs are is_free is_some fit is_counted is_started e (fails_so e (good_marks o inputs) (sym (marks_are o inputs bad all_bad) ∙ sym h))

            pub plan_made : done ≡ unless (option_map BadMark bad) → (manifest deployment : List ℕ) → manifest ≡ manifest_name o → deployment ≡ deployment_name o
                → plan_of o names ≡ plan_at files manifest deployment
            plan_made marked manifest deployment is_manifest is_deployment =
                plan_given o names inputs are is_free is_some fit is_counted is_started (sym (marks_are o inputs bad all_bad) ∙ sym marked)
                ∙ planned_is o inputs files manifest deployment is_files is_manifest is_deployment
