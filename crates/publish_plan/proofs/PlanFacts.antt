-- What holds of every plan.
use Rattle.std.proofs.Common.{◌≡◌, ℕ, ◌≤◌, Bool, true, false, cond, not, ◌&&◌, nat_lt, List, [], ◌∷◌, ◌++◌, map, length, Option, Some, None, Result, Ok, Err, refl, sym, ap, subst, ◌∙◌, if◌then◌else◌}
use Rattle.std.specs.Prelude.{find, option_map, count_by, All}
use Rattle.std.specs.List.{IsDistinct, list_any}
use Rattle.std.specs.Str.{bytes_eq}
use Rattle.std.proofs.lemmas.Bool.{and_parts, both_ways, ltb-false, cases_Bool}
use Rattle.std.proofs.lemmas.List.Elements.{All-nil, All-cons, All-map, All-weaker}
use Rattle.small_types.specs.Name.{IsBelowPre}
use Rattle.small_types.specs.declared.limit.Limit.TheVariants.{Files, Locals}
use Rattle.small_types.specs.Outcome.{◌>>=◌}
use Rattle.manifests.specs.Applications.{is_below_pre}
use Rattle.publish_plan.specs.declared.fault.PlanFault.{PlanFault}
use Rattle.publish_plan.specs.declared.fault.PlanFault.TheVariants.{VersionExists, BadInput, TooMany, NoEntryPoint, BadMark}
use Rattle.publish_plan.specs.declared.options.Options.{Options}
use Rattle.publish_plan.specs.declared.options.PublishPlan.{PublishPlan}
use Rattle.publish_plan.specs.declared.options.PlannedFile.{PlannedFile}
use Rattle.publish_plan.specs.Early.{early_of}
use Rattle.publish_plan.specs.Facts.{file_of, target_of, written_names, IsListed, IsApart, AreFacts}
use Rattle.publish_plan.specs.Marks.{is_marked, is_data, group_of, is_among, bad_mark}
use Rattle.publish_plan.specs.Outcome.{Read, unless}
use Rattle.publish_plan.specs.Places.{lies_below, within, version_folder, target_name, manifest_name, deployment_name, input_names}
use Rattle.publish_plan.specs.Plans.{standing, some_input, is_bad_input, fit_inputs, planned, is_local_file, few, with_entry, good_marks, planned_files, plan_for, plan_of}
use Rattle.publish_plan.proofs.Distinct.{unequal, distinct_behind, distinct_map, distinct_then}
use Rattle.publish_plan.proofs.EarlyLemmas.{AreFit, options_fit}
use Rattle.publish_plan.proofs.FileLemmas.{IsFit, fit_has}
use Rattle.publish_plan.proofs.Folders.{source_outside, deployment_outside, target_inside, manifest_inside, target_one, inside_outside}
use Rattle.publish_plan.proofs.PlanSteps.{done}
use Rattle.publish_plan.proofs.PreFacts.{not_below_pre}
use Rattle.publish_plan.proofs.SoleMarks.{data_alone}

-- ---- the steps that were taken

pub record Taken {A B : Type 0} (r : Read A) (next : A → Read B) (y : B) : Type 0 where
  pub value : A
  pub is : r ≡ Ok value
  pub then_is : next value ≡ Ok y

taken : {A B : Type 0} (r : Read A) (next : A → Read B) (y : B) → (r >>= next) ≡ Ok y → Taken r next y
taken (Ok x) next y is = record { value = x; is = refl; then_is = is }
taken (Err e) next y is = absurd cc

abbrev ok_at : PublishPlan → Read PublishPlan
ok_at plan = Ok plan

same_plan : (p q : PublishPlan) → ok_at p ≡ ok_at q → p ≡ q
same_plan p q same = cc

nothing : (refusal : Option PlanFault) → unless refusal ≡ done → refusal ≡ None
nothing None is = refl
nothing (Some e) is = absurd cc

none_found : {A : Type 0} (f : A → PlanFault) (found : Option A) → option_map f found ≡ None → found ≡ None
none_found f None is = refl
none_found f (Some x) is = absurd cc

few_by : (many many_data : Bool) → (if many then Err (TooMany Files) else if many_data then Err (TooMany Locals) else done) ≡ done → (many ≡ false) × (many_data ≡ false)
few_by true many_data is = absurd cc
few_by false true is = absurd cc
few_by false false is = (refl, refl)

started_by : (fits : Bool) → (if fits then done else Err NoEntryPoint) ≡ done → fits ≡ true
started_by true is = refl
started_by false is = absurd cc

-- what is not found by a test fails it
all_fail : {A : Type 0} (p : A → Bool) (xs : List A) → find p xs ≡ None → All (λ (x : A). p x ≡ false) xs
all_fail {A} p [] none = All-nil (λ (x : A). p x ≡ false)
all_fail {A} p (x ∷ xs) none = let parts = fails_first (p x) none in All-cons (λ (y : A). p y ≡ false) x xs parts.0 (all_fail p xs parts.1)
  where
    fails_first : (b : Bool) → cond b (Some x) (find p xs) ≡ None → (b ≡ false) × (find p xs ≡ None)
    fails_first true is = absurd cc
    fails_first false is = (refl, is)

-- ---- planned files

module _ (o : Options) where
  file_same : (file : List ℕ) → (planned o file).file ≡ file
  unfolding planned
  file_same file = refl

  pub files_of : (inputs : List (List ℕ)) → map file_of (planned_files o inputs) ≡ inputs
  files_of [] = refl
  files_of (x ∷ xs) = ap (λ (y : List ℕ). y ∷ map file_of (planned_files o xs)) (file_same x) ∙ ap (λ (ys : List (List ℕ)). x ∷ ys) (files_of xs)

  target_same : (file : List ℕ) → (planned o file).target ≡ target_name o file
  unfolding planned
  target_same file = refl

  pub targets_of : (inputs : List (List ℕ)) → map target_of (planned_files o inputs) ≡ map (target_name o) inputs
  targets_of [] = refl
  targets_of (x ∷ xs) = ap (λ (y : List ℕ). y ∷ map target_of (planned_files o xs)) (target_same x) ∙ ap (λ (ys : List (List ℕ)). target_name o x ∷ ys) (targets_of xs)

  short_data : (file : List ℕ) → IsFit o file → is_data o.marks file ≡ true → length file ≤ 235
  short_data file fit data_file = ltb-false 235 (length file) (ap (λ (b : Bool). b && nat_lt 235 (length file)) (sym data_file) ∙ fit.data_short)

  listed : (inputs : List (List ℕ)) → bad_mark inputs [] o.marks ≡ None → (file : List ℕ) → is_bad_input o file ≡ false → IsListed (planned o file)
  unfolding planned
  listed inputs marks file good =
      let fit = fit_has o file good in
      record { above = not_below_pre file fit.not_pre; short = short_data file fit; alone = data_alone inputs file [] o.marks marks }

  apart : AreFit o → (file : List ℕ) → IsApart (version_folder o) (planned o file)
  unfolding planned
  apart fit file = record { target = target_inside o file; source = source_outside o file fit.apart }

  all_planned : (P : PlannedFile → Type 0) (Q : List ℕ → Type 0) → ((file : List ℕ) → Q file → P (planned o file)) → (inputs : List (List ℕ)) → All Q inputs → All P (planned_files o inputs)
  all_planned P Q each inputs all = All-map P (planned o) inputs (All-weaker Q (λ (file : List ℕ). P (planned o file)) each inputs all)

always : (xs : List (List ℕ)) → All (λ (x : List ℕ). Unit {0}) xs
always [] = All-nil (λ (x : List ℕ). Unit {0})
always (x ∷ xs) = All-cons (λ (y : List ℕ). Unit {0}) x xs tt (always xs)

-- ---- the whole

module _ (o : Options) (names : List (List ℕ)) (early : early_of o ≡ None) where
  abbrev inputs : List (List ℕ)
  inputs = input_names o.from names

  fit_options : AreFit o
  fit_options = options_fit o early

  planned_written : IsDistinct bytes_eq names → All (λ (f : List ℕ). is_bad_input o f ≡ false) inputs → IsDistinct bytes_eq (map (target_name o) inputs ++ manifest_name o ∷ deployment_name o ∷ [])
  planned_written distinct good =
      let folder = version_folder o in
      let outside = deployment_outside o fit_options.name in
      distinct_then (manifest_name o) (deployment_name o) (map (target_name o) inputs)
      (distinct_map (target_name o) (target_one o) inputs (distinct_behind (within o.from []) names distinct))
      (All-map (λ (x : List ℕ). bytes_eq x (manifest_name o) ≡ false) (target_name o) inputs
      (All-weaker (λ (f : List ℕ). is_bad_input o f ≡ false) (λ (f : List ℕ). bytes_eq (target_name o f) (manifest_name o) ≡ false) (λ f bad. (fit_has o f bad).no_manifest) inputs good))
      (All-map (λ (x : List ℕ). bytes_eq x (deployment_name o) ≡ false) (target_name o) inputs
      (All-weaker (λ (f : List ℕ). is_bad_input o f ≡ false) (λ (f : List ℕ). bytes_eq (target_name o f) (deployment_name o) ≡ false)
      (λ f bad. unequal (target_name o f) (deployment_name o) (inside_outside folder (target_name o f) (deployment_name o) (target_inside o f) outside)) inputs good))
      (unequal (manifest_name o) (deployment_name o) (inside_outside folder (manifest_name o) (deployment_name o) (manifest_inside o) outside))

  planned_facts : standing o names ≡ done → fit_inputs o inputs ≡ done → few (planned_files o inputs) ≡ done → with_entry o inputs ≡ done → good_marks o inputs ≡ done
      → AreFacts o names (record { files = planned_files o inputs; manifest = manifest_name o; deployment = deployment_name o })
  planned_facts stands fit counted started marked =
      let good = all_fail (is_bad_input o) inputs (none_found BadInput (find (is_bad_input o) inputs) (nothing _ fit)) in
      let marks = none_found BadMark (bad_mark inputs [] o.marks) (nothing _ marked) in
      let limits = few_by (nat_lt 16384 (length (planned_files o inputs))) (nat_lt 256 (count_by is_local_file (planned_files o inputs))) counted in
      let entry = and_parts (is_among inputs o.entry) (not (is_marked o.marks o.entry)) (started_by _ started) in
      record {
        files = refl;
        manifest = refl;
        deployment = refl;
        few = ltb-false 16384 (length (planned_files o inputs)) limits.0;
        few_local = ltb-false 256 (count_by is_local_file (planned_files o inputs)) limits.1;
        listed = all_planned o IsListed (λ (f : List ℕ). is_bad_input o f ≡ false) (listed o inputs marks) inputs good;
        apart = all_planned o (IsApart (version_folder o)) (λ (f : List ℕ). Unit {0}) (λ f u. apart o fit_options f) inputs (always inputs);
        entry = ap (λ (fs : List (List ℕ)). is_among fs o.entry) (files_of o inputs) ∙ entry.0;
        manifest_inside = manifest_inside o;
        deployment_outside = deployment_outside o fit_options.name;
        free = all_fail (lies_below (version_folder o)) names (none_found VersionExists (find (lies_below (version_folder o)) names) (nothing _ stands));
        files_differ = λ distinct. subst (IsDistinct bytes_eq) (sym (files_of o inputs)) (distinct_behind (within o.from []) names distinct);
        written_differ = λ distinct. subst (λ (ts : List (List ℕ)). IsDistinct bytes_eq (ts ++ manifest_name o ∷ deployment_name o ∷ [])) (sym (targets_of o inputs)) (planned_written distinct good);
      }

  facts_for : (plan : PublishPlan) → standing o names ≡ done → plan_for o inputs ≡ Ok plan → AreFacts o names plan
  unfolding plan_for
  facts_for plan stands is =
      let fit = taken (fit_inputs o inputs) _ plan is in
      let counted = taken (few (planned_files o inputs)) _ plan fit.then_is in
      let started = taken (with_entry o inputs) _ plan counted.then_is in
      let marked = taken (good_marks o inputs) _ plan started.then_is in
      subst (AreFacts o names) (same_plan _ plan marked.then_is) (planned_facts stands fit.is counted.is started.is marked.is)

  pub plan_facts : (plan : PublishPlan) → plan_of o names ≡ Ok plan → AreFacts o names plan
  unfolding plan_of
  plan_facts plan is =
      let free = taken (standing o names) _ plan is in
      let some = taken (some_input o names) _ plan free.then_is in
      facts_for plan free.is some.then_is
