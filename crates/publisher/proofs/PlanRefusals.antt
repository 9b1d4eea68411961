-- No plan is refused for words or for the minimum.
use Rattle.std.proofs.Common.{◌≡◌, ℕ, Bool, true, false, List, [], length, Option, Some, None, Result, Ok, Err, ap, subst}
use Rattle.std.specs.Prelude.{◌&&◌, count_by, find, if◌then◌else◌, not, nat_lt, option_map}
use Rattle.std.specs.List.{list_any}
use Rattle.small_types.specs.declared.limit.Limit.TheVariants.{Files, Locals}
use Rattle.small_types.specs.Outcome.{◌>>=◌}
use Rattle.publish_plan.specs.declared.fault.PlanFault.{PlanFault}
use Rattle.publish_plan.specs.declared.fault.PlanFault.TheVariants as plan
use Rattle.publish_plan.specs.declared.options.Options.{Options}
use Rattle.publish_plan.specs.declared.options.PublishPlan.{PublishPlan}
use Rattle.publish_plan.specs.Outcome as plans
use Rattle.publish_plan.specs.Marks.{bad_mark, is_among, is_marked}
use Rattle.publish_plan.specs.Outcome.{Read}
use Rattle.publish_plan.specs.Places.{deployment_name, input_names, lies_below, manifest_name, version_folder}
use Rattle.publish_plan.specs.Plans.{few, fit_inputs, good_marks, is_bad_input, is_local_file, plan_for, plan_of, planned_files, some_input, standing, with_entry}
use Rattle.publisher.specs.Changes.{IsLate}
use Rattle.publisher.specs.Faults.{fault_of}

-- no refusal of words or of the minimum
abbrev IsPlanFault : PlanFault → Type 0
IsPlanFault f = IsLate (fault_of f)

abbrev LateRead : {A : Type 0} → Result A PlanFault → Type 0
LateRead r = (f : PlanFault) → r ≡ Err f → IsPlanFault f

abbrev fault_at : {A : Type 0} → PlanFault → Result A PlanFault
fault_at f = Err f

abbrev ok_at : {A : Type 0} → A → Result A PlanFault
ok_at x = Ok x

same_fault : {A : Type 0} (e f : PlanFault) → fault_at {A = A} e ≡ fault_at {A = A} f → e ≡ f
same_fault e f is = cc

late_ok : {A : Type 0} (x : A) → LateRead (ok_at x)
late_ok x f is = absurd cc

late_then : {A B : Type 0} (r : Result A PlanFault) (next : A → Result B PlanFault) → LateRead r → ((x : A) → LateRead (next x)) → LateRead (r >>= next)
late_then (Ok x) next first rest f is = rest x f is
late_then {A} {B} (Err e) next first rest f is = first f (ap (fault_at {A = A}) (same_fault {A = B} e f is))

late_found : {A : Type 0} (make : A → PlanFault) → ((x : A) → IsPlanFault (make x)) → (found : Option A) → LateRead (plans.unless (option_map make found))
late_found make late None f is = absurd cc
late_found make late (Some x) f is = subst IsPlanFault (same_fault {A = Unit {0}} (make x) f is) (late x)

late_choice : (b : Bool) (e : PlanFault) → IsPlanFault e → LateRead (if b then Ok tt else fault_at {A = Unit {0}} e)
late_choice true e late f is = absurd cc
late_choice false e late f is = subst IsPlanFault (same_fault {A = Unit {0}} e f is) late

late_few : (a b : Bool) (e d : PlanFault) → IsPlanFault e → IsPlanFault d → LateRead (if a then fault_at {A = Unit {0}} e else if b then fault_at {A = Unit {0}} d else Ok tt)
late_few true b e d first second f is = subst IsPlanFault (same_fault {A = Unit {0}} e f is) first
late_few false true e d first second f is = subst IsPlanFault (same_fault {A = Unit {0}} d f is) second
late_few false false e d first second f is = absurd cc

-- what follows a step that is judged, one step after another
abbrev with_marks : Options → List (List ℕ) → Unit {0} → Read PublishPlan
with_marks o inputs started = good_marks o inputs >>= λ marked. Ok (record { files = planned_files o inputs; manifest = manifest_name o; deployment = deployment_name o })

abbrev with_start : Options → List (List ℕ) → Unit {0} → Read PublishPlan
with_start o inputs counted = with_entry o inputs >>= with_marks o inputs

abbrev with_count : Options → List (List ℕ) → Unit {0} → Read PublishPlan
with_count o inputs fit = few (planned_files o inputs) >>= with_start o inputs

late_inputs : (o : Options) (inputs : List (List ℕ)) → LateRead (plan_for o inputs)
unfolding plan_for
late_inputs o inputs =
    late_then (fit_inputs o inputs) (with_count o inputs) (late_found plan.BadInput (λ x. tt) (find (is_bad_input o) inputs)) (λ fit.
    late_then (few (planned_files o inputs)) (with_start o inputs)
    (late_few (nat_lt 16384 (length (planned_files o inputs))) (nat_lt 256 (count_by is_local_file (planned_files o inputs))) (plan.TooMany Files) (plan.TooMany Locals) tt tt) (λ counted.
    late_then (with_entry o inputs) (with_marks o inputs) (late_choice (is_among inputs o.entry && not (is_marked o.marks o.entry)) plan.NoEntryPoint tt) (λ started.
    late_then (good_marks o inputs) (λ marked. ok_at (record { files = planned_files o inputs; manifest = manifest_name o; deployment = deployment_name o }))
    (late_found plan.BadMark (λ x. tt) (bad_mark inputs [] o.marks))
    (λ marked. late_ok (record { files = planned_files o inputs; manifest = manifest_name o; deployment = deployment_name o })))))

late_plan : (o : Options) (names : List (List ℕ)) → LateRead (plan_of o names)
unfolding plan_of
late_plan o names =
    late_then (standing o names) (λ free. some_input o names >>= λ some. plan_for o (input_names o.from names)) (late_found plan.VersionExists (λ x. tt) (find (lies_below (version_folder o)) names)) (λ free.
    late_then (some_input o names) (λ some. plan_for o (input_names o.from names)) (late_choice (list_any (lies_below o.from) names) plan.EmptyInput tt) (λ some. late_inputs o (input_names o.from names)))

pub plan_late : (o : Options) (names : List (List ℕ)) (f : PlanFault) → plans.Fails f (plan_of o names) → IsLate (fault_of f)
plan_late o names (plan.BadName word) failed = late_plan o names (plan.BadName word) failed
plan_late o names (plan.MinimumAbove minimum) failed = late_plan o names (plan.MinimumAbove minimum) failed
plan_late o names (plan.VersionExists file) failed = tt
plan_late o names plan.EmptyInput failed = tt
plan_late o names (plan.BadInput file) failed = tt
plan_late o names (plan.TooMany what) failed = tt
plan_late o names plan.NoEntryPoint failed = tt
plan_late o names (plan.BadMark file) failed = tt
plan_late o names plan.Memory failed = tt
