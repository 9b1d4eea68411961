-- What is known of the names of a plan.
use Rattle.std.proofs.Common.{◌≡◌, inl, inr, ℕ, Bool, false, List, [], ◌∷◌, Option, Some, None, Ok, Err, All, refl, sym, ap, subst, ◌∙◌}
use Rattle.std.specs.Prelude.{find, option_map}
use Rattle.std.proofs.lemmas.Bool.{cases_Bool}
use Rattle.std.proofs.lemmas.List.Elements.{All-nil, All-cons, All-head, All-tail}
use Rattle.small_types.specs.declared.target.Target.{Target}
use Rattle.small_types.specs.Name.{IsName}
use Rattle.small_types.specs.Outcome.{◌>>=◌}
use Rattle.identity.specs.Version.{IsVersion}
use Rattle.publish_plan.specs.declared.fault.PlanFault.TheVariants.{BadInput}
use Rattle.publish_plan.specs.declared.options.Options.{Options}
use Rattle.publish_plan.specs.declared.options.PublishPlan.{PublishPlan}
use Rattle.publish_plan.specs.Early.{early_of}
use Rattle.publish_plan.specs.Outcome.{Read, unless}
use Rattle.publish_plan.specs.Paths.{IsPath}
use Rattle.publish_plan.specs.Places.{behind, front_of, has_front, input_names, manifest_name, target_name, version_folder}
use Rattle.publish_plan.specs.Plans.{fit_inputs, is_bad_input, plan_for, plan_of, planned, planned_files, some_input, standing}
use Rattle.publish_plan.proofs.EarlyLemmas.{options_fit}
use Rattle.publish_plan.proofs.FileLemmas.{target_named}
use Rattle.publish_plan.proofs.PathLemmas.{name_behind, name_is_path, path_is_name}
use Rattle.publish_plan.proofs.PlaceLemmas.{folder_path, manifest_path, manifest_some}
use Rattle.publish_plan.proofs.PlanFacts.{plan_facts}
use Rattle.published_paths.specs.Reached.{FilesAreReached, IsPublishable, IsReached, PlansAreReached, Reaches}
use Rattle.published_paths.proofs.Names.{reached}

-- ---- the options

publishable : (o : Options) → IsName o.to → IsVersion o.version → early_of o ≡ None → IsPublishable o
publishable o to version early =
    let fit = options_fit o early in
    let folder = folder_path o to fit.name version in
    record { name = fit.name; entry = fit.entry; version = version; manifest = path_is_name (manifest_name o) (manifest_path o folder fit.entry) (manifest_some o) fit.short }

-- ---- the files

-- what stands behind the front of a folder is a name
one_named : (from name : List ℕ) (names : List (List ℕ)) → IsName from → IsName name → All IsName (input_names from names) → All IsName (input_names from (name ∷ names))
one_named from name names folder is rest =
    elim (cases_Bool (has_front (front_of from) name)) [
      | inl has ↦ rw has (All-cons IsName (behind (front_of from) name) (input_names from names) (name_behind from name (name_is_path from folder) is has) rest)
      | inr other ↦ rw other rest
    ]

inputs_named : (from : List ℕ) (names : List (List ℕ)) → IsName from → All IsName names → All IsName (input_names from names)
inputs_named from [] folder all = All-nil IsName
inputs_named from (name ∷ names) folder all =
    one_named from name names folder (All-head IsName name names all) (inputs_named from names folder (All-tail IsName name names all))

-- the steps of a plan that came to its end were taken
first_taken : {A B : Type 0} (r : Read A) (next : A → Read B) (y : B) → (r >>= next) ≡ Ok y → (value : A) × (r ≡ Ok value) × (next value ≡ Ok y)
first_taken (Ok x) next y is = (x, refl, is)
first_taken (Err e) next y is = absurd cc

none_bad : (found : Option (List ℕ)) (value : Unit {0}) → unless (option_map BadInput found) ≡ Ok value → found ≡ None
none_bad None value is = refl
none_bad (Some bad) value is = absurd cc

-- what is not found by a test fails it
found_none : (test : List ℕ → Bool) (names : List (List ℕ)) → find test names ≡ None → All (λ name. test name ≡ false) names
found_none test [] none = All-nil (λ (name : List ℕ). test name ≡ false)
found_none test (name ∷ names) none =
    elim (cases_Bool (test name)) [
      | inl found ↦ let shown = rw found at none in absurd cc
      | inr other ↦ All-cons (λ (n : List ℕ). test n ≡ false) name names other (found_none test names (rw other at none))
    ]

inputs_fit : (o : Options) (names : List (List ℕ)) (plan : PublishPlan) → plan_of o names ≡ Ok plan → All (λ file. is_bad_input o file ≡ false) (input_names o.from names)
unfolding plan_of plan_for
inputs_fit o names plan is =
    let free = first_taken (standing o names) _ plan is in
    let some = first_taken (some_input o names) _ plan free.2 in
    let fit = first_taken (fit_inputs o (input_names o.from names)) _ plan some.2 in
    found_none (is_bad_input o) (input_names o.from names) (none_bad (find (is_bad_input o) (input_names o.from names)) fit.0 fit.1)

one_reached : (o : Options) (base : Target) (file : List ℕ) → FilesAreReached o base → IsName (target_name o file) → IsReached o.mapped base (planned o file)
unfolding planned
one_reached o base file all is = λ target read. all file target is read

all_reached : (o : Options) (base : Target) (files : List (List ℕ)) → IsPath (version_folder o) → FilesAreReached o base → All IsName files → All (λ file. is_bad_input o file ≡ false) files → All (IsReached o.mapped base) (planned_files o files)
all_reached o base [] folder each names fit = All-nil (IsReached o.mapped base)
all_reached o base (file ∷ files) folder each names fit =
    let Fits : List ℕ → Type 0 = λ f. is_bad_input o f ≡ false in
    let first = target_named o file folder (name_is_path file (All-head IsName file files names)) (All-head Fits file files fit) in
    All-cons (IsReached o.mapped base) (planned o file) (planned_files o files) (one_reached o base file each first)
    (all_reached o base files folder each (All-tail IsName file files names) (All-tail Fits file files fit))

-- ---- the whole

pub plans_reached : PlansAreReached
plans_reached o names plan text given base from to version known early is read reaches joined =
    let facts = plan_facts o names early plan is in
    let fit = options_fit o early in
    let law = reached o text given base (publishable o to version early) read (subst (Reaches given) facts.deployment reaches) joined in
    let files = all_reached o base (input_names o.from names) (folder_path o to fit.name version) law.1 (inputs_named o.from names from known) (inputs_fit o names plan is) in
    (law.0 ∙ ap Some (sym facts.manifest), subst (All (IsReached o.mapped base)) (sym facts.files) files)
