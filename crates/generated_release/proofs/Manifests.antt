-- Both manifests are among the files that a publish writes.
use Rattle.std.proofs.Common.{◌≡◌, ◌∙◌, ◌++◌, ℕ, Bool, true, false, cond, List, [], ◌∷◌, map, Option, Some, None, Result, Ok, Err, refl, ap, subst}
use Rattle.std.specs.Prelude.{find, is_some, option_map}
use Rattle.std.proofs.lemmas.Slice.Eq.{bytes_eq-Decides}
use Rattle.small_types.specs.Outcome.{◌>>=◌}
use Rattle.folders.specs.declared.folder.Held.{Held}
use Rattle.folders.specs.Files.{file_in, is_named}
use Rattle.manifests.specs.declared.facts.FileEntry.{FileEntry}
use Rattle.publish_plan.specs.declared.fault.PlanFault.{PlanFault}
use Rattle.publish_plan.specs.declared.options.Options.{Options}
use Rattle.publish_plan.specs.declared.options.PublishPlan.{PublishPlan}
use Rattle.publish_plan.specs.Early.{early_of}
use Rattle.publish_plan.specs.Outcome.{unless}
use Rattle.publish_plan.specs.Places.{deployment_name, manifest_name}
use Rattle.publish_plan.specs.Plans.{plan_of}
use Rattle.publish_plan.proofs.PlanFacts.{plan_facts}
use Rattle.publisher.specs.Publication.{Outcome, copy_in, judged, manifests_of, publish_of, published_files, read_entries, release_of}

-- ---- a file that stands behind others

abbrev has : List ℕ → List Held → Bool
has name files = is_some (file_in name files)

found_here : (name : List ℕ) (f : Held) (files : List Held) (b : Bool) → is_named name f ≡ b → (b ≡ false → has name files ≡ true) → has name (f ∷ files) ≡ true
found_here name f files true is rest =
    ap (λ (b : Bool). is_some (option_map (λ (h : Held). h.bytes) (cond b (Some f) (find (is_named name) files)))) is
found_here name f files false is rest =
    ap (λ (b : Bool). is_some (option_map (λ (h : Held). h.bytes) (cond b (Some f) (find (is_named name) files)))) is ∙ rest refl

found_behind : (name : List ℕ) (front files : List Held) → has name files ≡ true → has name (front ++ files) ≡ true
found_behind name [] files there = there
found_behind name (f ∷ front) files there =
    found_here name f (front ++ files) (is_named name f) refl (λ other. found_behind name front files there)

found_first : (f : Held) (files : List Held) → has f.name (f ∷ files) ≡ true
found_first f files = found_here f.name f files true ((bytes_eq-Decides f.name f.name).1 refl) (λ no. absurd cc)

-- ---- what is written

record Comes {A B : Type 0} (r : Outcome A) (next : A → Outcome B) (y : B) : Type 0 where
  x : A
  first : r ≡ Ok x
  rest : next x ≡ Ok y

comes : {A B : Type 0} (r : Outcome A) (next : A → Outcome B) (y : B) → (r >>= next) ≡ Ok y → Comes r next y
comes (Ok x) next y is = record { x = x; first = refl; rest = is }
comes (Err e) next y is = absurd cc

abbrev ok_of : {A : Type 0} → A → Outcome A
ok_of x = Ok x

the_ok : {A : Type 0} (x y : A) → ok_of x ≡ ok_of y → x ≡ y
the_ok x y is = cc

not_early : (early : Option PlanFault) (x : Unit {0}) → judged (unless early) ≡ Ok x → early ≡ None
not_early None x is = refl
not_early (Some fault) x is = absurd cc

the_plan : (r : Result PublishPlan PlanFault) (plan : PublishPlan) → judged r ≡ Ok plan → r ≡ Ok plan
the_plan (Ok p) plan is = ap Ok (the_ok p plan is)
the_plan (Err fault) plan is = absurd cc

abbrev entered : Options → List Held → PublishPlan → List FileEntry → Outcome (List Held)
entered o held plan entries = manifests_of o entries >>= λ release. Ok (published_files held plan release)

abbrev planned_of : Options → List (List ℕ) → List Held → Unit {0} → Outcome (List Held)
planned_of o names held fit = judged (plan_of o names) >>= release_of o held

pub record HasManifests (o : Options) (files : List Held) : Type 0 where
  pub deployment : has (deployment_name o) files ≡ true
  pub application : has (manifest_name o) files ≡ true

in_files : (o : Options) (copies : List Held) (plan : PublishPlan) (application deployment : List ℕ) → plan.manifest ≡ manifest_name o → plan.deployment ≡ deployment_name o
    → HasManifests o (copies ++ record { name = plan.manifest; bytes = application } ∷ record { name = plan.deployment; bytes = deployment } ∷ [])
in_files o copies plan application deployment manifest last =
    let first : Held = record { name = plan.manifest; bytes = application } in
    let second : Held = record { name = plan.deployment; bytes = deployment } in
    let one = found_behind plan.manifest copies (first ∷ second ∷ []) (found_first first (second ∷ [])) in
    let two = found_behind plan.deployment copies (first ∷ second ∷ []) (found_behind plan.deployment (first ∷ []) (second ∷ []) (found_first second [])) in
    record {
      deployment = subst (λ (name : List ℕ). has name (copies ++ first ∷ second ∷ []) ≡ true) last two;
      application = subst (λ (name : List ℕ). has name (copies ++ first ∷ second ∷ []) ≡ true) manifest one;
    }

pub has_manifests : (o : Options) (names : List (List ℕ)) (held files : List Held) → publish_of o names held ≡ Ok files → HasManifests o files
unfolding publish_of release_of
has_manifests o names held files is =
    let first = comes (judged (unless (early_of o))) (planned_of o names held) files is in
    let next = comes (judged (plan_of o names)) (release_of o held) files first.rest in
    let plan = next.x in
    let third = comes (read_entries held plan.files) (entered o held plan) files next.rest in
    let last = comes (manifests_of o third.x) (λ release. Ok (published_files held plan release)) files third.rest in
    let same : published_files held plan last.x ≡ files = the_ok (published_files held plan last.x) files last.rest in
    let facts = plan_facts o names (not_early (early_of o) first.x first.first) plan (the_plan (plan_of o names) plan next.first) in
    subst (HasManifests o) same (in_files o (map (copy_in held) plan.files) plan last.x.application last.x.deployment facts.manifest facts.deployment)
