-- A publish, step by step, against the definitions.
use Rattle.std.proofs.Common.{◌≡◌, ℕ, ◌<◌, List, [], ◌∷◌, length, map, take, Option, Some, None, Result, Ok, Err, refl, sym, ap, subst, ◌∙◌, arith, length-append}
use Rattle.std.specs.Prelude.{is_ok, true}
use Rattle.std.proofs.lemmas.Bool.{false≢true}
use Rattle.std.proofs.lemmas.List.{length-map}
use Rattle.small_types.specs.Outcome.{◌>>=◌}
use Rattle.folders.specs.declared.folder.Held.{Held}
use Rattle.folders.specs.Files.{distinct, file_in}
use Rattle.manifests.specs.declared.facts.FileEntry.{FileEntry}
use Rattle.publish_plan.specs.declared.fault.PlanFault.{PlanFault}
use Rattle.publish_plan.specs.declared.fault.PlanFault.TheVariants as plan
use Rattle.publish_plan.specs.declared.options.Options.{Options}
use Rattle.publish_plan.specs.declared.options.PublishPlan.{PublishPlan}
use Rattle.publish_plan.specs.declared.options.PlannedFile.{PlannedFile}
use Rattle.publish_plan.specs.Early.{early_of}
use Rattle.publish_plan.specs.Facts.{file_of}
use Rattle.publish_plan.specs.Marks.{is_among}
use Rattle.publish_plan.specs.Outcome as plans
use Rattle.publish_plan.specs.Plans.{plan_of}
use Rattle.publish_plan.proofs.PlanFacts.{plan_facts}
use Rattle.publisher.specs.declared.fault.PublishFault.{PublishFault}
use Rattle.publisher.specs.declared.fault.PublishFault.TheVariants.{ReadFault, WriteFault, Changed, Memory}
use Rattle.publisher.specs.declared.release.ReleaseTexts.{ReleaseTexts}
use Rattle.publisher.specs.Faults.{IsDevice, fault_of}
use Rattle.publisher.specs.Outcome.{Fails, Leaves, LeavesInput, Publishes, Refuses}
use Rattle.publisher.specs.Publication.{Outcome, copy_in, judged, manifests_of, publish_of, published_files, read_entries, release_of}
use Rattle.publisher.specs.Puts.{PutsEach, PutsInput, PutsSome}
use Rattle.publisher.proofs.Outcomes.{fails_same, fails_then, fails_after}
use Rattle.publisher.proofs.PutFiles.{all_put, distinct_front}

abbrev after : Options → List (List ℕ) → List Held → Unit {0} → Outcome (List Held)
after o names held fit = judged (plan_of o names) >>= release_of o held

-- where the options are not refused, the plan decides
after_early : (o : Options) (names : List (List ℕ)) (held : List Held) → early_of o ≡ None → publish_of o names held ≡ (judged (plan_of o names) >>= release_of o held)
unfolding publish_of
after_early o names held fit = ap (λ (first : Option PlanFault). judged (plans.unless first) >>= after o names held) fit

-- where the plan stands, the entries and the manifests decide
after_plan : (o : Options) (names : List (List ℕ)) (held : List Held) (plan : PublishPlan) → early_of o ≡ None → plan_of o names ≡ Ok plan → publish_of o names held ≡ release_of o held plan
after_plan o names held plan fit is = after_early o names held fit ∙ ap (λ (r : Result PublishPlan PlanFault). judged r >>= release_of o held) is

-- what is judged to be refused is refused
fault_fails : {A B : Type 0} (f : PlanFault) (r : Result A PlanFault) (next : A → Outcome B) → plans.Fails f r → Fails (fault_of f) (judged r >>= next)
fault_fails plan.Memory r next failed = tt
fault_fails {A} (plan.BadName word) r next failed = ap (λ (p : Result A PlanFault). judged p >>= next) failed
fault_fails {A} (plan.MinimumAbove minimum) r next failed = ap (λ (p : Result A PlanFault). judged p >>= next) failed
fault_fails {A} (plan.VersionExists file) r next failed = ap (λ (p : Result A PlanFault). judged p >>= next) failed
fault_fails {A} plan.EmptyInput r next failed = ap (λ (p : Result A PlanFault). judged p >>= next) failed
fault_fails {A} (plan.BadInput file) r next failed = ap (λ (p : Result A PlanFault). judged p >>= next) failed
fault_fails {A} (plan.TooMany what) r next failed = ap (λ (p : Result A PlanFault). judged p >>= next) failed
fault_fails {A} plan.NoEntryPoint r next failed = ap (λ (p : Result A PlanFault). judged p >>= next) failed
fault_fails {A} (plan.BadMark file) r next failed = ap (λ (p : Result A PlanFault). judged p >>= next) failed

pub options_refused : (o : Options) (names : List (List ℕ)) (held : List Held) (f : PlanFault) → plans.Fails f (plans.unless (early_of o)) → Fails (fault_of f) (publish_of o names held)
unfolding publish_of
options_refused o names held f failed = fault_fails f (plans.unless (early_of o)) (after o names held) failed

pub plan_refused : (o : Options) (names : List (List ℕ)) (held : List Held) (f : PlanFault) → early_of o ≡ None → plans.Fails f (plan_of o names) → Fails (fault_of f) (publish_of o names held)
plan_refused o names held f fit failed =
    fails_same (fault_of f) (judged (plan_of o names) >>= release_of o held) (publish_of o names held) (after_early o names held fit) (fault_fails f (plan_of o names) (release_of o held) failed)

abbrev written : List Held → PublishPlan → ReleaseTexts → Outcome (List Held)
written held plan release = Ok (published_files held plan release)

abbrev entered : Options → List Held → PublishPlan → List FileEntry → Outcome (List Held)
entered o held plan entries = manifests_of o entries >>= written held plan

release_is : (o : Options) (held : List Held) (plan : PublishPlan) → release_of o held plan ≡ (read_entries held plan.files >>= entered o held plan)
unfolding release_of
release_is o held plan = refl

pub entries_refused : (o : Options) (names : List (List ℕ)) (held : List Held) (plan : PublishPlan) (e : PublishFault) → early_of o ≡ None → plan_of o names ≡ Ok plan → Fails e (read_entries held plan.files) → Fails e (publish_of o names held)
entries_refused o names held plan e fit is failed =
    fails_same e (read_entries held plan.files >>= entered o held plan) (publish_of o names held) (after_plan o names held plan fit is ∙ release_is o held plan)
    (fails_then e (read_entries held plan.files) (entered o held plan) failed)

pub manifests_refused : (o : Options) (names : List (List ℕ)) (held : List Held) (plan : PublishPlan) (entries : List FileEntry) (e : PublishFault) → early_of o ≡ None → plan_of o names ≡ Ok plan → read_entries held plan.files ≡ Ok entries → Fails e (manifests_of o entries) → Fails e (publish_of o names held)
manifests_refused o names held plan entries e fit is read failed =
    fails_same e (read_entries held plan.files >>= entered o held plan) (publish_of o names held) (after_plan o names held plan fit is ∙ release_is o held plan)
    (fails_after e (read_entries held plan.files) entries (entered o held plan) read (fails_then e (manifests_of o entries) (written held plan) failed))

pub all_written : (o : Options) (names : List (List ℕ)) (held : List Held) (plan : PublishPlan) (entries : List FileEntry) (release : ReleaseTexts) → early_of o ≡ None → plan_of o names ≡ Ok plan → read_entries held plan.files ≡ Ok entries → manifests_of o entries ≡ Ok release
    → publish_of o names held ≡ Ok (published_files held plan release)
all_written o names held plan entries release fit is read made =
    after_plan o names held plan fit is ∙ release_is o held plan ∙ ap (λ (r : Outcome (List FileEntry)). r >>= entered o held plan) read ∙ ap (λ (r : Outcome ReleaseTexts). r >>= written held plan) made

-- ---- what is left

pub refuses_from : (e : PublishFault) (r : Outcome (List Held)) → Fails e r → Refuses e r
refuses_from ReadFault r h = tt
refuses_from Memory r h = tt
refuses_from WriteFault r h = absurd h
refuses_from (Changed file difference) r h = absurd h
refuses_from e r h = h

abbrev ok_of : {A : Type 0} → A → Outcome A
ok_of x = Ok x

-- what an `Ok` comes from
record Comes {A B : Type 0} (r : Outcome A) (next : A → Outcome B) (y : B) : Type 0 where
  x : A
  first : r ≡ Ok x
  rest : next x ≡ Ok y

comes : {A B : Type 0} (r : Outcome A) (next : A → Outcome B) (y : B) → (r >>= next) ≡ Ok y → Comes r next y
comes (Ok x) next y is = record { x = x; first = refl; rest = is }
comes (Err e) next y is = absurd cc

the_ok : {A : Type 0} (x y : A) → ok_of x ≡ ok_of y → x ≡ y
the_ok x y is = cc

not_early : (early : Option PlanFault) (x : Unit {0}) → judged (plans.unless early) ≡ Ok x → early ≡ None
not_early None x is = refl
not_early (Some fault) x is = absurd cc

the_plan : (r : Result PublishPlan PlanFault) (plan : PublishPlan) → judged r ≡ Ok plan → r ≡ Ok plan
the_plan (Ok p) plan is = ap Ok (the_ok p plan is)
the_plan (Err fault) plan is = absurd cc

-- the file that is started is one of them
some_among : (entry : List ℕ) (files : List PlannedFile) → is_among (map file_of files) entry ≡ true → 0 < length files
some_among entry [] is = absurd (false≢true is)
some_among entry (f ∷ fs) is = omega arith

-- there is an input file to write, and two manifests
three_written : (o : Options) (names : List (List ℕ)) (held files : List Held) → publish_of o names held ≡ Ok files → 2 < length files
unfolding publish_of release_of
three_written o names held files is =
    let first = comes (judged (plans.unless (early_of o))) (after o names held) files is in
    let next = comes (judged (plan_of o names)) (release_of o held) files first.rest in
    let plan = next.x in
    let third = comes (read_entries held plan.files) (entered o held plan) files next.rest in
    let last = comes (manifests_of o third.x) (written held plan) files third.rest in
    let same : published_files held plan last.x ≡ files = the_ok (published_files held plan last.x) files last.rest in
    let facts = plan_facts o names (not_early (early_of o) first.x first.first) plan (the_plan (plan_of o names) plan next.first) in
    let some : 0 < length plan.files = some_among o.entry plan.files facts.entry in
    let copies : length (map (copy_in held) plan.files) ≡ length plan.files = length-map plan.files (copy_in held) in
    subst (λ (hs : List Held). 2 < length hs) same (simp length-append (omega arith))

some_written : (o : Options) (names : List (List ℕ)) (held files : List Held) → publish_of o names held ≡ Ok files → 0 < length files
some_written o names held files is = let long = three_written o names held files is in omega arith

leaves_same : (r : Outcome (List Held)) (old new : List Held) → ((files : List Held) → r ≡ Ok files → 0 < length files) → new ≡ old → Leaves r old new
leaves_same (Ok files) old new some same = record {
  count = 0;
  below = some files refl;
  puts = record { each = λ name. ap (file_in name) same };
}
leaves_same (Err e) old new some same = same

-- a call that changes nothing leaves what may be left
pub nothing_left : (o : Options) (names : List (List ℕ)) (old new : List Held) → new ≡ old → Leaves (publish_of o names old) old new
nothing_left o names old new same = leaves_same (publish_of o names old) old new (some_written o names old) same

input_same : (r : Outcome (List Held)) (old new : List Held) → ((files : List Held) → r ≡ Ok files → 2 < length files) → new ≡ old → LeavesInput r old new
input_same (Ok files) old new long same = record {
  count = 0;
  below = let l = long files refl in omega arith;
  puts = record { each = λ name. ap (file_in name) same };
}
input_same (Err e) old new long same = same

-- so does a reading that fails before anything is put
pub no_input_left : (o : Options) (names : List (List ℕ)) (old new : List Held) → new ≡ old → LeavesInput (publish_of o names old) old new
no_input_left o names old new same = input_same (publish_of o names old) old new (three_written o names old) same

-- a fault in the writing
pub device_refuses : (e : PublishFault) (r : Outcome (List Held)) (files : List Held) → r ≡ Ok files → IsDevice e → Refuses e r
device_refuses ReadFault r files is h = tt
device_refuses Memory r files is h = tt
device_refuses WriteFault r files is h = ap is_ok is
device_refuses e r files is h = absurd h

pub part_left : (r : Outcome (List Held)) (files old new : List Held) → r ≡ Ok files → distinct files ≡ true → PutsSome files old new → Leaves r old new
part_left r files old new is differ some =
    subst (λ (o : Outcome (List Held)). Leaves o old new) (sym is)
    (record { count = some.count; below = some.below; puts = all_put (take some.count files) old new (distinct_front some.count files differ) some.puts })

pub all_published : (r : Outcome (List Held)) (files old new : List Held) → r ≡ Ok files → distinct files ≡ true → PutsEach files old new → Publishes r old new
all_published r files old new is differ puts =
    subst (λ (o : Outcome (List Held)). Publishes o old new) (sym is) (all_put files old new differ puts)

pub input_left : (r : Outcome (List Held)) (files old new : List Held) → r ≡ Ok files → PutsInput files old new → LeavesInput r old new
input_left r files old new is some = subst (λ (o : Outcome (List Held)). LeavesInput o old new) (sym is) some
