-- What a folder has that holds what was published.
use Rattle.std.proofs.Common.{◌≡◌, ◌∙◌, inl, inr, ◌≤◌, ℕ, Bool, true, false, List, [], ◌∷◌, ◌++◌, length, map, All, Contains, Option, Some, None, Result, Ok, Err, refl, sym, ap, subst}
use Rattle.std.specs.Prelude.{nat_lt, unwrap_or, if◌then◌else◌}
use Rattle.std.proofs.lemmas.Bool.{ltb-false}
use Rattle.std.proofs.lemmas.List.Elements.{All-nil, All-cons, All-head, All-tail}
use Rattle.small_types.specs.declared.limits.TheConstants.{MANIFEST_LIMIT}
use Rattle.small_types.specs.declared.target.Target.{Target}
use Rattle.small_types.specs.Name.{IsName}
use Rattle.small_types.specs.Outcome.{◌>>=◌}
use Rattle.folders.specs.declared.folder.Held.{Held}
use Rattle.folders.specs.Files.{distinct, file_in}
use Rattle.addresses.specs.Address.{target_of_text}
use Rattle.addresses.specs.Join.{app_target_of, file_target_of}
use Rattle.digest_list.specs.Digest.{IsSized}
use Rattle.http_plain.specs.Path.{name_in_path}
use Rattle.manifest_parts.specs.Parts.{Tells}
use Rattle.manifests.specs.declared.facts.Application.{Application}
use Rattle.manifests.specs.declared.facts.Deployment.{Deployment}
use Rattle.manifests.specs.declared.facts.FileEntry.{FileEntry}
use Rattle.manifests.specs.Applications.{application_of, size_limit}
use Rattle.manifests.specs.Deployments.{deployment_of}
use Rattle.manifests.specs.Facts.{AreApplicationFacts, AreDeploymentFacts}
use Rattle.manifest_tree.specs.WrittenText.{counted}
use Rattle.manifest_writer.specs.Applications.{application_text, application_tree}
use Rattle.manifest_writer.specs.Deployments.{deployment_tree}
use Rattle.manifest_writer.specs.Held.{IsHeldDeployment, IsHeldFile}
use Rattle.manifest_writer.proofs.ReadApplications.{application_read}
use Rattle.manifest_writer.proofs.ReadDeployments.{deployment_read}
use Rattle.manifest_writer.proofs.Writable.{application_writable, deployment_writable}
use Rattle.publish_plan.specs.declared.fault.PlanFault.{PlanFault}
use Rattle.publish_plan.specs.declared.options.Options.{Options}
use Rattle.publish_plan.specs.declared.options.PublishPlan.{PublishPlan}
use Rattle.publish_plan.specs.declared.options.PlannedFile.{PlannedFile}
use Rattle.publish_plan.specs.Early.{early_of}
use Rattle.publish_plan.specs.Facts.{AreFacts}
use Rattle.publish_plan.specs.Outcome.{unless}
use Rattle.publish_plan.specs.Places.{codebase, deployment_name, input_names, manifest_name, target_name}
use Rattle.publish_plan.specs.Plans.{plan_of, planned, planned_files}
use Rattle.publish_plan.proofs.PlanFacts.{plan_facts}
use Rattle.publisher.specs.declared.fault.PublishFault.{PublishFault}
use Rattle.publisher.specs.declared.fault.PublishFault.TheVariants.{FileTooLong, ManifestTooLong}
use Rattle.publisher.specs.Entries.{AreEntries, IsEntry}
use Rattle.publisher.specs.Publication.{Outcome, bytes_in, copy_in, deployment_manifest_of, entry_in, judged, limited, manifests_of, publish_of, published_files, read_entries, read_entry, release_of}
use Rattle.publisher.specs.Publication as writes
use Rattle.publisher.proofs.EntryReads.{entries_are}
use Rattle.publisher.proofs.Known.{good}
use Rattle.publisher.proofs.OptionFacts.{application_fits, deployment_fits, name_content}
use Rattle.publisher.proofs.PlanFacts.{IsGoodPlan}
use Rattle.publisher.proofs.ReleaseFacts.{entries_fit, files_fit}
use Rattle.published_paths.specs.Reached.{IsReached, Reaches}
use Rattle.published_paths.proofs.Planned.{plans_reached}
use Rattle.updater_cli.specs.Offered.{HasFiles, PublishInput, WritesRelease, input_file, listed}
use Rattle.updater_cli.proofs.PublishedOut.{IsFileOut, IsOut}
use Rattle.updater_cli.proofs.PublishedDigests.{digests_held, digests_match, digests_sized}
use Rattle.updater_cli.proofs.PublishedFiles.{Among, among_all, among_left, among_map, among_of, among_right, found_by_name, input_there, inputs_named, map_among}
use Rattle.updater_cli.proofs.PublishedTexts.{told_written}

-- ---- the steps of a publish

first_taken : {A B F : Type 0} (r : Result A F) (next : A → Result B F) (y : B) → (r >>= next) ≡ Ok y → (value : A) × (r ≡ Ok value) × (next value ≡ Ok y)
first_taken (Ok x) next y is = (x, refl, is)
first_taken (Err e) next y is = absurd cc

ok_same : {A F : Type 0} (x y : A) → ◌≡◌ {A = Result A F} (Ok x) (Ok y) → y ≡ x
ok_same x y e = cc

judged_ok : {A : Type 0} (r : Result A PlanFault) (y : A) → judged r ≡ Ok y → r ≡ Ok y
judged_ok {A} (Ok x) y is = ap (λ (z : A). Ok z) (inner is)
  where
    inner : ◌≡◌ {A = Outcome A} (Ok x) (Ok y) → x ≡ y
    inner e = cc
judged_ok (Err e) y is = absurd (no e is)
  where
    no : (f : PlanFault) → judged (Err f) ≡ Ok y → ⊥
    no f same = cc

no_early : (refusal : Option PlanFault) (value : Unit {0}) → unless refusal ≡ Ok value → refusal ≡ None
no_early None value is = refl
no_early (Some e) value is = absurd cc

abbrev by_length : Bool → List ℕ → Outcome (List ℕ)
by_length long text = if long then Err (ManifestTooLong (counted (length text))) else Ok text

limited_by : (long : Bool) (text out : List ℕ) → nat_lt MANIFEST_LIMIT (length text) ≡ long → by_length long text ≡ Ok out → (out ≡ text) × (length text ≤ MANIFEST_LIMIT)
limited_by true text out is made = absurd cc
limited_by false text out is made = (same made, short)
  where
    same : ◌≡◌ {A = Outcome (List ℕ)} (Ok text) (Ok out) → out ≡ text
    same e = cc

    short : length text ≤ MANIFEST_LIMIT
    short = ltb-false MANIFEST_LIMIT (length text) is

-- a text that is within its limit
short_text : (text out : List ℕ) → limited text ≡ Ok out → (out ≡ text) × (length text ≤ MANIFEST_LIMIT)
short_text text out made = limited_by (nat_lt MANIFEST_LIMIT (length text)) text out refl made

abbrev by_size : Bool → FileEntry → PublishFault → Outcome FileEntry
by_size long entry fault = if long then Err fault else Ok entry

entry_by : (held : List Held) (file : PlannedFile) (long : Bool) (entry : FileEntry) → nat_lt (size_limit file.local) (length (bytes_in held file)) ≡ long
    → by_size long (entry_in held file) (FileTooLong file.file (length (bytes_in held file))) ≡ Ok entry → IsEntry file entry
entry_by held file true entry is read = absurd cc
entry_by held file false entry is read = record {
  bytes = bytes_in held file;
  within = ltb-false (size_limit file.local) (length (bytes_in held file)) is;
  is = same read;
  sized = subst (λ (e : FileEntry). All IsSized e.list) (sym (same read)) (digests_sized (bytes_in held file));
}
  where
    same : ◌≡◌ {A = Outcome FileEntry} (Ok (entry_in held file)) (Ok entry) → entry ≡ entry_in held file
    same e = cc

entry_ok : (held : List Held) (file : PlannedFile) (entry : FileEntry) → read_entry held file ≡ Ok entry → IsEntry file entry
unfolding read_entry
entry_ok held file entry read = entry_by held file (nat_lt (size_limit file.local) (length (bytes_in held file))) entry refl read

entries_ok : (held : List Held) (files : List PlannedFile) (entries : List FileEntry) → read_entries held files ≡ Ok entries → AreEntries files entries
entries_ok held [] [] read = tt
entries_ok held [] (e ∷ es) read = absurd cc
entries_ok held (f ∷ fs) entries read =
    let first = first_taken (read_entry held f) (λ entry. read_entries held fs >>= λ others. Ok (entry ∷ others)) entries read in
    let rest = first_taken (read_entries held fs) (λ others. Ok (first.0 ∷ others)) entries first.2 in
    made entries first.0 rest.0 rest.2 (entry_ok held f first.0 first.1) (entries_ok held fs rest.0 rest.1)
  where
    made : (all : List FileEntry) (e : FileEntry) (es : List FileEntry) → ◌≡◌ {A = Outcome (List FileEntry)} (Ok (e ∷ es)) (Ok all) → IsEntry f e → AreEntries fs es → AreEntries (f ∷ fs) all
    made all e es is one others = subst (λ (xs : List FileEntry). AreEntries (f ∷ fs) xs) (same all e es is) (one, others)
      where
        same : (xs : List FileEntry) (y : FileEntry) (ys : List FileEntry) → ◌≡◌ {A = Outcome (List FileEntry)} (Ok (y ∷ ys)) (Ok xs) → (y ∷ ys) ≡ xs
        same xs y ys e = cc

-- ---- what was made

pub record IsMade (p : PublishInput) (files : List Held) : Type 0 where
  pub early : early_of p.options ≡ None
  pub plan : PublishPlan
  pub planned_is : plan_of p.options p.names ≡ Ok plan
  pub facts : AreFacts p.options p.names plan
  pub fits : IsGoodPlan p.options p.names plan
  pub entries : AreEntries plan.files (listed p)
  pub text : List ℕ
  pub text_is : text ≡ application_text (writes.application_of p.options (listed p))
  pub text_short : length text ≤ MANIFEST_LIMIT
  pub last : List ℕ
  pub last_is : last ≡ deployment_manifest_of p.options text
  pub last_short : length last ≤ MANIFEST_LIMIT
  pub files_are : files ≡ map (copy_in p.input) plan.files ++ record { name = plan.manifest; bytes = text } ∷ record { name = plan.deployment; bytes = last } ∷ []
  pub differ : distinct files ≡ true

module _ (p : PublishInput) (files : List Held) (w : WritesRelease p files) where
  made_of : (plan : PublishPlan) → early_of p.options ≡ None → plan_of p.options p.names ≡ Ok plan → release_of p.options p.input plan ≡ Ok files → IsMade p files
  unfolding release_of manifests_of
  made_of plan early is made =
      let o = p.options in
      let facts = plan_facts o p.names early plan is in
      let fits = good o p.names plan w.publishable early w.ascending is in
      let read = first_taken (read_entries p.input plan.files) _ files made in
      let written = first_taken (manifests_of o read.0) _ files read.2 in
      let application = first_taken (limited (application_text (writes.application_of o read.0))) _ written.0 written.1 in
      let deployment = first_taken (limited (deployment_manifest_of o application.0)) _ written.0 application.2 in
      let entries : read.0 ≡ listed p = entries_are p.input plan.files read.0 read.1 ∙ ap (map (entry_in p.input)) facts.files in
      let text = short_text (application_text (writes.application_of o read.0)) application.0 application.1 in
      let last = short_text (deployment_manifest_of o application.0) deployment.0 deployment.1 in
      let all : files ≡ published_files p.input plan written.0 = ok_same (published_files p.input plan written.0) files written.2 in
      let release = ok_same _ written.0 deployment.2 in
      record {
        early = early;
        plan = plan;
        planned_is = is;
        facts = facts;
        fits = fits;
        entries = subst (AreEntries plan.files) entries (entries_ok p.input plan.files read.0 read.1);
        text = application.0;
        text_is = text.0 ∙ ap (λ (es : List FileEntry). application_text (writes.application_of o es)) entries;
        text_short = subst (λ (t : List ℕ). length t ≤ MANIFEST_LIMIT) (sym text.0) text.1;
        last = deployment.0;
        last_is = last.0;
        last_short = subst (λ (t : List ℕ). length t ≤ MANIFEST_LIMIT) (sym last.0) last.1;
        files_are = all ∙ ap (published_files p.input plan) release;
        differ = ap distinct all ∙ fits.written p.input written.0;
      }

  is_made : IsMade p files
  unfolding publish_of
  is_made = steps w.written
    where
      steps : publish_of p.options p.names p.input ≡ Ok files → IsMade p files
      steps is =
          let fit = first_taken (judged (unless (early_of p.options))) (λ fit. judged (plan_of p.options p.names) >>= λ plan. release_of p.options p.input plan) files is in
          let plan = first_taken (judged (plan_of p.options p.names)) (λ plan. release_of p.options p.input plan) files fit.2 in
          made_of plan.0 (no_early (early_of p.options) fit.0 (judged_ok (unless (early_of p.options)) fit.0 fit.1)) (judged_ok (plan_of p.options p.names) plan.0 plan.1) plan.2

-- ---- what is out

module _ (p : PublishInput) (files folder : List Held) (w : WritesRelease p files) (holds : HasFiles folder files) where
  made : IsMade p files
  made = is_made p files w

  abbrev o : Options
  o = p.options

  abbrev inputs : List (List ℕ)
  inputs = input_names p.options.from p.names

  -- a file that is written stands in the folder
  stands : (f : Held) → Among f files → file_in f.name folder ≡ Some f.bytes
  stands f there = holds f.name f.bytes (found_by_name files f made.differ there)

  among_files : (f : Held) → Among f (map (copy_in p.input) made.plan.files ++ record { name = made.plan.manifest; bytes = made.text } ∷ record { name = made.plan.deployment; bytes = made.last } ∷ []) → Among f files
  among_files f there = subst (λ (fs : List Held). Among f fs) (sym made.files_are) there

  -- ---- the manifests

  manifest_there : file_in (manifest_name o) folder ≡ Some made.text
  manifest_there = subst (λ (n : List ℕ). file_in n folder ≡ Some made.text) made.facts.manifest
      (stands (record { name = made.plan.manifest; bytes = made.text }) (among_files _ (among_right (map (copy_in p.input) made.plan.files) _ _ (inl refl))))

  deployment_there : file_in (deployment_name o) folder ≡ Some made.last
  deployment_there = subst (λ (n : List ℕ). file_in n folder ≡ Some made.last) made.facts.deployment
      (stands (record { name = made.plan.deployment; bytes = made.last }) (among_files _ (among_right (map (copy_in p.input) made.plan.files) _ _ (inr (inl refl)))))

  names : All IsName inputs
  names = inputs_named o.from p.names w.from w.named

  held_file : (file : List ℕ) → IsName file → IsHeldFile (entry_in p.input (planned o file))
  unfolding planned
  held_file file is = record { name = is; list = digests_held (bytes_in p.input (planned o file)) }

  held_all : (fs : List (List ℕ)) → All IsName fs → All IsHeldFile (map (entry_in p.input) (planned_files o fs))
  held_all [] all = All-nil IsHeldFile
  held_all (f ∷ fs) all = All-cons IsHeldFile (entry_in p.input (planned o f)) (map (entry_in p.input) (planned_files o fs)) (held_file f (All-head IsName f fs all)) (held_all fs (All-tail IsName f fs all))

  application : Application
  application = writes.application_of o (listed p)

  application_facts : AreApplicationFacts (writes.application_of o (listed p))
  application_facts = application_fits o (listed p) made.early
      (files_fit made.plan.files (listed p) made.fits.few made.fits.few_local made.fits.differ made.entries)
      (entries_fit made.plan.files (listed p) made.fits.fit made.entries)

  tells_application : (a : Application) → Tells application_of made.text (Ok a) → a ≡ writes.application_of o (listed p)
  tells_application a told =
      let b = writes.application_of o (listed p) in
      told_written application_of (application_tree b) b a (application_writable b application_facts w.version (held_all inputs names))
      (application_read b application_facts w.version (held_all inputs names))
      (subst (λ (t : List ℕ). Tells application_of t (Ok a)) made.text_is told)

  deployment_facts : AreDeploymentFacts (writes.deployment_of o made.text)
  deployment_facts = deployment_fits o made.text (writes.deployment_of o made.text) w.publishable made.early w.version made.text_short refl (digests_sized made.text)

  deployment_held : IsHeldDeployment (writes.deployment_of o made.text)
  deployment_held = record { version = w.version; minimum = w.minimum; app = w.version; app_list = digests_held made.text }

  tells_deployment : (d : Deployment) → Tells deployment_of made.last (Ok d) → d ≡ writes.deployment_of o made.text
  tells_deployment d told =
      let e = writes.deployment_of o made.text in
      told_written deployment_of (deployment_tree e o.publisher o.name) e d
      (deployment_writable e o.publisher o.name deployment_facts deployment_held w.publishable.publisher.allowed (name_content o made.early))
      (deployment_read e deployment_facts deployment_held o.publisher o.name)
      (subst (λ (t : List ℕ). Tells deployment_of t (Ok d)) made.last_is told)

  -- ---- the files

  entry_named : (file : List ℕ) → (entry_in p.input (planned o file)).name ≡ file
  unfolding planned
  entry_named file = refl

  there_in : (file whole : List ℕ) → input_file p file ≡ Some whole → bytes_in p.input (planned o file) ≡ whole
  unfolding planned
  there_in file whole is = ap (λ (x : Option (List ℕ)). unwrap_or x []) is

  copied : (file : List ℕ) → (copy_in p.input (planned o file)).name ≡ target_name o file
  unfolding planned
  copied file = refl

  file_out : (file : List ℕ) → Among file inputs → IsFileOut p folder (entry_in p.input (planned o file))
  file_out file there =
      let input = input_there o.from file p.input p.names w.exact there in
      let bytes = there_in file input.0 input.1 in
      let copy = copy_in p.input (planned o file) in
      let planned_there : Among (planned o file) made.plan.files = subst (λ (fs : List PlannedFile). Among (planned o file) fs) (sym made.facts.files) (map_among (planned o) inputs file there) in
      let stood = stands copy (among_files copy (among_left (map (copy_in p.input) made.plan.files) _ copy (map_among (copy_in p.input) made.plan.files (planned o file) planned_there))) in
      record {
        whole = bytes_in p.input (planned o file);
        input = ap (input_file p) (entry_named file) ∙ input.1 ∙ ap Some (sym bytes);
        out = ap (λ (n : List ℕ). file_in (target_name o n) folder) (entry_named file) ∙ ap (λ (n : List ℕ). file_in n folder) (sym (copied file)) ∙ stood;
        matching = digests_match (bytes_in p.input (planned o file));
      }

  -- each entry is of an input file
  of_input : (entry : FileEntry) → Contains (listed p) entry → (file : List ℕ) × Among file inputs × (entry_in p.input (planned o file) ≡ entry)
  of_input entry there =
      let first = among_map (entry_in p.input) (planned_files o inputs) entry (among_of (listed p) entry there) in
      let second = among_map (planned o) inputs first.0 first.1 in
      (second.0, second.1, ap (entry_in p.input) second.2 ∙ first.2)

  -- ---- addresses

  module _ (url : List ℕ) (given base : Target) (read : target_of_text url ≡ Ok given) (reaches : Reaches given (deployment_name o)) (joined : app_target_of given (codebase o) ≡ Ok base) where
    ways : (name_in_path base.path ≡ Some made.plan.manifest) × All (IsReached o.mapped base) made.plan.files
    ways = plans_reached o p.names made.plan url given base w.from w.to w.version w.named made.early made.planned_is read (subst (Reaches given) (sym made.facts.deployment) reaches) joined

    way_of : (file : List ℕ) → Among file inputs → (target : Target) → file_target_of base o.mapped file ≡ Ok target → name_in_path target.path ≡ Some (target_name o file)
    unfolding planned
    way_of file there =
        among_all (IsReached o.mapped base) made.plan.files (planned o file) ways.1
        (subst (λ (fs : List PlannedFile). Among (planned o file) fs) (sym made.facts.files) (map_among (planned o) inputs file there))

    entry_way : (entry : FileEntry) → Contains (listed p) entry → (target : Target) → file_target_of base o.mapped entry.name ≡ Ok target → name_in_path target.path ≡ Some (target_name o entry.name)
    entry_way entry there =
        let from = of_input entry there in
        let name : from.0 ≡ entry.name = sym (entry_named from.0) ∙ ap (λ (e : FileEntry). e.name) from.2 in
        subst (λ (n : List ℕ). (target : Target) → file_target_of base o.mapped n ≡ Ok target → name_in_path target.path ≡ Some (target_name o n)) name (way_of from.0 from.1)

  pub is_out : IsOut p folder
  is_out = record {
    text = made.text;
    last = made.last;
    deployment = deployment_there;
    deployment_short = made.last_short;
    application = manifest_there;
    application_short = made.text_short;
    deployment_told = tells_deployment;
    application_told = tells_application;
    files = λ entry there. (let from = of_input entry there in subst (IsFileOut p folder) from.2 (file_out from.0 from.1));
    base = λ url given base read reaches joined. (ways url given base read reaches joined).0 ∙ ap Some made.facts.manifest;
    reached = entry_way;
  }
