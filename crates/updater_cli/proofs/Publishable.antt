-- A release that can be published is, over a folder that tells and does not fail.
use Rattle.std.proofs.Common.{◌≡◌, ◌∙◌, ◌⊎◌, inl, inr, ◌≤◌, ◌++◌, ◌&&◌, refl, sym, ap, subst, ℕ, Bool, true, false, not, cond, List, [], ◌∷◌, length, map, All, Option, Some, None, Ok, Err, append_assoc}
use Rattle.std.specs.Prelude.{IfErr, IfSome, Result, nat_lt, option_map}
use Rattle.std.specs.List.{list_any}
use Rattle.std.proofs.lemmas.Bool.{and_from, cases_Bool, le-ltb}
use Rattle.std.proofs.lemmas.List.{append-nil}
use Rattle.std.proofs.lemmas.List.Elements.{All-head, All-tail}
use Rattle.std.proofs.lemmas.List.Folds.{list_any-from_Any}
use Rattle.outside.specs.Streams.{Rose}
use Rattle.outside.specs.declared.sink.Sink.{Ghosts as SinkGhosts}
use Rattle.small_types.specs.declared.limits.TheConstants.{FILE_COUNT_LIMIT, LOCAL_COUNT_LIMIT, MANIFEST_LIMIT, NAME_LIMIT}
use Rattle.small_types.specs.Outcome.{◌>>=◌}
use Rattle.folders.specs.declared.folder.Folder.{Ghosts as FolderGhosts}
use Rattle.folders.specs.declared.folder.Held.{Held}
use Rattle.identity.specs.declared.version.Version.{Version}
use Rattle.identity.specs.Version.{IsBelow, version_cmp}
use Rattle.identity.proofs.VersionLemmas.{IsBelow-from_cmp}
use Rattle.std.specs.Ordering.{is_lt}
use Rattle.manifests.specs.Applications.{size_limit}
use Rattle.machine.proofs.FirstFound.{find_none}
use Rattle.publish_plan.specs.declared.fault.PlanFault.{PlanFault}
use Rattle.publish_plan.specs.declared.options.Mark.{Mark}
use Rattle.publish_plan.specs.declared.options.Options.{Options}
use Rattle.publish_plan.specs.declared.options.PublishPlan.{PublishPlan}
use Rattle.publish_plan.specs.declared.options.PlannedFile.{PlannedFile}
use Rattle.publish_plan.specs.Early.{above, early_of, overlap}
use Rattle.publish_plan.specs.Marks.{bad_mark, is_among, is_good, is_marked}
use Rattle.publish_plan.specs.Outcome.{unless}
use Rattle.publish_plan.specs.Places.{deployment_name, is_plain_name, lies_below, manifest_name, version_folder}
use Rattle.publish_plan.specs.Plans.{few, fit_inputs, good_marks, is_bad_input, plan_for, plan_of, some_input, standing, with_entry}
use Rattle.publisher.specs.declared.fault.PublishFault.{PublishFault}
use Rattle.publisher.specs.declared.fault.PublishFault.TheVariants.{BadInput, BadMark, BadName, Changed, EmptyInput, FileTooLong, ManifestTooLong, Memory, MinimumAbove, NoEntryPoint, ReadFault, TooMany, VersionExists, WriteFault}
use Rattle.publisher.specs.declared.published.Published.{Published}
use Rattle.publisher.specs.Outcome.{Refuses}
use Rattle.publisher.specs.Publication.{Outcome, bytes_in, deployment_manifest_of, entry_in, judged, limited, manifests_of, publish_of, read_entries, read_entry, release_of}
use Rattle.publisher.specs.Published.{IsPublish}
use Rattle.publication.specs.declared.publication.PublishEnd.{PublishEnd}
use Rattle.publication.specs.declared.publication.PublishEnd.TheVariants as ends
use Rattle.publication.specs.Lines.{end_of_fault, end_of_publish}
use Rattle.publication.specs.Publication.{EndsWith, PublishesOptions, status_of}
use Rattle.updater_cli.specs.Publishable.{CanPublish, MayPublish, PublishesWhereItMay, app_text, inputs, listed_files, written_files}
use Rattle.updater_cli.specs.Requests.{PublishesBy}

-- ---- one reading after another

then_ok : {A B F : Type 0} (read : Result A F) (a : A) (f : A → Result B F) → read ≡ Ok a
    → (read >>= f) ≡ f a
then_ok read a f is = ap (λ (r : Result _ _). r >>= f) is

none_unless : (found : Option PlanFault) → found ≡ None → unless found ≡ Ok tt
none_unless found none = ap unless none

-- a choice of which each test is passed
chosen_last : {X : Type 0} (b : Bool) (x y : X) → b ≡ false → cond b x y ≡ y
chosen_last b x y is = ap (λ (t : Bool). cond t x y) is

chosen_first : {X : Type 0} (b : Bool) (x y : X) → b ≡ true → cond b x y ≡ x
chosen_first b x y is = ap (λ (t : Bool). cond t x y) is

-- ---- the marks

module _ (files : List (List ℕ)) where
  marks_good : (before marks : List Mark)
      → ((earlier later : List Mark) (mark : Mark) → marks ≡ earlier ++ mark ∷ later
      → is_good files (before ++ earlier) mark ≡ true)
      → bad_mark files before marks ≡ None
  marks_good before [] each = refl
  marks_good before (mark ∷ marks) each =
      let first : is_good files before mark ≡ true =
      subst (λ (ms : List Mark). is_good files ms mark ≡ true) (append-nil before)
      (each [] marks mark refl) in
      let rest : bad_mark files (before ++ mark ∷ []) marks ≡ None =
      marks_good (before ++ mark ∷ []) marks
      (λ earlier later other is.
      subst (λ (ms : List Mark). is_good files ms other ≡ true)
      (sym (append_assoc before (mark ∷ []) earlier))
      (each (mark ∷ earlier) later other (ap (λ (ms : List Mark). mark ∷ ms) is))) in
      chosen_first (is_good files before mark) (bad_mark files (before ++ mark ∷ []) marks)
      (Some mark.file) first
      ∙ rest

-- ---- the input files

module _ (held : List Held) where
  entry_read : (file : PlannedFile) → length (bytes_in held file) ≤ size_limit file.local
      → read_entry held file ≡ Ok (entry_in held file)
  unfolding read_entry
  entry_read file within =
      chosen_last (nat_lt (size_limit file.local) (length (bytes_in held file))) _ _
      (le-ltb (size_limit file.local) (length (bytes_in held file)) within)

  entries_read : (files : List PlannedFile)
      → All (λ file. length (bytes_in held file) ≤ size_limit file.local) files
      → read_entries held files ≡ Ok (map (entry_in held) files)
  entries_read [] sizes = refl
  entries_read (file ∷ files) sizes =
      let P : PlannedFile → Type 0 =
      λ file. length (bytes_in held file) ≤ size_limit file.local in
      then_ok (read_entry held file) (entry_in held file)
      (λ entry. read_entries held files >>= (λ entries. Ok (entry ∷ entries)))
      (entry_read file (All-head P file files sizes))
      ∙ then_ok (read_entries held files) (map (entry_in held) files)
      (λ entries. Ok (entry_in held file ∷ entries))
      (entries_read files (All-tail P file files sizes))

text_within : (text : List ℕ) → length text ≤ MANIFEST_LIMIT → limited text ≡ Ok text
text_within text within =
    chosen_last (nat_lt MANIFEST_LIMIT (length text)) _ _
    (le-ltb MANIFEST_LIMIT (length text) within)

-- ---- what is written

module _ (o : Options) (names : List (List ℕ)) (held : List Held) (can : CanPublish o names held)
  where
    minimum_fits : (minimum : Option Version)
        → IfSome minimum (λ minimum. ¬ IsBelow o.version minimum) → above o.version minimum ≡ None
    minimum_fits None fits = refl
    minimum_fits (Some minimum) fits =
        by (cases_Bool (is_lt (version_cmp o.version minimum)))
      where
        by : (is_lt (version_cmp o.version minimum) ≡ true)
            ⊎ (is_lt (version_cmp o.version minimum) ≡ false) → above o.version (Some minimum) ≡ None
        by (inl below) = absurd (fits (IsBelow-from_cmp o.version minimum below))
        by (inr other) = chosen_last (is_lt (version_cmp o.version minimum)) _ _ other

    early : early_of o ≡ None
    unfolding early_of
    early =
        chosen_last (not (is_plain_name o.name)) _ _ (ap not can.name)
        ∙ chosen_last (not (is_plain_name o.entry)) _ _ (ap not can.entry)
        ∙ chosen_last (overlap o.from o.to) _ _ can.apart
        ∙ chosen_last (nat_lt NAME_LIMIT (length (manifest_name o))) _ _
        (le-ltb NAME_LIMIT (length (manifest_name o)) can.short)
        ∙ minimum_fits o.minimum can.minimum

    abbrev planned_release : PublishPlan
    planned_release = record {
      files = written_files o names;
      manifest = manifest_name o;
      deployment = deployment_name o;
    }

    fits : fit_inputs o (inputs o names) ≡ Ok tt
    fits = none_unless _ (ap (option_map _) (find_none (is_bad_input o) (inputs o names) can.fit))

    few_enough : few (written_files o names) ≡ Ok tt
    few_enough =
        chosen_last (nat_lt FILE_COUNT_LIMIT (length (written_files o names))) _ _
        (le-ltb FILE_COUNT_LIMIT (length (written_files o names)) can.few_files)
        ∙ chosen_last _ _ _ (le-ltb LOCAL_COUNT_LIMIT _ can.few_data)

    started : with_entry o (inputs o names) ≡ Ok tt
    started =
        chosen_first (is_among (inputs o names) o.entry && not (is_marked o.marks o.entry)) _ _
        (and_from (is_among (inputs o names) o.entry) (not (is_marked o.marks o.entry)) can.started
        (ap not can.unmarked))

    marked : good_marks o (inputs o names) ≡ Ok tt
    marked = none_unless _ (ap (option_map _) (marks_good (inputs o names) [] o.marks can.marks))

    planned_for : plan_for o (inputs o names) ≡ Ok planned_release
    unfolding plan_for
    planned_for =
        then_ok (fit_inputs o (inputs o names)) tt _ fits
        ∙ then_ok (few (written_files o names)) tt _ few_enough
        ∙ then_ok (with_entry o (inputs o names)) tt _ started
        ∙ then_ok (good_marks o (inputs o names)) tt _ marked

    free : standing o names ≡ Ok tt
    free =
        none_unless _ (ap (option_map _) (find_none (lies_below (version_folder o)) names can.fresh))

    some : some_input o names ≡ Ok tt
    some =
        chosen_first (list_any (lies_below o.from) names) _ _
        (list_any-from_Any (lies_below o.from) names can.some)

    planned : plan_of o names ≡ Ok planned_release
    unfolding plan_of
    planned =
        then_ok (standing o names) tt _ free ∙ then_ok (some_input o names) tt _ some ∙ planned_for

    released : (files : List Held) × (release_of o held planned_release ≡ Ok files)
    unfolding release_of manifests_of
    released =
        let text = app_text o names held in (
          _,
          then_ok (read_entries held (written_files o names)) (listed_files o names held) _
              (entries_read held (written_files o names) can.sizes)
              ∙ then_ok (manifests_of o (listed_files o names held)) _ _
              (then_ok (limited text) text _ (text_within text can.application)
              ∙ then_ok (limited (deployment_manifest_of o text)) (deployment_manifest_of o text) _
              (text_within (deployment_manifest_of o text) can.deployment)),
        )

    pub published : (files : List Held) × (publish_of o names held ≡ Ok files)
    unfolding publish_of
    published = (
      released.0,
      then_ok (judged (unless (early_of o))) tt _
          (ap (λ (r : Option PlanFault). judged (unless r)) early)
          ∙ then_ok (judged (plan_of o names)) planned_release _ (ap judged planned)
          ∙ released.1,
    )

-- ---- what is answered

err_is_not_ok : {P : Type 0} (files : List Held) (fault : PublishFault)
    → ◌≡◌ {A = Outcome (List Held)} (Ok files) (Err fault) → P
err_is_not_ok files fault e = absurd cc

-- a fault comes from nothing that was refused, and from no device
only_memory : (fault : PublishFault) (files : List Held) → Refuses fault (Ok files)
    → (fault ≡ ReadFault → ⊥) → (fault ≡ WriteFault → ⊥) → fault ≡ Memory
only_memory Memory files refuses read write = refl
only_memory ReadFault files refuses read write = absurd (read refl)
only_memory WriteFault files refuses read write = absurd (write refl)
only_memory (Changed file difference) files refuses read write = absurd refuses
only_memory (BadName word) files refuses read write = err_is_not_ok files (BadName word) refuses
only_memory (MinimumAbove minimum) files refuses read write =
    err_is_not_ok files (MinimumAbove minimum) refuses
only_memory (VersionExists file) files refuses read write =
    err_is_not_ok files (VersionExists file) refuses
only_memory EmptyInput files refuses read write = err_is_not_ok files EmptyInput refuses
only_memory (BadInput file) files refuses read write = err_is_not_ok files (BadInput file) refuses
only_memory (TooMany what) files refuses read write = err_is_not_ok files (TooMany what) refuses
only_memory NoEntryPoint files refuses read write = err_is_not_ok files NoEntryPoint refuses
only_memory (BadMark file) files refuses read write = err_is_not_ok files (BadMark file) refuses
only_memory (FileTooLong file length) files refuses read write =
    err_is_not_ok files (FileTooLong file length) refuses
only_memory (ManifestTooLong length) files refuses read write =
    err_is_not_ok files (ManifestTooLong length) refuses

neither : {P : Type 0} (end : PublishEnd) → (end ≡ ends.Done → ⊥) → (end ≡ ends.Memory → ⊥)
    → (end ≡ ends.Done) ⊎ (end ≡ ends.Memory) → P
neither end first second (inl done) = absurd (first done)
neither end first second (inr memory) = absurd (second memory)

module _ {F K : Type 0} (folder : FolderGhosts F) (to : SinkGhosts K) (o : Options) (old new : F)
    (may : MayPublish folder o old new) where
  call : (result : Result Published PublishFault) → IsPublish folder o old new result
      → IfErr result (λ fault. fault ≡ Memory)
  call (Ok done) publish = tt
  call (Err fault) publish =
      let files = published o may.names (folder.held old) may.can in
      only_memory fault files.0
      (subst (Refuses fault) files.1 (publish.told may.tells may.names may.exact).refused)
      (λ is. may.quiet (publish.counted.read is)) (λ is. may.quiet (publish.counted.write is))

  -- how such a publish ends before its line is written
  no_end : (result : Result Published PublishFault) → IfErr result (λ fault. fault ≡ Memory)
      → (end : PublishEnd) → end_of_publish result ≡ end → (end ≡ ends.Done) ⊎ (end ≡ ends.Memory)
  no_end (Ok done) only end is = inl (sym is)
  no_end (Err fault) only end is = inr (sym is ∙ ap end_of_fault only)

  ends_well : (sink_old sink : K) (result : Result Published PublishFault)
      → IfErr result (λ fault. fault ≡ Memory) → (end : PublishEnd)
      → EndsWith to.tells to.taken sink_old sink result end → (end ≡ ends.SinkFault → ⊥)
      → (status_of end ≡ status_of ends.Done) ⊎ (status_of end ≡ status_of ends.Memory)
  ends_well sink_old sink result only ends.Done ended never = inl refl
  ends_well sink_old sink result only ends.Memory ended never = inr refl
  ends_well sink_old sink result only ends.SinkFault ended never = absurd (never refl)
  ends_well sink_old sink result only ends.Refused ended never =
      neither ends.Refused (λ e. cc (e)) (λ e. cc (e)) (no_end result only ends.Refused ended.0)
  ends_well sink_old sink result only ends.ReadFault ended never =
      neither ends.ReadFault (λ e. cc (e)) (λ e. cc (e)) (no_end result only ends.ReadFault ended.0)
  ends_well sink_old sink result only ends.WriteFault ended never =
      neither ends.WriteFault (λ e. cc (e)) (λ e. cc (e))
      (no_end result only ends.WriteFault ended.0)

  status_is : (code : ℕ) (sink_old sink : K) → PublishesBy folder to o code old new sink_old sink
      → ¬ Rose (to.count sink_old) (to.count sink)
      → (code ≡ status_of ends.Done) ⊎ (code ≡ status_of ends.Memory)
  status_is code sink_old sink publish quiet = by publish.done
    where
      coded : (status_of publish.end ≡ status_of ends.Done)
          ⊎ (status_of publish.end ≡ status_of ends.Memory)
          → (code ≡ status_of ends.Done) ⊎ (code ≡ status_of ends.Memory)
      coded (inl done) = inl (publish.code ∙ done)
      coded (inr memory) = inr (publish.code ∙ memory)

      by : PublishesOptions folder to o old new sink_old sink publish.end
          ⊎ ((publish.end ≡ ends.Memory) × (new ≡ old) × (sink ≡ sink_old))
          → (code ≡ status_of ends.Done) ⊎ (code ≡ status_of ends.Memory)
      by (inl made) =
          coded (ends_well sink_old sink made.result (call made.result made.published) publish.end
          made.ended (λ is. quiet (publish.sink_fault is)))
      by (inr none) = inr (publish.code ∙ ap status_of none.0)

pub publishes_where_it_may : {F K : Type 0} (folder : FolderGhosts F) (to : SinkGhosts K)
    (old new : F) (sink_old sink : K) → PublishesWhereItMay folder to old new sink_old sink
publishes_where_it_may folder to old new sink_old sink = record {
  call = λ o result may publish. call folder to o old new may result publish;
  status = λ o code may publish quiet.
      status_is folder to o old new may code sink_old sink publish quiet;
}
