-- A commit is an install of the release of its job.
use Rattle.std.proofs.Common.{◌≡◌, ◌∙◌, ◌⊎◌, ◌++◌, ◌<◌, inl, inr, refl, sym, ap, subst, Bool, true, false, ℕ, List, [], ◌∷◌, length, Contains, Some, arith}
use Rattle.std.specs.Ordering.{is_lt}
use Rattle.std.specs.Prelude.{filter}
use Rattle.std.proofs.lemmas.Bool.{false≢true}
use Rattle.identity.specs.declared.key.Key.{Key}
use Rattle.identity.specs.declared.version.Version.{Version}
use Rattle.identity.specs.Version.{IsBelow, version_cmp}
use Rattle.identity.proofs.VersionLemmas.{IsBelow-from_cmp, cmp_from_IsBelow}
use Rattle.manifests.specs.declared.facts.FileEntry.{FileEntry}
use Rattle.machine.specs.declared.reply.Reply.TheVariants as says
use Rattle.machine.specs.Current.{current_version}
use Rattle.machine.specs.Installed.{AreFetched, Installed}
use Rattle.machine.specs.Minimums.{minimum_of}
use Rattle.machine.specs.Rows.{PassesAll, Refuses}
use Rattle.machine.specs.Shape.{shape_of}
use Rattle.machine.specs.Sound.{IsWhole, program_files_of}
use Rattle.machine.specs.SoundSession.{IsSoundJob, SoundSession, program_files_in}
use Rattle.machine.specs.Store.{Job, Session, Store}
use Rattle.machine.specs.Views.{ListedFile, is_required}
use Rattle.machine.proofs.FirstRefusal.{given_reply}
use Rattle.machine.proofs.Members.{In, all_in, filter_in, in_all, in_contains, in_either, in_filter, in_flat_map, in_left, in_map, in_right}
use Rattle.machine.proofs.Shared.{alike_each, each_alike}
use Rattle.job_machine.specs.declared.command.JobCommand.TheVariants as calls
use Rattle.job_machine.specs.CommitRow.{AreOfJob, CommitEffect, commit_refusals}
use Rattle.job_machine.specs.JobLaws.{IsCommitted}
use Rattle.job_machine.specs.Jobs.{BareJob, OfOpen, bare_job, job_at, job_shape_of}
use Rattle.job_machine.specs.Replies.{OfMachine, SessionReply}
use Rattle.job_machine.specs.Sessions.{JobAnswers, job_refusals}
use Rattle.job_machine.proofs.OpenJobs.{bare_found, job_in}
use Rattle.job_machine.proofs.Refused.{IsNoEffect, refused_job}
use Rattle.job_machine.proofs.Unchanged.{IsDone, IsMemory, IsRefused, Kind, kind_of}

-- ---- versions

below_of : (a b : Version) → (¬ IsBelow a b → ⊥) → IsBelow a b
below_of a b not = by (is_lt (version_cmp a b)) refl
  where
    by : (t : Bool) → is_lt (version_cmp a b) ≡ t → IsBelow a b
    by true is = IsBelow-from_cmp a b is
    by false is = absurd (not (λ below. false≢true (sym is ∙ cmp_from_IsBelow a b below)))

-- ---- an effect

module _ (number now : ℕ) (old : Session) (reply : SessionReply) (new : Session)
    (passes : PassesAll (commit_refusals number (job_shape_of old)))
    (done : CommitEffect number now old reply new) where
  abbrev job : Job
  job = done.job

  pub open_of : {P : BareJob → Type 0} → P (bare_job done.job) → OfOpen number (job_shape_of old) P
  open_of holds = (bare_job done.job, bare_found number old.jobs done.job done.found, holds)

  pub is_ready : done.job.left ≡ []
  is_ready = by done.job.left refl
    where
      by : (left : List FileEntry) → done.job.left ≡ left → done.job.left ≡ []
      by [] is = is
      by (entry ∷ rest) is =
          absurd (passes.1.0 (length done.job.left)
          (open_of {P = λ j. (length done.job.left ≡ length j.left) × (0 < length done.job.left)}
          (refl, (let some = ap length is in omega (arith, some)))))

  pub is_newer : (have : Version)
      → current_version done.job.deployment.identity.key (shape_of old) ≡ Some have
      → IsBelow have done.job.deployment.identity.version
  is_newer have is =
      below_of have done.job.deployment.identity.version (λ not. passes.1.1.0 have (open_of (is, not)))

  pub is_reached : (minimum : Version)
      → minimum_of done.job.deployment.identity.key old.store.apps ≡ Some minimum
      → ¬ IsBelow done.job.deployment.identity.version minimum
  is_reached minimum is below = passes.1.1.1.0 minimum (open_of (is, below))

  pub is_committed : IsCommitted number now old new
  is_committed = record {
    job = done.job;
    found = done.found;
    ready = is_ready;
    newer = is_newer;
    reached = is_reached;
    files = done.files;
    originals = done.originals;
    of_job = done.of_job;
    installed = subst
        (λ (s : Store). Installed done.job.url done.job.base done.job.deployment
        done.job.application done.files done.originals now old.store s)
        (sym (ap (λ (s : Session). s.store) done.is)) done.installed;
    jobs = ap (λ (s : Session). s.jobs) done.is;
    next_job = ap (λ (s : Session). s.next_job) done.is;
  }

-- ---- an answer

not_memory : {P : Type 0} (key : Key) (version : Version) (view : ℕ)
    → OfMachine (says.Installed key version view) ≡ OfMachine says.Memory → P
not_memory key version view e = absurd cc

pub committed : (now : ℕ) (heard : List (List ℕ)) (old : Session) (number : ℕ) (key : Key)
    (version : Version) (view : ℕ) (new : Session)
    → JobAnswers now heard old (calls.Commit number)
    (OfMachine (says.Installed key version view)) new
    → IsCommitted number now old new
committed now heard old number key version view new answers =
    by (kind_of now heard old (calls.Commit number)
    (OfMachine (says.Installed key version view)) new answers)
  where
    no_refusal : Refuses (job_refusals heard (job_shape_of old) (calls.Commit number)) old
        (OfMachine (says.Installed key version view)) new → true ≡ false
    no_refusal refused =
        given_reply IsNoEffect (job_refusals heard (job_shape_of old) (calls.Commit number)) old
        (OfMachine (says.Installed key version view)) new
        (refused_job heard (job_shape_of old) (calls.Commit number)) refused

    by : Kind now heard old (calls.Commit number) (OfMachine (says.Installed key version view)) new
        → IsCommitted number now old new
    by (IsMemory e is) = not_memory key version view e
    by (IsRefused refused is) = absurd (false≢true (sym (no_refusal refused)))
    by (IsDone passes done) =
        is_committed number now old (OfMachine (says.Installed key version view)) new passes done

-- ---- its files

module _ (number : ℕ) (old : Session) (sound : SoundSession old) (job : Job)
    (found : job_at number old.jobs ≡ Some job) (files originals : List ListedFile)
    (of_job : AreOfJob job files originals) where
  there : In job old.jobs
  there = (job_in number old.jobs job found).0

  its : IsSoundJob job
  its = all_in IsSoundJob old.jobs job sound.jobs there

  file_had : (file : ListedFile) → In file files → In file job.files
  file_had file of =
      in_contains job.files file (all_in (Contains job.files) files file of_job.had of)

  original_had : (file : ListedFile) → In file originals → In file job.files
  original_had file of =
      in_contains job.files file (all_in (Contains job.files) originals file of_job.had_data of)

  file_required : (file : ListedFile) → In file files → is_required file.entry ≡ true
  file_required file of =
      (filter_in is_required job.application.files file.entry
      (subst (λ (es : List FileEntry). In file.entry es) of_job.required
      (in_map (λ (f : ListedFile). f.entry) files file of))).0

  pub file_of_jobs : (file : ListedFile) → In file files → In file (program_files_in old.jobs)
  file_of_jobs file of =
      in_flat_map (λ (j : Job). filter (λ (f : ListedFile). is_required f.entry) j.files) old.jobs
      job file there
      (in_filter (λ (f : ListedFile). is_required f.entry) job.files file (file_required file of)
      (file_had file of))

  among : (file : ListedFile) → In file (program_files_of old.store ++ files)
      → In file (program_files_of old.store ++ program_files_in old.jobs)
  among file of = by (in_either (program_files_of old.store) files file of)
    where
      by : In file (program_files_of old.store) ⊎ In file files
          → In file (program_files_of old.store ++ program_files_in old.jobs)
      by (inl stands) =
          in_left (program_files_of old.store) (program_files_in old.jobs) file stands
      by (inr came) =
          in_right (program_files_of old.store) (program_files_in old.jobs) file
          (file_of_jobs file came)

  pub whole_files : AreFetched old.store job.application files originals
  whole_files = record {
    required = of_job.required;
    deployed = of_job.deployed;
    whole = in_all IsWhole files
        (λ file of. all_in IsWhole job.files file its.whole (file_had file of));
    whole_data = in_all IsWhole originals
        (λ file of. all_in IsWhole job.files file its.whole (original_had file of));
    shared = alike_each (program_files_of old.store ++ files)
        (λ f g a b. each_alike (program_files_of old.store ++ program_files_in old.jobs) sound.shared
        f g (among f a) (among g b));
  }

pub committed_files : (number now : ℕ) (old new : Session) (is : IsCommitted number now old new)
    → SoundSession old → AreFetched old.store is.job.application is.files is.originals
committed_files number now old new is sound =
    whole_files number old sound is.job is.found is.files is.originals is.of_job
