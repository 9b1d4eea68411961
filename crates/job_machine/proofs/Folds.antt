-- A run with jobs, against the run without them.
use Rattle.std.proofs.Common.{◌≡◌, ◌∙◌, ◌++◌, ◌||◌, inl, inr, refl, sym, ap, subst, Bool, true, false, cond, ℕ, List, [], ◌∷◌, All, Option, Some, None}
use Rattle.std.specs.Prelude.{option_map}
use Rattle.std.proofs.lemmas.List.Elements.{All-head, All-tail}
use Rattle.identity.specs.declared.key.Key.{Key}
use Rattle.machine.specs.declared.command.Command.{Command}
use Rattle.machine.specs.declared.command.Command.TheVariants.{Check, Install}
use Rattle.machine.specs.declared.event.Event.{Event}
use Rattle.machine.specs.declared.event.Event.TheVariants.{Boot, Line, Unread}
use Rattle.machine.specs.declared.event.Heard.{Heard}
use Rattle.machine.specs.declared.reply.Reply.{Reply}
use Rattle.machine.specs.declared.reply.Reply.TheVariants as says
use Rattle.machine.specs.CheckRow.{HearsOffer}
use Rattle.machine.specs.InstallRow.{HearsRelease}
use Rattle.machine.specs.Machine.{Hears, moment_after, refusals}
use Rattle.machine.specs.Rows.{PassesAll, Refuses}
use Rattle.machine.specs.Shape.{shape_of}
use Rattle.machine.specs.Store.{Session, Store, booted}
use Rattle.machine.proofs.FirstRefusal.{given_reply}
use Rattle.job_machine.specs.declared.command.JobCommand.{JobCommand}
use Rattle.job_machine.specs.declared.command.JobCommand.TheVariants as calls
use Rattle.job_machine.specs.CommitRow.{CommitEffect}
use Rattle.job_machine.specs.PlainRuns.{Becomes, CountsCheck, Happens, Installs, Leaves, LeavesOfCommit, Plain, PlainRun, BroughtRelease, RunLeaves, StepsAlone, counts_check, is_ok, plain_event}
use Rattle.job_machine.specs.JobWords.{IsSessionEvent}
use Rattle.job_machine.specs.Jobs.{job_shape_of}
use Rattle.job_machine.specs.Replies.{OfJob, OfMachine, SessionReply}
use Rattle.job_machine.specs.Sessions.{JobAnswers, JobLine, MachineEvent, SessionEvent, SessionRun, SessionStep, StepBeside, effect_beside, job_effect, job_refusals, refusals_beside, session_moment}
use Rattle.job_machine.specs.Settled.{SoundSessionWithJobs}
use Rattle.job_machine.proofs.Alone.{alone, effect_alone, effect_ok}
use Rattle.job_machine.proofs.PassesAlone.{passes_alone}
use Rattle.job_machine.proofs.RefusedLines as lines
use Rattle.job_machine.proofs.Refused.{IsNoEffect, refused_job}
use Rattle.job_machine.proofs.SoundSteps.{step_sound}
use Rattle.job_machine.proofs.Unchanged.{IsDone, IsMemory, IsRefused, Kind, kind_of, store_left}

-- what events make of stores, as far as lines from this session show it
pub record Serves (Makes : ℕ → Event → Option Reply → Store → Store → Type 0) (now : ℕ)
    (old : Session) : Type 0 where
  pub boots : (boot : ℕ) (new : Session) → new ≡ record old { store = booted boot old.store }
      → Makes now (Boot boot) None old.store new.store
  pub counts : (command : Command) (at : ℕ) (heard : Heard) (answer : Reply) (new : Session)
      → at ≡ now → Hears (shape_of old) command heard.texts
      → Refuses (refusals_beside now heard.texts (shape_of old) command) old answer new
      → CountsCheck command answer old.store new.store
      → Makes now (Line command at heard) (Some answer) old.store new.store
  pub does : (command : Command) (at : ℕ) (heard : Heard) (answer : Reply) (new : Session)
      → at ≡ now → Hears (shape_of old) command heard.texts
      → PassesAll (refusals_beside now heard.texts (shape_of old) command)
      → effect_beside now heard.texts command old answer new
      → Makes now (Line command at heard) (Some answer) old.store new.store

-- what is left of a step, and what it makes of a run that follows
pub record IsFolded (Makes : ℕ → Event → Option Reply → Store → Store → Type 0) (now : ℕ)
    (old : Session) (event : SessionEvent) (reply : Option SessionReply) (new : Session)
    : Type 0 where
  pub left : List Plain
  pub leaves : Leaves old event reply left
  pub runs : (rest : List Plain) (end : Store)
      → PlainRun Makes (session_moment now reply) new.store rest end
      → PlainRun Makes now old.store (left ++ rest) end

-- ---- what is left, by replies

-- a truth value that says what is left of a line
flag : (reply : Reply) (command : Command) (a b : Bool) → is_ok reply ≡ a
    → counts_check command reply ≡ b → (is_ok reply || counts_check command reply) ≡ (a || b)
flag reply command a b ok counts =
    ap (λ (t : Bool). t || counts_check command reply) ok ∙ ap (λ (t : Bool). a || t) counts

memory_uncounted : (command : Command) → counts_check command says.Memory ≡ false
memory_uncounted (Check key) = refl
memory_uncounted _ = refl

-- what a commit installs
abbrev release_of : {number now : ℕ} {old : Session} {reply : SessionReply} {new : Session}
    → CommitEffect number now old reply new → BroughtRelease
release_of done = record {
  url = done.job.url;
  base = done.job.base;
  deployment = done.job.deployment;
  application = done.job.application;
  files = done.files;
  originals = done.originals;
}

-- an answer without effect sets no moment
answer_moment : (now : ℕ) (answer : SessionReply) → IsNoEffect answer
    → session_moment now (Some answer) ≡ now
answer_moment now (OfMachine reply) is = lines.refusal_moment now reply is
answer_moment now (OfJob reply) is = refl

-- and of a commit nothing is left by it
uncommitted : (number : ℕ) (old : Session) (answer : SessionReply) → IsNoEffect answer
    → LeavesOfCommit number old (Some answer) []
uncommitted number old (OfMachine (says.Installed key version view)) is = absurd cc
uncommitted number old (OfMachine _) is = refl
uncommitted number old (OfJob reply) is = refl

module _ (Makes : ℕ → Event → Option Reply → Store → Store → Type 0) where
  -- a run from another moment and another store that are the same
  moved : (a b : ℕ) (x y : Store) (rest : List Plain) (end : Store) → a ≡ b → x ≡ y
      → PlainRun Makes a x rest end → PlainRun Makes b y rest end
  moved a b x y rest end moment store run =
      subst (λ (n : ℕ). PlainRun Makes n y rest end) moment
      (subst (λ (s : Store). PlainRun Makes a s rest end) store run)

  -- ---- lines of the machine

  module _ (now : ℕ) (old : Session) (serves : Serves Makes now old) (command : Command) (at : ℕ)
      (heard : Heard) (answer : Reply) (new : Session) (moment : at ≡ now)
      (hears : Hears (shape_of old) command heard.texts) where
    abbrev its_line : SessionEvent
    its_line = MachineEvent (Line command at heard)

    abbrev its_reply : Option SessionReply
    its_reply = Some (OfMachine answer)

    none_is : is_ok answer ≡ false → counts_check command answer ≡ false
        → [] ≡ plain_event (Line command at heard) (Some answer)
    none_is ok counts =
        sym (ap
        (λ (t : Bool). cond t (Happens (Line command at heard) (Some answer) ∷ []) [])
        (flag answer command false false ok counts))

    one_is : (a b : Bool) → is_ok answer ≡ a → counts_check command answer ≡ b → (a || b) ≡ true
        → Happens (Line command at heard) (Some answer) ∷ []
        ≡ plain_event (Line command at heard) (Some answer)
    one_is a b ok counts some =
        sym (ap
        (λ (t : Bool). cond t (Happens (Line command at heard) (Some answer) ∷ []) [])
        (flag answer command a b ok counts ∙ some))

    -- nothing is left where nothing changes
    dropped : is_ok answer ≡ false → counts_check command answer ≡ false → new ≡ old
        → IsFolded Makes now old its_line its_reply new
    dropped ok counts same = record {
      left = [];
      leaves = none_is ok counts;
      runs = λ rest end run.
          moved (moment_after now (Some answer)) now new.store old.store rest end
          (lines.refusal_moment now answer ok) (ap (λ (s : Session). s.store) same) run;
    }

    -- it is left
    stays : (a b : Bool) → is_ok answer ≡ a → counts_check command answer ≡ b → (a || b) ≡ true
        → Makes now (Line command at heard) (Some answer) old.store new.store
        → IsFolded Makes now old its_line its_reply new
    stays a b ok counts some makes = record {
      left = Happens (Line command at heard) (Some answer) ∷ [];
      leaves = one_is a b ok counts some;
      runs = λ rest end run. (new.store, makes, run);
    }

    line_folded : lines.Kind now heard.texts old command answer new
        → IsFolded Makes now old its_line its_reply new
    line_folded (lines.IsMemory e same) =
        dropped (ap is_ok e)
        (ap (λ (r : Reply). counts_check command r) e ∙ memory_uncounted command) same
    line_folded (lines.IsRefused refused) =
        by (lines.line_left now heard.texts old answer new command refused)
      where
        ok : is_ok answer ≡ false
        ok = lines.refused_reply now heard.texts old answer new command refused

        by : lines.Leaves command old answer new → IsFolded Makes now old its_line its_reply new
        by (inl same) = dropped ok same.0 same.1
        by (inr counts) =
            stays false true ok counts.0 refl
            (serves.counts command at heard answer new moment hears refused counts.1)
    line_folded (lines.IsDone passes done) =
        stays true (counts_check command answer)
        (effect_ok now heard.texts old answer new command done) refl refl
        (serves.does command at heard answer new moment hears passes done)

  -- ---- events of the machine

  machine_folded : (now : ℕ) (old : Session) → Serves Makes now old → (event : Event)
      (said : Option Reply) (new : Session) → StepBeside now old event said new
      → IsFolded Makes now old (MachineEvent event) (option_map OfMachine said) new
  machine_folded now old serves (Boot boot) said new step =
      subst
      (λ (r : Option Reply).
      IsFolded Makes now old (MachineEvent (Boot boot)) (option_map OfMachine r) new)
      (sym step.0) (record {
        left = Happens (Boot boot) None ∷ [];
        leaves = refl;
        runs = λ rest end run. (new.store, serves.boots boot new step.1, run);
      })
  machine_folded now old serves (Line command at heard) said new step =
      subst
      (λ (r : Option Reply).
      IsFolded Makes now old (MachineEvent (Line command at heard)) (option_map OfMachine r) new)
      (sym step.replied)
      (line_folded now old serves command at heard step.answer new step.moment step.hears
      (lines.kind_of now heard.texts old command step.answer new step.answers))
  machine_folded now old serves (Unread fault) said new step =
      subst
      (λ (r : Option Reply).
      IsFolded Makes now old (MachineEvent (Unread fault)) (option_map OfMachine r) new)
      (sym step.0) (record {
        left = [];
        leaves = refl;
        runs = λ rest end run.
            moved now now new.store old.store rest end refl (ap (λ (s : Session). s.store) step.1)
            run;
      })

  -- ---- lines of jobs

  module _ (now : ℕ) (old : Session) (at : ℕ) (heard : Heard) (answer : SessionReply)
      (new : Session) where
    abbrev line : JobCommand → SessionEvent
    line command = JobLine command at heard

    -- nothing is left where the store stays
    passed : (command : JobCommand) → Leaves old (line command) (Some answer) []
        → IsNoEffect answer → new.store ≡ old.store
        → IsFolded Makes now old (line command) (Some answer) new
    passed command leaves is same = record {
      left = [];
      leaves = leaves;
      runs = λ rest end run.
          moved (session_moment now (Some answer)) now new.store old.store rest end
          (answer_moment now answer is) same run;
    }

    -- an answer has none, where the effect of the row has not
    no_effect : (command : JobCommand) → Kind now heard.texts old command answer new
        → (job_effect now heard.texts command old answer new → IsNoEffect answer) → IsNoEffect answer
    no_effect command (IsMemory e same) done = subst IsNoEffect (sym e) refl
    no_effect command (IsRefused refused same) done =
        given_reply IsNoEffect (job_refusals heard.texts (job_shape_of old) command) old answer new
        (refused_job heard.texts (job_shape_of old) command) refused
    no_effect command (IsDone passes effect) done = done effect

    commit_folded : (number : ℕ) → Kind now heard.texts old (calls.Commit number) answer new
        → IsFolded Makes now old (line (calls.Commit number)) (Some answer) new
    commit_folded number (IsMemory e same) =
        let is = subst IsNoEffect (sym e) refl in
        passed (calls.Commit number) (uncommitted number old answer is) is
        (ap (λ (s : Session). s.store) same)
    commit_folded number (IsRefused refused same) =
        let is = given_reply IsNoEffect
        (job_refusals heard.texts (job_shape_of old) (calls.Commit number)) old answer new
        (refused_job heard.texts (job_shape_of old) (calls.Commit number)) refused in
        passed (calls.Commit number) (uncommitted number old answer is) is
        (ap (λ (s : Session). s.store) same)
    commit_folded number (IsDone passes done) =
        subst
        (λ (r : SessionReply). IsFolded Makes now old (line (calls.Commit number)) (Some r) new)
        (sym done.replied) (record {
          left = Installs (release_of done) ∷ [];
          leaves = record {
            job = done.job;
            found = done.found;
            files = done.files;
            originals = done.originals;
            of_job = done.of_job;
            is = refl;
          };
          runs = λ rest end run. (
            done.store,
            done.installed,
            moved now now new.store done.store rest end refl
                (ap (λ (s : Session). s.store) done.is) run,
          );
        })

    job_folded : (command : JobCommand) → JobAnswers now heard.texts old command answer new
        → IsFolded Makes now old (line command) (Some answer) new
    job_folded (calls.Begin url) answers =
        passed (calls.Begin url) refl
        (no_effect (calls.Begin url) (kind_of now heard.texts old (calls.Begin url) answer new answers)
        (λ done. subst IsNoEffect (sym done.replied) tt))
        (store_left.begin now heard.texts old url answer new answers)
    job_folded (calls.Step number) answers =
        passed (calls.Step number) refl
        (no_effect (calls.Step number)
        (kind_of now heard.texts old (calls.Step number) answer new answers)
        (λ done. subst IsNoEffect (sym done.replied) tt))
        (store_left.step now heard.texts old number answer new answers)
    job_folded (calls.Commit number) answers =
        commit_folded number (kind_of now heard.texts old (calls.Commit number) answer new answers)
    job_folded (calls.Abandon number) answers =
        passed (calls.Abandon number) refl
        (no_effect (calls.Abandon number)
        (kind_of now heard.texts old (calls.Abandon number) answer new answers)
        (λ done. subst IsNoEffect (sym done.0) tt))
        (store_left.abandon now heard.texts old number answer new answers)

  -- ---- runs

  step_folded : (now : ℕ) (old : Session) → Serves Makes now old → (event : SessionEvent)
      (reply : Option SessionReply) (new : Session) → SessionStep now old event reply new
      → IsFolded Makes now old event reply new
  step_folded now old serves (MachineEvent event) reply new step =
      subst (λ (r : Option SessionReply). IsFolded Makes now old (MachineEvent event) r new)
      (sym step.1) (machine_folded now old serves event step.0 new step.2)
  step_folded now old serves (JobLine command at heard) reply new step =
      subst (λ (r : Option SessionReply). IsFolded Makes now old (JobLine command at heard) r new)
      (sym step.replied)
      (job_folded now old at heard step.answer new command step.answers)

  -- where lines of each session of the run show it
  module _ (Holds : Session → Type 0) (Fits : SessionEvent → Type 0)
      (serves : (now : ℕ) (old : Session) → Holds old → Serves Makes now old)
      (keeps : (now : ℕ) (old : Session) (event : SessionEvent) (reply : Option SessionReply)
      (new : Session) → Fits event → SessionStep now old event reply new → Holds old → Holds new) where
    run_folds : (now : ℕ) (old : Session) (events : List SessionEvent)
        (replies : List (Option SessionReply)) (new : Session)
        (run : SessionRun now old events replies new) → All Fits events → Holds old
        → (left : List Plain) × RunLeaves now old events replies new run left
        × PlainRun Makes now old.store left new.store
    run_folds now old [] [] new run fits holds = ([], refl, ap (λ (s : Session). s.store) run)
    run_folds now old [] (reply ∷ replies) new run fits holds = absurd run
    run_folds now old (event ∷ events) [] new run fits holds = absurd run
    run_folds now old (event ∷ events) (reply ∷ replies) new run fits holds =
        let one = step_folded now old (serves now old holds) event reply run.0 run.1 in
        let rest = run_folds (session_moment now reply) run.0 events replies new run.2
        (All-tail Fits event events fits)
        (keeps now old event reply run.0 (All-head Fits event events fits) run.1 holds) in (
          one.left ++ rest.0,
          (one.left, rest.0, refl, one.leaves, rest.1),
          one.runs rest.0 new.store rest.2,
        )

-- ---- by effects

becomes : (now : ℕ) (old : Session) → Serves Becomes now old
becomes now old = record {
  boots = λ boot new is. ap (λ (s : Session). s.store) is;
  counts = λ command at heard answer new moment hears refused counts. (moment, inr counts);
  does = λ command at heard answer new moment hears passes done.
      (moment, inl (effect_alone now heard.texts old answer new command done));
}

pub folds : (now : ℕ) (old : Session) (events : List SessionEvent)
    (replies : List (Option SessionReply)) (new : Session)
    (run : SessionRun now old events replies new)
    → (left : List Plain) × RunLeaves now old events replies new run left
    × PlainRun Becomes now old.store left new.store
folds now old events replies new run =
    run_folds Becomes (λ s. Unit {0}) (λ e. Unit {0}) (λ n s holds. becomes n s)
    (λ n s event reply later fits step holds. tt) now old events replies new run (λ k e within. tt) tt

-- ---- by the machine

-- what a command may hear, it may hear without jobs
release_alone : (old : Session) (url : List ℕ) (heard : List (List ℕ))
    → HearsRelease url (shape_of old) heard → HearsRelease url (shape_of (alone old)) heard
release_alone old url [] hears = hears
release_alone old url (first ∷ []) hears = hears
release_alone old url (first ∷ second ∷ []) hears = hears
release_alone old url (first ∷ second ∷ third ∷ others) hears = hears

offer_alone : (old : Session) (key : Key) (heard : List (List ℕ))
    → HearsOffer key (shape_of old) heard → HearsOffer key (shape_of (alone old)) heard
offer_alone old key [] hears = hears
offer_alone old key (first ∷ []) hears = hears
offer_alone old key (first ∷ second ∷ others) hears = hears

hears_alone : (old : Session) (command : Command) (heard : List (List ℕ))
    → Hears (shape_of old) command heard → Hears (shape_of (alone old)) command heard
hears_alone old (Install url) heard hears = release_alone old url heard hears
hears_alone old (Check key) heard hears = offer_alone old key heard hears
hears_alone old command heard hears = hears

-- a check that counts as made is refused so without jobs
check_alone : (now : ℕ) (heard : List (List ℕ)) (old : Session) (key : Key) (answer : Reply)
    (new : Session) → Refuses (refusals_beside now heard (shape_of old) (Check key)) old answer new
    → Refuses (refusals now heard (shape_of (alone old)) (Check key)) (alone old) answer (alone new)
check_alone now heard old key answer new (inl given) = inl (given.0, ap alone given.1)
check_alone now heard old key answer new (inr (a, inl given)) =
    inr (a, inl (given.0, ap alone given.1))
check_alone now heard old key answer new (inr (a, inr (b, inl given))) =
    inr (a, inr (b, inl (given.0, ap alone given.1)))
check_alone now heard old key answer new (inr (a, inr (b, inr (c, inl given)))) =
    inr (a, inr (b, inr (c, inl (given.0, ap alone given.1))))
check_alone now heard old key answer new (inr (a, inr (b, inr (c, inr none)))) = absurd none.1

counted_alone : (now : ℕ) (heard : List (List ℕ)) (old : Session) (command : Command)
    (answer : Reply) (new : Session)
    → Refuses (refusals_beside now heard (shape_of old) command) old answer new
    → CountsCheck command answer old.store new.store
    → Refuses (refusals now heard (shape_of (alone old)) command) (alone old) answer (alone new)
counted_alone now heard old (Check key) answer new refused counts =
    check_alone now heard old key answer new refused
counted_alone now heard old command answer new refused counts = absurd counts

alone_serves : (now : ℕ) (old : Session) → SoundSessionWithJobs old → Serves StepsAlone now old
alone_serves now old was = record {
  boots = λ boot new is. (refl, ap alone is);
  counts = λ command at heard answer new moment hears refused counts. record {
    moment = moment;
    hears = hears_alone old command heard.texts hears;
    answer = answer;
    replied = refl;
    answers = inl (inr (tt, counted_alone now heard.texts old command answer new refused counts));
  };
  does = λ command at heard answer new moment hears passes done. record {
    moment = moment;
    hears = hears_alone old command heard.texts hears;
    answer = answer;
    replied = refl;
    answers = inr (
      (tt, passes_alone old was.sound.room heard.texts now command passes),
      effect_alone now heard.texts old answer new command done,
    );
  };
}

pub folds_alone : (now : ℕ) (old : Session) (events : List SessionEvent)
    (replies : List (Option SessionReply)) (new : Session)
    (run : SessionRun now old events replies new)
    → All IsSessionEvent events → SoundSessionWithJobs old
    → (left : List Plain) × RunLeaves now old events replies new run left
    × PlainRun StepsAlone now old.store left new.store
folds_alone now old events replies new run fits was =
    run_folds StepsAlone SoundSessionWithJobs IsSessionEvent alone_serves step_sound now old events
    replies new run fits was
