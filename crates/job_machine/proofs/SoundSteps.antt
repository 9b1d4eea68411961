-- Steps keep a session sound whose jobs are open.
use Rattle.std.proofs.Common.{◌≡◌, ◌≤◌, sym, subst, ℕ, List, [], All, Option, arith, ◌∷◌}
use Rattle.std.proofs.lemmas.List.Elements.{All-head, All-tail}
use Rattle.small_types.specs.declared.limits.TheConstants.{NUMBER_LIMIT}
use Rattle.machine.specs.declared.command.Command.TheVariants.{Install, Group}
use Rattle.machine.specs.declared.event.Event.{Event}
use Rattle.machine.specs.declared.event.Event.TheVariants.{Boot, Line, Unread}
use Rattle.machine.specs.declared.reply.Reply.{Reply}
use Rattle.machine.specs.Laws.{FetchesWithoutJobs}
use Rattle.machine.specs.Machine.{Step}
use Rattle.machine.specs.Shape.{shape_of}
use Rattle.machine.specs.SoundSession.{SoundSession}
use Rattle.machine.specs.Store.{Session}
use Rattle.machine.specs.Words.{IsCommand, IsEvent}
use Rattle.machine.proofs.FirstRefusal.{unchanged}
use Rattle.machine.proofs.Sessions.{step_jobs, step_session}
use Rattle.job_machine.specs.declared.command.JobCommand.{JobCommand}
use Rattle.job_machine.specs.declared.command.JobCommand.TheVariants as calls
use Rattle.job_machine.specs.JobWords.{IsSessionEvent}
use Rattle.job_machine.specs.Replies.{SessionReply}
use Rattle.job_machine.specs.Sessions.{JobLine, MachineEvent, SessionEvent, SessionRun, SessionStep, StepBeside, refusals_beside, session_moment}
use Rattle.job_machine.specs.Settled.{IsSettled, SoundSessionWithJobs}
use Rattle.job_machine.proofs.BeginSound.{begun_sound}
use Rattle.job_machine.proofs.BesideSound.{group_sound, install_sound}
use Rattle.job_machine.proofs.CommitSound.{left_sound}
use Rattle.job_machine.proofs.OpenJobs.{job_in}
use Rattle.job_machine.proofs.RefusedLines as lines
use Rattle.job_machine.proofs.SoundParts.{abandoned}
use Rattle.job_machine.proofs.StepSound.{stepped_sound}
use Rattle.job_machine.proofs.Unchanged.{IsDone, IsMemory, IsRefused, Kind, kind_of}

-- ---- a session without jobs

pub begins_sound : (session : Session) → session.jobs ≡ [] → SoundSession session
    → SoundSessionWithJobs session
begins_sound session none sound = record {
  sound = sound;
  settled = subst (All IsSettled) (sym none) (λ k d within. absurd (omega arith));
}

-- ---- lines of the machine

limit : (now at : ℕ) → at ≡ now → at ≤ NUMBER_LIMIT → now ≤ NUMBER_LIMIT
limit now at same few = subst (λ (n : ℕ). n ≤ NUMBER_LIMIT) same few

-- what is as it was is sound as it was
as_was : (old new : Session) → new ≡ old → SoundSessionWithJobs old → SoundSessionWithJobs new
as_was old new same was = subst SoundSessionWithJobs (sym same) was

install_line : (now : ℕ) (heard : List (List ℕ)) (old : Session) (url : List ℕ) (reply : Reply)
    (new : Session) → SoundSessionWithJobs old → IsCommand (Install url) → now ≤ NUMBER_LIMIT
    → lines.Kind now heard old (Install url) reply new → SoundSessionWithJobs new
install_line now heard old url reply new was is few (lines.IsMemory e same) = as_was old new same was
install_line now heard old url reply new was is few (lines.IsRefused refused) =
    as_was old new
    (unchanged (refusals_beside now heard (shape_of old) (Install url)) old reply new
    (lines.install_same now heard (shape_of old) url) refused) was
install_line now heard old url reply new was is few (lines.IsDone passes done) =
    install_sound now heard old url reply new was is few passes done

group_line : (now : ℕ) (heard : List (List ℕ)) (old : Session) (lease : ℕ) (group : List ℕ)
    (reply : Reply) (new : Session) → SoundSessionWithJobs old → IsCommand (Group lease group)
    → now ≤ NUMBER_LIMIT → lines.Kind now heard old (Group lease group) reply new
    → SoundSessionWithJobs new
group_line now heard old lease group reply new was is few (lines.IsMemory e same) =
    as_was old new same was
group_line now heard old lease group reply new was is few (lines.IsRefused refused) =
    as_was old new
    (unchanged (refusals_beside now heard (shape_of old) (Group lease group)) old reply new
    (lines.group_same now heard (shape_of old) lease group) refused) was
group_line now heard old lease group reply new was is few (lines.IsDone passes done) =
    group_sound now heard old lease group reply new was is few passes done

-- any other line, and any other event, is one of the machine
by_machine : (now : ℕ) (old : Session) (event : Event) (said : Option Reply) (new : Session)
    → IsEvent event → Step now old event said new → FetchesWithoutJobs event old
    → SoundSessionWithJobs old → SoundSessionWithJobs new
by_machine now old event said new is step none was = record {
  sound = step_session now old event said new is step none was.sound;
  settled = subst (All IsSettled) (sym (step_jobs now old event said new step)) was.settled;
}

beside_sound : (now : ℕ) (old : Session) (event : Event) (said : Option Reply) (new : Session)
    → IsEvent event → StepBeside now old event said new → SoundSessionWithJobs old
    → SoundSessionWithJobs new
beside_sound now old (Boot boot) said new is step was =
    by_machine now old (Boot boot) said new is step tt was
beside_sound now old (Unread fault) said new is step was =
    by_machine now old (Unread fault) said new is step tt was
beside_sound now old (Line (Install url) at heard) said new is step was =
    install_line now heard.texts old url step.answer new was is.0 (limit now at step.moment is.1)
    (lines.kind_of now heard.texts old (Install url) step.answer new step.answers)
beside_sound now old (Line (Group lease group) at heard) said new is step was =
    group_line now heard.texts old lease group step.answer new was is.0
    (limit now at step.moment is.1)
    (lines.kind_of now heard.texts old (Group lease group) step.answer new step.answers)
beside_sound now old (Line command at heard) said new is step was =
    by_machine now old (Line command at heard) said new is (record {
      moment = step.moment;
      hears = step.hears;
      answer = step.answer;
      replied = step.replied;
      answers = step.answers;
    }) tt was

-- ---- lines of jobs

job_sound : (now : ℕ) (heard : List (List ℕ)) (old : Session) (command : JobCommand)
    (reply : SessionReply) (new : Session) → SoundSessionWithJobs old → now ≤ NUMBER_LIMIT
    → Kind now heard old command reply new → SoundSessionWithJobs new
job_sound now heard old command reply new was few (IsMemory e same) = as_was old new same was
job_sound now heard old command reply new was few (IsRefused refused same) = as_was old new same was
job_sound now heard old (calls.Begin url) reply new was few (IsDone passes done) =
    begun_sound url heard old reply new was passes done
job_sound now heard old (calls.Step number) reply new was few (IsDone passes done) =
    let known = job_in number old.jobs done.job done.found in
    subst SoundSessionWithJobs (sym done.is)
    (stepped_sound number old was done.job known.0 known.1 done.entry done.rest done.first done.bytes
    done.fetched)
job_sound now heard old (calls.Commit number) reply new was few (IsDone passes done) =
    left_sound number now old reply new was few passes done
job_sound now heard old (calls.Abandon number) reply new was few (IsDone passes done) =
    subst SoundSessionWithJobs (sym done.1) (abandoned number old was)

-- ---- steps

pub step_sound : (now : ℕ) (old : Session) (event : SessionEvent) (reply : Option SessionReply)
    (new : Session) → IsSessionEvent event → SessionStep now old event reply new
    → SoundSessionWithJobs old → SoundSessionWithJobs new
step_sound now old (MachineEvent event) reply new is step was =
    beside_sound now old event step.0 new is step.2 was
step_sound now old (JobLine command at heard) reply new is step was =
    job_sound now heard.texts old command step.answer new was (limit now at step.moment is.1)
    (kind_of now heard.texts old command step.answer new step.answers)

-- ---- runs

pub run_sound : (now : ℕ) (old : Session) (events : List SessionEvent)
    (replies : List (Option SessionReply)) (new : Session) → All IsSessionEvent events
    → SessionRun now old events replies new → SoundSessionWithJobs old → SoundSessionWithJobs new
run_sound now old [] [] new each run was = as_was old new run was
run_sound now old [] (reply ∷ replies) new each run was = absurd run
run_sound now old (event ∷ events) [] new each run was = absurd run
run_sound now old (event ∷ events) (reply ∷ replies) new each run was =
    run_sound (session_moment now reply) run.0 events replies new
    (All-tail IsSessionEvent event events each) run.2
    (step_sound now old event reply run.0 (All-head IsSessionEvent event events each) run.1 was)
