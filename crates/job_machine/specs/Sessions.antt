-- Sessions with jobs: what a line of jobs may answer, what a line of the machine may answer beside
-- them, and one step after another.
use Rattle.std.specs.Prelude.{◌≡◌, ℕ, List, [], ◌∷◌, Option, Some, None, option_map}
use Rattle.machine.specs.declared.command.Command.{Command}
use Rattle.machine.specs.declared.command.Command.TheVariants.{Install, Group}
use Rattle.machine.specs.declared.event.Event.{Event}
use Rattle.machine.specs.declared.event.Event.TheVariants.{Line}
use Rattle.machine.specs.declared.event.Heard.{Heard}
use Rattle.machine.specs.declared.reply.Reply.{Reply}
use Rattle.machine.specs.declared.reply.Reply.TheVariants as says
use Rattle.machine.specs.Machine.{Hears, Step, effect, moment_after, refusals}
use Rattle.machine.specs.Rows.{FirstOf, Refusal, maybe}
use Rattle.machine.specs.Shape.{Shape, shape_of}
use Rattle.machine.specs.Store.{Session}
use Rattle.job_machine.specs.declared.command.JobCommand.{JobCommand}
use Rattle.job_machine.specs.declared.command.JobCommand.TheVariants as asks
use Rattle.job_machine.specs.AbandonRow.{abandon_effect, abandon_refusals}
use Rattle.job_machine.specs.BeginRow.{BeginEffect, HearsBegin, begin_refusals}
use Rattle.job_machine.specs.CommitRow.{CommitEffect, commit_refusals}
use Rattle.job_machine.specs.GroupBeside.{GroupsBeside, group_refusals_beside}
use Rattle.job_machine.specs.InstallBeside.{InstallsBeside, install_refusals_beside}
use Rattle.job_machine.specs.Jobs.{JobShape, job_shape_of}
use Rattle.job_machine.specs.Replies.{OfMachine, SessionReply}
use Rattle.job_machine.specs.StepRow.{StepEffect, step_refusals}

-- ---- lines of jobs

-- the manifest texts that it may hear: `begin` hears some, any other none
abbrev pub JobHears : JobShape → JobCommand → List (List ℕ) → Type 0
JobHears session (asks.Begin url) heard = HearsBegin url session heard
JobHears session (asks.Step number) heard = heard ≡ []
JobHears session (asks.Commit number) heard = heard ≡ []
JobHears session (asks.Abandon number) heard = heard ≡ []

-- its refusals in their order
abbrev pub job_refusals :
    List (List ℕ) → JobShape → JobCommand → List (Refusal SessionReply Session)
job_refusals heard session (asks.Begin url) = begin_refusals url heard session
job_refusals heard session (asks.Step number) = step_refusals number session
job_refusals heard session (asks.Commit number) = commit_refusals number session
job_refusals heard session (asks.Abandon number) = abandon_refusals number session

-- its effect where none of them holds
abbrev pub job_effect :
    ℕ → List (List ℕ) → JobCommand → Session → SessionReply → Session → Type 0
job_effect now heard (asks.Begin url) = BeginEffect url heard
job_effect now heard (asks.Step number) = StepEffect number
job_effect now heard (asks.Commit number) = CommitEffect number now
job_effect now heard (asks.Abandon number) = abandon_effect number

-- It may find no memory, which changes nothing. Else the first refusal that holds is the reply, and
-- where none holds the effect is that of the row.
abbrev pub JobAnswers :
    ℕ → List (List ℕ) → Session → JobCommand → SessionReply → Session → Type 0
JobAnswers now heard old command reply new =
    FirstOf (maybe (OfMachine says.Memory) ∷ job_refusals heard (job_shape_of old) command)
    (job_effect now heard command) old reply new

-- ---- lines of the machine beside open jobs

-- an install and a group need no block for what jobs count; all others are refused as ever
abbrev pub refusals_beside :
    ℕ → List (List ℕ) → Shape → Command → List (Refusal Reply Session)
refusals_beside now heard shape (Install url) = install_refusals_beside url heard shape
refusals_beside now heard shape (Group lease group) = group_refusals_beside lease group shape
refusals_beside now heard shape command = refusals now heard shape command

-- and what they fetch agrees with what jobs have
abbrev pub effect_beside :
    ℕ → List (List ℕ) → Command → Session → Reply → Session → Type 0
effect_beside now heard (Install url) = InstallsBeside url heard now
effect_beside now heard (Group lease group) = GroupsBeside lease group
effect_beside now heard command = effect now heard command

abbrev pub AnswersBeside : ℕ → List (List ℕ) → Session → Command → Reply → Session → Type 0
AnswersBeside now heard old command reply new =
    FirstOf (maybe says.Memory ∷ refusals_beside now heard (shape_of old) command)
    (effect_beside now heard command) old reply new

-- ---- events

-- an event of the machine, or a line of jobs at a moment, with what it heard
pub data SessionEvent : Type 0 where
  MachineEvent : Event → SessionEvent
  JobLine : JobCommand → ℕ → Heard → SessionEvent

-- a line of the machine is run at the session's moment, hears what its command may hear, and is
-- answered
pub record IsLineBeside (now : ℕ) (old : Session) (command : Command) (at : ℕ) (heard : Heard)
    (reply : Option Reply) (new : Session) : Type 0 where
  pub moment : at ≡ now
  pub hears : Hears (shape_of old) command heard.texts
  pub answer : Reply
  pub replied : reply ≡ Some answer
  pub answers : AnswersBeside now heard.texts old command answer new

-- and so is one of jobs
pub record IsJobLine (now : ℕ) (old : Session) (command : JobCommand) (at : ℕ) (heard : Heard)
    (reply : Option SessionReply) (new : Session) : Type 0 where
  pub moment : at ≡ now
  pub hears : JobHears (job_shape_of old) command heard.texts
  pub answer : SessionReply
  pub replied : reply ≡ Some answer
  pub answers : JobAnswers now heard.texts old command answer new

-- a boot and a line that is no command are as ever
abbrev pub StepBeside : ℕ → Session → Event → Option Reply → Session → Type 0
StepBeside now old (Line command at heard) reply new =
    IsLineBeside now old command at heard reply new
StepBeside now old event reply new = Step now old event reply new

-- from old, the event may give this reply at this moment and lead to new
abbrev pub SessionStep : ℕ → Session → SessionEvent → Option SessionReply → Session → Type 0
SessionStep now old (MachineEvent event) reply new =
    (said : Option Reply) × (reply ≡ option_map OfMachine said)
    × StepBeside now old event said new
SessionStep now old (JobLine command at heard) reply new =
    IsJobLine now old command at heard reply new

-- what the machine says of a reply
abbrev pub machine_reply : Option SessionReply → Option Reply
machine_reply (Some (OfMachine reply)) = Some reply
machine_reply _ = None

-- the moment of the next line
abbrev pub session_moment : ℕ → Option SessionReply → ℕ
session_moment now reply = moment_after now (machine_reply reply)

-- one step after another, from a moment on
abbrev pub SessionRun :
    ℕ → Session → List SessionEvent → List (Option SessionReply) → Session → Type 0
SessionRun now old [] [] new = new ≡ old
SessionRun now old [] (reply ∷ replies) new = ⊥
SessionRun now old (event ∷ events) [] new = ⊥
SessionRun now old (event ∷ events) (reply ∷ replies) new =
    (mid : Session) × SessionStep now old event reply mid
    × SessionRun (session_moment now reply) mid events replies new
