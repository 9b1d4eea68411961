-- The run of a session with its jobs left out: each line that begins, advances or abandons a job is
-- dropped, and each that commits one is an install of its release.
use Rattle.std.specs.Prelude.{◌≡◌, ◌⊎◌, ◌||◌, ℕ, Bool, true, false, List, [], ◌∷◌, ◌++◌, All, Option, Some, None, if◌then◌else◌}
use Rattle.small_types.specs.declared.target.Target.{Target}
use Rattle.manifests.specs.declared.facts.Application.{Application}
use Rattle.manifests.specs.declared.facts.Deployment.{Deployment}
use Rattle.machine.specs.declared.command.Command.{Command}
use Rattle.machine.specs.declared.command.Command.TheVariants.{Check}
use Rattle.machine.specs.declared.event.Event.{Event}
use Rattle.machine.specs.declared.event.Event.TheVariants.{Boot, Line, Unread}
use Rattle.machine.specs.declared.reply.Reply.{Reply}
use Rattle.machine.specs.declared.reply.Reply.TheVariants as says
use Rattle.machine.specs.CheckRow.{unheard_store}
use Rattle.machine.specs.Installed.{Installed}
use Rattle.machine.specs.Machine.{Step, effect, moment_after}
use Rattle.machine.specs.Store.{Job, Session, Store, booted, session_over}
use Rattle.machine.specs.Views.{ListedFile}
use Rattle.job_machine.specs.declared.command.JobCommand.TheVariants as asks
use Rattle.job_machine.specs.CommitRow.{AreOfJob}
use Rattle.job_machine.specs.Jobs.{job_at}
use Rattle.job_machine.specs.JobWords.{IsSessionEvent}
use Rattle.job_machine.specs.Replies.{OfMachine, SessionReply}
use Rattle.job_machine.specs.Sessions.{JobLine, MachineEvent, SessionEvent, SessionRun, machine_reply, session_moment}
use Rattle.job_machine.specs.Settled.{SoundSessionWithJobs}

-- ---- a run without jobs

-- a release that was read at an address, with the files that it brings
pub record BroughtRelease : Type 0 where
  pub url : Target
  pub base : Target
  pub deployment : Deployment
  pub application : Application
  pub files : List ListedFile
  pub originals : List ListedFile

-- an event of the machine with its reply, or an install of a release
pub data Plain : Type 0 where
  Happens : Event → Option Reply → Plain
  Installs : BroughtRelease → Plain

-- no link answered a check, which counts as made
abbrev pub CountsCheck : Command → Reply → Store → Store → Type 0
CountsCheck (Check key) (says.AllLinks target causes) old new = new ≡ unheard_store key old
CountsCheck _ _ old new = ⊥

-- what becomes of a store by an event: a boot; a line at this moment, by the effect of its row, or
-- a check that counts as made
abbrev pub Becomes : ℕ → Event → Option Reply → Store → Store → Type 0
Becomes now (Boot boot) None old new = new ≡ booted boot old
Becomes now (Line command at heard) (Some reply) old new =
    (at ≡ now)
    × (effect now heard.texts command (session_over old) reply (session_over new)
    ⊎ CountsCheck command reply old new)
Becomes now _ _ old new = ⊥

-- the same as a step of the machine in a session that has no job
abbrev pub StepsAlone : ℕ → Event → Option Reply → Store → Store → Type 0
StepsAlone now event reply old new = Step now (session_over old) event reply (session_over new)

-- one after another, from a moment on, where events make this of stores
abbrev pub PlainRun : (ℕ → Event → Option Reply → Store → Store → Type 0)
    → ℕ → Store → List Plain → Store → Type 0
PlainRun Makes now old [] new = new ≡ old
PlainRun Makes now old (Happens event reply ∷ plains) new =
    (mid : Store) × Makes now event reply old mid
    × PlainRun Makes (moment_after now reply) mid plains new
PlainRun Makes now old (Installs release ∷ plains) new =
    (mid : Store)
    × Installed release.url release.base release.deployment release.application release.files
    release.originals now old mid
    × PlainRun Makes now mid plains new

-- ---- what is left of a run

-- the reply is that of a line that is not refused
abbrev pub is_ok : Reply → Bool
is_ok (says.At now) = true
is_ok (says.Minimum version) = true
is_ok (says.Installed key version view) = true
is_ok (says.Checked offer minimum) = true
is_ok (says.Skipped version) = true
is_ok (says.Current version) = true
is_ok (says.Lease lease version check_due) = true
is_ok (says.Read length bytes) = true
is_ok says.Put = true
is_ok says.Removed = true
is_ok (says.Group files) = true
is_ok (says.Finished lease) = true
is_ok (says.Cleaned views) = true
is_ok (says.Listed rows) = true
is_ok (says.Shown row) = true
is_ok _ = false

-- a check that is refused so counts as made
abbrev pub counts_check : Command → Reply → Bool
counts_check (Check key) (says.AllLinks target causes) = true
counts_check _ _ = false

-- of a boot it is left, and of a line that is not refused, or is a check that counts as made
abbrev pub plain_event : Event → Option Reply → List Plain
plain_event (Boot boot) reply = Happens (Boot boot) reply ∷ []
plain_event (Line command at heard) (Some reply) =
    if is_ok reply || counts_check command reply
    then Happens (Line command at heard) (Some reply) ∷ [] else []
plain_event (Line command at heard) None = []
plain_event (Unread fault) reply = []

-- a commit that is not refused is an install of the release of its job
pub record LeavesInstall (number : ℕ) (old : Session) (left : List Plain) : Type 0 where
  pub job : Job
  pub found : job_at number old.jobs ≡ Some job
  pub files : List ListedFile
  pub originals : List ListedFile
  pub of_job : AreOfJob job files originals
  pub is : left ≡ Installs (record {
    url = job.url;
    base = job.base;
    deployment = job.deployment;
    application = job.application;
    files = files;
    originals = originals;
  }) ∷ []

abbrev pub LeavesOfCommit : ℕ → Session → Option SessionReply → List Plain → Type 0
LeavesOfCommit number old (Some (OfMachine (says.Installed key version view))) left =
    LeavesInstall number old left
LeavesOfCommit number old _ left = left ≡ []

-- what is left of a step from this session
abbrev pub Leaves : Session → SessionEvent → Option SessionReply → List Plain → Type 0
Leaves old (MachineEvent event) reply left = left ≡ plain_event event (machine_reply reply)
Leaves old (JobLine (asks.Begin url) at heard) reply left = left ≡ []
Leaves old (JobLine (asks.Step number) at heard) reply left = left ≡ []
Leaves old (JobLine (asks.Commit number) at heard) reply left =
    LeavesOfCommit number old reply left
Leaves old (JobLine (asks.Abandon number) at heard) reply left = left ≡ []

-- and of this very run
abbrev pub RunLeaves : (now : ℕ) (old : Session) (events : List SessionEvent)
    (replies : List (Option SessionReply)) (new : Session)
    → SessionRun now old events replies new → List Plain → Type 0
RunLeaves now old [] [] new run left = left ≡ []
RunLeaves now old [] (reply ∷ replies) new run left = ⊥
RunLeaves now old (event ∷ events) [] new run left = ⊥
RunLeaves now old (event ∷ events) (reply ∷ replies) new run left =
    (first : List Plain) × (rest : List Plain) × (left ≡ first ++ rest)
    × Leaves old event reply first
    × RunLeaves (session_moment now reply) run.0 events replies new run.2 rest

-- For every interleaving of lines the store after the run is that of the run in which begin, step
-- and abandon are left out, and each commit that is not refused is an install of its job's release,
-- at its place and moment.
abbrev pub RunsFold : Type 0
RunsFold = (now : ℕ) (old : Session) (events : List SessionEvent)
    (replies : List (Option SessionReply)) (new : Session)
    (run : SessionRun now old events replies new)
    → (left : List Plain) × RunLeaves now old events replies new run left
    × PlainRun Becomes now old.store left new.store

-- From a sound session each line that is left is even answered by the machine, in a session that
-- has no job: what jobs count makes no line come that would not come without them.
abbrev pub RunsAreOfTheMachine : Type 0
RunsAreOfTheMachine = (now : ℕ) (old : Session) (events : List SessionEvent)
    (replies : List (Option SessionReply)) (new : Session)
    (run : SessionRun now old events replies new)
    → All IsSessionEvent events → SoundSessionWithJobs old
    → (left : List Plain) × RunLeaves now old events replies new run left
    × PlainRun StepsAlone now old.store left new.store
