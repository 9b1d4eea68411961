-- What is true of lines of jobs, and of lines of the machine beside them.
use Rattle.std.specs.Prelude.{◌≡◌, ◌≢◌, ◌⊎◌, ◌↔◌, ◌+◌, ◌++◌, ℕ, List, [], ◌∷◌, All, Any, Contains, Option, Some, Ok}
use Rattle.addresses.specs.Address.{target_of_text}
use Rattle.addresses.specs.Join.{app_target_of}
use Rattle.identity.specs.declared.key.Key.{Key}
use Rattle.identity.specs.declared.version.Version.{Version}
use Rattle.identity.specs.Version.{IsBelow}
use Rattle.manifests.specs.declared.facts.Application.{Application}
use Rattle.machine.specs.declared.command.Command.{Command}
use Rattle.machine.specs.declared.event.Heard.{Heard}
use Rattle.machine.specs.declared.reply.Reply.{Reply}
use Rattle.machine.specs.declared.reply.Reply.TheVariants as says
use Rattle.machine.specs.Blocks.{blocks_with, counted_blocks}
use Rattle.machine.specs.Current.{current_version}
use Rattle.machine.specs.Installed.{AreFetched, Installed}
use Rattle.machine.specs.InstallRow.{OfRelease, address_refusals, deployment_refusals}
use Rattle.machine.specs.Laws.{IsAnswerable}
use Rattle.machine.specs.Machine.{Answers}
use Rattle.machine.specs.Minimums.{minimum_of}
use Rattle.machine.specs.Rows.{AreExact, Refuses}
use Rattle.machine.specs.Shape.{Shape, shape_of}
use Rattle.machine.specs.SoundSession.{SoundSession}
use Rattle.machine.specs.Store.{Job, Session}
use Rattle.machine.specs.Views.{ListedFile}
use Rattle.job_machine.specs.declared.command.JobCommand.{JobCommand}
use Rattle.job_machine.specs.declared.command.JobCommand.TheVariants as asks
use Rattle.job_machine.specs.AbandonRow.{abandon_refusals}
use Rattle.job_machine.specs.BeginRow.{begin_refusals, number_refusals}
use Rattle.job_machine.specs.CommitRow.{AreOfJob, commit_refusals}
use Rattle.job_machine.specs.GroupBeside.{room_refusals_beside}
use Rattle.job_machine.specs.InstallBeside.{release_refusals_beside}
use Rattle.job_machine.specs.Jobs.{JobShape, job_at, without_job}
use Rattle.job_machine.specs.JobWords.{IsSessionEvent}
use Rattle.job_machine.specs.Needs.{begin_need}
use Rattle.job_machine.specs.Replies.{OfMachine, SessionReply, as_answers}
use Rattle.job_machine.specs.Sessions.{AnswersBeside, JobAnswers, JobLine, SessionEvent, SessionRun, SessionStep, job_refusals}
use Rattle.job_machine.specs.Settled.{IsReachable, SoundSessionWithJobs}
use Rattle.job_machine.specs.StepRow.{left_refusals}

-- ---- refusals

-- No refusal is a free choice, but that of a step at its file. Those of `begin` are none where the
-- manifests are heard: those of the address and of the deployment where that one is.
pub record JobRowsAreExact : Type 0 where
  pub begin_numbers : (session : JobShape) → AreExact (number_refusals session)
  pub begin_address : (url : List ℕ) → AreExact (as_answers {S = Session} (address_refusals url))
  pub begin_deployment : (url text : List ℕ) (texts : List (List ℕ)) (shape : Shape)
      → AreExact (as_answers (deployment_refusals url (text ∷ texts) shape))
  pub begin : (url text other : List ℕ) (texts : List (List ℕ)) (session : JobShape)
      → AreExact (begin_refusals url (text ∷ other ∷ texts) session)
  pub step : (number : ℕ) (session : JobShape) → AreExact (left_refusals number session)
  pub commit : (number : ℕ) (session : JobShape) → AreExact (commit_refusals number session)
  pub abandon : (number : ℕ) (session : JobShape) → AreExact (abandon_refusals number session)
  pub install_beside : (url text other : List ℕ) (texts : List (List ℕ)) (shape : Shape)
      → AreExact (release_refusals_beside url (text ∷ other ∷ texts) shape)
  pub group_beside : (lease : ℕ) (group : List ℕ) (shape : Shape)
      → AreExact (room_refusals_beside lease group shape)

-- where none is a free choice, two refusals of a line of jobs that are given have one reply
abbrev pub OneJobRefusalIsGiven : Type 0
OneJobRefusalIsGiven = (heard : List (List ℕ)) (session : JobShape) (command : JobCommand)
    (old : Session) (a b : SessionReply) (x y : Session)
    → AreExact (job_refusals heard session command)
    → Refuses (job_refusals heard session command) old a x
    → Refuses (job_refusals heard session command) old b y → a ≡ b

-- none changes anything: after a commit that is refused the job is as it was
abbrev pub JobRefusalsChangeNothing : Type 0
JobRefusalsChangeNothing = (heard : List (List ℕ)) (session : JobShape) (command : JobCommand)
    (old : Session) (reply : SessionReply) (new : Session)
    → Refuses (job_refusals heard session command) old reply new → new ≡ old

-- nor does want of memory
abbrev pub JobMemoryChangesNothing : Type 0
JobMemoryChangesNothing = (now : ℕ) (heard : List (List ℕ)) (old : Session)
    (command : JobCommand) (new : Session)
    → JobAnswers now heard old command (OfMachine says.Memory) new → new ≡ old

-- ---- stores

-- `begin`, `step` and `abandon` change no store
pub record JobsLeaveTheStore : Type 0 where
  pub begin : (now : ℕ) (heard : List (List ℕ)) (old : Session) (url : List ℕ)
      (reply : SessionReply) (new : Session)
      → JobAnswers now heard old (asks.Begin url) reply new → new.store ≡ old.store
  pub step : (now : ℕ) (heard : List (List ℕ)) (old : Session) (number : ℕ)
      (reply : SessionReply) (new : Session)
      → JobAnswers now heard old (asks.Step number) reply new → new.store ≡ old.store
  pub abandon : (now : ℕ) (heard : List (List ℕ)) (old : Session) (number : ℕ)
      (reply : SessionReply) (new : Session)
      → JobAnswers now heard old (asks.Abandon number) reply new → new.store ≡ old.store

-- The release of the job of that number, of which nothing was left, is installed on the store of
-- this line, at its moment. It is newer than the version that is current there, and not below the
-- minimum that holds there. The job is gone, and nothing else changes.
pub record IsCommitted (number now : ℕ) (old new : Session) : Type 0 where
  pub job : Job
  pub found : job_at number old.jobs ≡ Some job
  pub ready : job.left ≡ []
  pub newer : (have : Version)
      → current_version job.deployment.identity.key (shape_of old) ≡ Some have
      → IsBelow have job.deployment.identity.version
  pub reached : (minimum : Version)
      → minimum_of job.deployment.identity.key old.store.apps ≡ Some minimum
      → ¬ IsBelow job.deployment.identity.version minimum
  pub files : List ListedFile
  pub originals : List ListedFile
  pub of_job : AreOfJob job files originals
  pub installed : Installed job.url job.base job.deployment job.application files originals now
      old.store new.store
  pub jobs : new.jobs ≡ without_job number old.jobs
  pub next_job : new.next_job ≡ old.next_job

-- a commit that is answered so
abbrev pub CommitsInstall : Type 0
CommitsInstall = (now : ℕ) (heard : List (List ℕ)) (old : Session) (number : ℕ) (key : Key)
    (version : Version) (view : ℕ) (new : Session)
    → JobAnswers now heard old (asks.Commit number)
    (OfMachine (says.Installed key version view)) new
    → IsCommitted number now old new

-- in a sound session the files are those that an install would bring: each matches what is listed,
-- and those of one content have the same bytes, also those that kept views have
abbrev pub CommitsBringWholeFiles : Type 0
CommitsBringWholeFiles = (number now : ℕ) (old new : Session)
    (is : IsCommitted number now old new) → SoundSession old
    → AreFetched old.store is.job.application is.files is.originals

-- ---- beside the machine

-- where no job is open a line of the machine is answered as ever
abbrev pub LinesWithoutJobsAreAsEver : Type 0
LinesWithoutJobsAreAsEver = (now : ℕ) (heard : List (List ℕ)) (old : Session)
    (command : Command) (reply : Reply) (new : Session)
    → old.jobs ≡ []
    → AnswersBeside now heard old command reply new ↔ Answers now heard old command reply new

-- ---- sound sessions

-- a session begins sound over a sound store
abbrev pub SessionsBeginSoundWithJobs : Type 0
SessionsBeginSoundWithJobs = (session : Session) → session.jobs ≡ [] → SoundSession session
    → SoundSessionWithJobs session

-- and each step leads to a sound one, whatever jobs are open
abbrev pub SessionStepsKeepSound : Type 0
SessionStepsKeepSound = (now : ℕ) (old : Session) (event : SessionEvent)
    (reply : Option SessionReply) (new : Session)
    → IsSessionEvent event → SessionStep now old event reply new
    → SoundSessionWithJobs old → SoundSessionWithJobs new

-- so does a run
abbrev pub SessionRunsKeepSound : Type 0
SessionRunsKeepSound = (now : ℕ) (old : Session) (events : List SessionEvent)
    (replies : List (Option SessionReply)) (new : Session)
    → All IsSessionEvent events → SessionRun now old events replies new
    → SoundSessionWithJobs old → SoundSessionWithJobs new

-- the files that are left keep their addresses
abbrev pub SessionStepsKeepAddresses : Type 0
SessionStepsKeepAddresses = (now : ℕ) (old : Session) (event : SessionEvent)
    (reply : Option SessionReply) (new : Session)
    → SessionStep now old event reply new → SoundSessionWithJobs old
    → All IsReachable old.jobs → All IsReachable new.jobs

-- ---- answers

-- an answer other than want of memory
pub record JobIsAnswered (now : ℕ) (heard : List (List ℕ)) (old : Session) (command : JobCommand)
    : Type 0 where
  pub reply : SessionReply
  pub new : Session
  pub answers : JobAnswers now heard old command reply new
  pub other : reply ≢ OfMachine says.Memory

-- a begin heard no manifest
abbrev pub MayBeAnswered : JobCommand → List (List ℕ) → Type 0
MayBeAnswered (asks.Begin url) heard = heard ≡ []
MayBeAnswered (asks.Step number) heard = Unit {0}
MayBeAnswered (asks.Commit number) heard = Unit {0}
MayBeAnswered (asks.Abandon number) heard = Unit {0}

-- Each line of jobs has one, in each sound session whose files have addresses; a begin at least
-- where it hears nothing. So a commit that is not refused installs.
abbrev pub JobLinesAreAnswered : Type 0
JobLinesAreAnswered = (now : ℕ) (heard : List (List ℕ)) (old : Session) (command : JobCommand)
    → SoundSessionWithJobs old → All IsReachable old.jobs → MayBeAnswered command heard
    → JobIsAnswered now heard old command

-- the same of a line of the machine beside open jobs
pub record IsAnsweredBeside (now : ℕ) (heard : List (List ℕ)) (old : Session) (command : Command)
    : Type 0 where
  pub reply : Reply
  pub new : Session
  pub answers : AnswersBeside now heard old command reply new
  pub other : reply ≢ says.Memory

-- each line of the machine has one in each sound session, at least where it hears nothing
abbrev pub LinesBesideAreAnswered : Type 0
LinesBesideAreAnswered = (now : ℕ) (heard : List (List ℕ)) (old : Session) (command : Command)
    → SoundSession old → IsAnswerable command heard old.store
    → IsAnsweredBeside now heard old command

-- ---- jobs

-- the same job, whatever of its files came
pub record IsOfJob (job earlier : Job) : Type 0 where
  pub number : job.number ≡ earlier.number
  pub url : job.url ≡ earlier.url
  pub base : job.base ≡ earlier.base
  pub deployment : job.deployment ≡ earlier.deployment
  pub application : job.application ≡ earlier.application

-- the event is a begin that heard the release of the job at its address, which has the next number
pub record IsBegunBy (event : SessionEvent) (old : Session) (job : Job) : Type 0 where
  pub url : List ℕ
  pub at : ℕ
  pub heard : Heard
  pub is : event ≡ JobLine (asks.Begin url) at heard
  pub read : target_of_text url ≡ Ok job.url
  pub told : OfRelease heard.texts (λ d a. (d ≡ job.deployment) × (a ≡ job.application))
  pub joined : app_target_of job.url job.deployment.codebase ≡ Ok job.base
  pub number : job.number ≡ old.next_job

-- Each job was open before the step, and is of the same release; or the step begins it. So from its
-- begin to its end a job is of the release that was heard then.
abbrev pub JobsKeepTheirRelease : Type 0
JobsKeepTheirRelease = (now : ℕ) (old : Session) (event : SessionEvent)
    (reply : Option SessionReply) (new : Session) → SessionStep now old event reply new
    → (job : Job) → Contains new.jobs job
    → Any (IsOfJob job) old.jobs ⊎ IsBegunBy event old job

-- The blocks that a new job counts beside views and other jobs are those that its begin needs.
abbrev pub BegunJobsTakeTheirNeed : Type 0
BegunJobsTakeTheirNeed = (shape : Shape) (a : Application)
    → blocks_with shape.views (shape.jobs ++ a ∷ [])
    ≡ counted_blocks shape + begin_need shape a
