-- commit J: the release of the job becomes the current view of its application, as by an install at
-- this line.
use Rattle.std.specs.Prelude.{◌≡◌, ◌<◌, ◌≤◌, ℕ, List, [], ◌∷◌, ◌++◌, All, Contains, filter, length, map, Some, None}
use Rattle.small_types.specs.declared.limit.Limit.TheVariants.{Applications, Views, Files, Locals}
use Rattle.small_types.specs.declared.limits.TheConstants.{APPLICATION_LIMIT, FILE_COUNT_LIMIT, LOCAL_COUNT_LIMIT, NUMBER_LIMIT, VIEW_LIMIT}
use Rattle.small_types.specs.declared.target.Target.{Target}
use Rattle.machine.specs.declared.reply.Reply.TheVariants as says
use Rattle.machine.specs.Blocks.{free_blocks}
use Rattle.machine.specs.Installed.{Installed, IsProvidedBy}
use Rattle.machine.specs.InstallRow.{IsBelowMinimum, IsNotNewer, LacksEntry, files_after, locals_after, weight_installed}
use Rattle.machine.specs.Rows.{Refusal, exactly, exactly_with}
use Rattle.machine.specs.Shape.{Shape}
use Rattle.machine.specs.Store.{Job, Session, Store}
use Rattle.machine.specs.Views.{ListedFile, is_required}
use Rattle.machine.specs.Weight.{IsTooHeavy, table_room, told_weight}
use Rattle.job_machine.specs.declared.reply.JobReply.TheVariants as tells
use Rattle.job_machine.specs.Jobs.{BareJob, JobShape, OfOpen, bare_job_at, job_at, without_job}
use Rattle.job_machine.specs.Needs.{commit_need}
use Rattle.job_machine.specs.Replies.{OfJob, OfMachine, SessionReply}

-- ---- conditions

-- the weight is that of the tables once the job's release is installed
pub record IsWeightOf (shape : Shape) (job : BareJob) (weight : ℕ) : Type 0 where
  pub provider : Target
  pub provided : IsProvidedBy job.url job.deployment.provider provider
  pub is : weight ≡ weight_installed provider job.base job.deployment job.application shape

-- ---- refusals

-- no open job has the number, or it has files left
abbrev pub ready_refusals : ℕ → JobShape → List (Refusal SessionReply Session)
ready_refusals number session =
    exactly (bare_job_at number session.jobs ≡ None) (OfJob tells.NoJob)
    ∷ exactly_with
    (λ left. OfOpen number session (λ job. (left ≡ length job.left) × (0 < left)))
    (λ left. OfJob (tells.NotReady left))
    ∷ []

-- the version may not come to the store of this line
abbrev pub version_refusals : ℕ → JobShape → List (Refusal SessionReply Session)
version_refusals number session =
    exactly_with
    (λ have. OfOpen number session (λ job. IsNotNewer session.shape job.deployment have))
    (λ have. OfMachine (says.NotNewer have))
    ∷ exactly_with
    (λ minimum. OfOpen number session (λ job. IsBelowMinimum session.shape job.deployment minimum))
    (λ minimum. OfMachine (says.BelowMinimum minimum))
    ∷ []

-- a count would come above its limit, or no number is left for the view
abbrev pub count_refusals : ℕ → JobShape → List (Refusal SessionReply Session)
count_refusals number session =
    exactly (OfOpen number session (λ job. LacksEntry session.shape job.deployment))
    (OfMachine (says.TooMany Applications APPLICATION_LIMIT))
    ∷ exactly (VIEW_LIMIT ≤ length session.shape.views)
    (OfMachine (says.TooMany Views VIEW_LIMIT))
    ∷ exactly
    (OfOpen number session (λ job.
    FILE_COUNT_LIMIT < files_after session.shape job.application))
    (OfMachine (says.TooMany Files FILE_COUNT_LIMIT))
    ∷ exactly
    (OfOpen number session (λ job.
    LOCAL_COUNT_LIMIT < locals_after session.shape job.deployment job.application))
    (OfMachine (says.TooMany Locals LOCAL_COUNT_LIMIT))
    ∷ exactly (session.shape.next_view ≡ NUMBER_LIMIT)
    (OfMachine (says.Spent session.shape.next_view))
    ∷ []

-- there are not as many blocks, or the tables would have no room
abbrev pub room_refusals : ℕ → JobShape → List (Refusal SessionReply Session)
room_refusals number session =
    exactly_with
    (λ need. OfOpen number session (λ job.
    (need ≡ commit_need session.shape job.deployment) × (free_blocks session.shape < need)))
    (λ need. OfMachine (says.Full need (free_blocks session.shape)))
    ∷ exactly_with
    (λ weight. OfOpen number session (λ job.
    IsWeightOf session.shape job weight × IsTooHeavy session.shape.room weight))
    (λ weight. OfMachine (says.TableFull (told_weight weight) (table_room session.shape.room)))
    ∷ []

abbrev pub commit_refusals : ℕ → JobShape → List (Refusal SessionReply Session)
commit_refusals number session =
    ready_refusals number session ++ version_refusals number session
    ++ count_refusals number session ++ room_refusals number session

-- ---- the effect

-- The required program files of the job's release in its order, and the data files that it deploys,
-- each as the job has it.
pub record AreOfJob (job : Job) (files originals : List ListedFile) : Type 0 where
  pub required : map (λ file. file.entry) files ≡ filter is_required job.application.files
  pub deployed : map (λ file. file.entry) originals
      ≡ filter (λ entry. entry.local) job.application.files
  pub had : All (Contains job.files) files
  pub had_data : All (Contains job.files) originals

-- the release is installed with the files of the job, which is gone; the reply is that of an
-- install
pub record CommitEffect (number now : ℕ) (old : Session) (reply : SessionReply) (new : Session)
    : Type 0 where
  pub job : Job
  pub found : job_at number old.jobs ≡ Some job
  pub files : List ListedFile
  pub originals : List ListedFile
  pub of_job : AreOfJob job files originals
  pub store : Store
  pub installed : Installed job.url job.base job.deployment job.application files originals now
      old.store store
  pub is : new ≡ record old { store = store; jobs = without_job number old.jobs }
  pub replied : reply
      ≡ OfMachine (says.Installed job.deployment.identity.key job.deployment.identity.version
      old.store.next_view)
