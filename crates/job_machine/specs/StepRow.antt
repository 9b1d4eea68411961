-- step J: one file of the job is fetched.
use Rattle.std.specs.Prelude.{◌≡◌, ◌&&◌, not, ℕ, List, [], ◌∷◌, ◌++◌, bytes_eq, filter, length, map, Some, None, Ok, if◌then◌else◌}
use Rattle.addresses.specs.Join.{file_target_of}
use Rattle.manifests.specs.declared.facts.Application.{Application}
use Rattle.manifests.specs.declared.facts.FileEntry.{FileEntry}
use Rattle.machine.specs.Rows.{Refusal, exactly}
use Rattle.machine.specs.Store.{Job, Session}
use Rattle.machine.specs.Unheard.{may_be_unheard}
use Rattle.machine.specs.Views.{ListedFile, is_required, same_content}
use Rattle.job_machine.specs.declared.reply.JobReply.TheVariants as tells
use Rattle.job_machine.specs.FreeBytes.{IsFetched}
use Rattle.job_machine.specs.Jobs.{JobShape, OfOpen, bare_job_at, job_at, with_job_at}
use Rattle.job_machine.specs.Replies.{OfJob, SessionReply, as_answer}

-- ---- refusals

-- no open job has the number, or it has no file left
abbrev pub left_refusals : ℕ → JobShape → List (Refusal SessionReply Session)
left_refusals number session =
    exactly (bare_job_at number session.jobs ≡ None) (OfJob tells.NoJob)
    ∷ exactly (OfOpen number session (λ job. job.left ≡ [])) (OfJob tells.Done)
    ∷ []

-- no link gives the first file that is left, which is a free choice
abbrev pub missing_refusals : ℕ → JobShape → List (Refusal SessionReply Session)
missing_refusals number session =
    as_answer
    (may_be_unheard (λ target. OfOpen number session (λ job.
    (entry : FileEntry) × (rest : List FileEntry) × (job.left ≡ entry ∷ rest)
    × (file_target_of job.base job.deployment.mapped entry.name ≡ Ok target))))
    ∷ []

abbrev pub step_refusals : ℕ → JobShape → List (Refusal SessionReply Session)
step_refusals number session = left_refusals number session ++ missing_refusals number session

-- ---- the effect

-- another required file of the same content
abbrev pub other_sharing : FileEntry → List FileEntry → List FileEntry
other_sharing entry files =
    filter
    (λ other. not (bytes_eq other.name entry.name) && is_required other
    && same_content entry other) files

-- the file with its bytes; and where it is a program file, each other required file of its content
-- with them too
abbrev pub brought : Application → FileEntry → List ℕ → List ListedFile
brought a entry bytes =
    map (λ file. record { entry = file; bytes = bytes })
    (entry ∷ (if entry.local then [] else other_sharing entry a.files))

-- the job once these bytes of its first file came, and these files are left
abbrev pub stepped : FileEntry → List ℕ → List FileEntry → Job → Job
stepped entry bytes rest job = record job {
  left = rest;
  files = job.files ++ brought job.application entry bytes;
}

-- the first file that was left is fetched; the reply shows how many are left then
pub record StepEffect (number : ℕ) (old : Session) (reply : SessionReply) (new : Session)
    : Type 0 where
  pub job : Job
  pub found : job_at number old.jobs ≡ Some job
  pub entry : FileEntry
  pub rest : List FileEntry
  pub first : job.left ≡ entry ∷ rest
  pub bytes : List ℕ
  pub fetched : IsFetched old (record { entry = entry; bytes = bytes })
  pub is : new ≡ record old { jobs = with_job_at number (stepped entry bytes rest) old.jobs }
  pub replied : reply ≡ OfJob (tells.Step number (length rest))
