-- abandon J: the job is gone.
use Rattle.std.specs.Prelude.{◌≡◌, ℕ, List, [], ◌∷◌, None}
use Rattle.machine.specs.Rows.{Refusal, exactly}
use Rattle.machine.specs.Store.{Session}
use Rattle.job_machine.specs.declared.reply.JobReply.TheVariants as tells
use Rattle.job_machine.specs.Jobs.{JobShape, bare_job_at, without_job}
use Rattle.job_machine.specs.Replies.{OfJob, SessionReply}

-- refused where no open job has the number
abbrev pub abandon_refusals : ℕ → JobShape → List (Refusal SessionReply Session)
abandon_refusals number session =
    exactly (bare_job_at number session.jobs ≡ None) (OfJob tells.NoJob) ∷ []

-- the session without that job
abbrev pub abandon_effect : ℕ → Session → SessionReply → Session → Type 0
abandon_effect number old reply new =
    (reply ≡ OfJob tells.Abandoned)
    × (new ≡ record old { jobs = without_job number old.jobs })
