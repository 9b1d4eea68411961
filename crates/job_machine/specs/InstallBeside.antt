-- install URL where jobs are open: of what they count it needs no block, and a program file that it
-- fetches has the bytes that a job has for its content.
use Rattle.std.specs.Prelude.{◌≡◌, ◌<◌, ℕ, List, [], ◌∷◌, ◌++◌, All, take}
use Rattle.machine.specs.declared.reply.Reply.{Reply}
use Rattle.machine.specs.declared.reply.Reply.TheVariants as says
use Rattle.machine.specs.Blocks.{free_blocks}
use Rattle.machine.specs.InstallRow.{InstallEffect, OfRelease, address_refusals, deployment_refusals, file_refusals, place_refusals, weight_refusals}
use Rattle.machine.specs.Rows.{Refusal, exactly_with}
use Rattle.machine.specs.Shape.{Shape}
use Rattle.machine.specs.SoundSession.{program_files_in}
use Rattle.machine.specs.Store.{Session}
use Rattle.job_machine.specs.FreeBytes.{Agree}
use Rattle.job_machine.specs.Needs.{install_need}

-- there are not as many blocks as are needed
abbrev pub full_refusals : List (List ℕ) → Shape → List (Refusal Reply Session)
full_refusals heard shape =
    exactly_with
    (λ need. OfRelease heard (λ d a. (need ≡ install_need shape d a) × (free_blocks shape < need)))
    (λ need. says.Full need (free_blocks shape))
    ∷ []

-- those of the machine, with what is needed here in place of their last
abbrev pub release_refusals_beside :
    List ℕ → List (List ℕ) → Shape → List (Refusal Reply Session)
release_refusals_beside url heard shape =
    take 6 (place_refusals url heard shape) ++ full_refusals heard shape
    ++ weight_refusals url heard shape

abbrev pub install_refusals_beside :
    List ℕ → List (List ℕ) → Shape → List (Refusal Reply Session)
install_refusals_beside url heard shape =
    address_refusals url ++ deployment_refusals url heard shape
    ++ release_refusals_beside url heard shape ++ file_refusals url heard shape

-- an install of the machine, of files that agree with those of jobs
pub record InstallsBeside (url : List ℕ) (heard : List (List ℕ)) (now : ℕ) (old : Session)
    (reply : Reply) (new : Session) : Type 0 where
  pub effect : InstallEffect url heard now old reply new
  pub agree : All (Agree (program_files_in old.jobs)) effect.files
