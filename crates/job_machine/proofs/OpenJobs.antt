-- Open jobs by their numbers.
use Rattle.std.proofs.Common.{◌≡◌, ◌∙◌, ap, eqb, eqb-true, ℕ, List, map, Option, Some}
use Rattle.std.specs.Prelude.{option_map}
use Rattle.machine.specs.Store.{Job}
use Rattle.machine.proofs.FirstFound.{find-map, find_in}
use Rattle.machine.proofs.Members.{In}
use Rattle.job_machine.specs.Jobs.{BareJob, bare_job, bare_job_at, job_at}

pub job_in : (number : ℕ) (jobs : List Job) (job : Job) → job_at number jobs ≡ Some job
    → In job jobs × (job.number ≡ number)
job_in number jobs job is =
    let found = find_in (λ (j : Job). eqb j.number number) jobs job is in
    (found.0, eqb-true job.number number found.1)

-- the same without bytes
pub bare_found : (number : ℕ) (jobs : List Job) (job : Job) → job_at number jobs ≡ Some job
    → bare_job_at number (map bare_job jobs) ≡ Some (bare_job job)
bare_found number jobs job is =
    find-map bare_job (λ (j : BareJob). eqb j.number number) jobs
    ∙ ap (λ (o : Option Job). option_map bare_job o) is
