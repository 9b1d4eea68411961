-- Open jobs by their numbers, with the bytes of their files and without.
use Rattle.std.specs.Prelude.{◌≡◌, ℕ, ◌==◌, not, List, filter, find, map, Option, Some, if◌then◌else◌}
use Rattle.small_types.specs.declared.target.Target.{Target}
use Rattle.manifests.specs.declared.facts.Application.{Application}
use Rattle.manifests.specs.declared.facts.Deployment.{Deployment}
use Rattle.manifests.specs.declared.facts.FileEntry.{FileEntry}
use Rattle.machine.specs.Shape.{Shape, shape_of}
use Rattle.machine.specs.Store.{Job, Session}

-- ---- in a session

-- the job of that number
abbrev pub job_at : ℕ → List Job → Option Job
job_at number jobs = find (λ job. job.number == number) jobs

-- the jobs once that of the number is what f makes of it
abbrev pub with_job_at : ℕ → (Job → Job) → List Job → List Job
with_job_at number f jobs = map (λ job. if job.number == number then f job else job) jobs

-- the jobs without that of the number
abbrev pub without_job : ℕ → List Job → List Job
without_job number jobs = filter (λ job. not (job.number == number)) jobs

-- ---- without the bytes of its files

-- a job without the bytes of the files that it has
pub record BareJob : Type 0 where
  pub number : ℕ
  pub url : Target
  pub base : Target
  pub deployment : Deployment
  pub application : Application
  pub left : List FileEntry

-- what refusals of lines of jobs are about: what those of other lines are, the open jobs, and the
-- number that the next one gets
pub record JobShape : Type 0 where
  pub shape : Shape
  pub jobs : List BareJob
  pub next_job : ℕ

abbrev pub bare_job : Job → BareJob
bare_job job = record {
  number = job.number;
  url = job.url;
  base = job.base;
  deployment = job.deployment;
  application = job.application;
  left = job.left;
}

abbrev pub job_shape_of : Session → JobShape
job_shape_of session = record {
  shape = shape_of session;
  jobs = map bare_job session.jobs;
  next_job = session.next_job;
}

abbrev pub bare_job_at : ℕ → List BareJob → Option BareJob
bare_job_at number jobs = find (λ job. job.number == number) jobs

-- it holds of the open job of that number
abbrev pub OfOpen : ℕ → JobShape → (BareJob → Type 0) → Type 0
OfOpen number session holds =
    (job : BareJob) × (bare_job_at number session.jobs ≡ Some job) × holds job
