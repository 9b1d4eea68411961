-- A session whose store is sound, and whose jobs hold what their releases ask.
use Rattle.std.specs.Prelude.{◌≡◌, ◌⊎◌, ◌≤◌, ◌||◌, ℕ, true, List, All, AllPairs, Any, Contains, ◌++◌, filter, flat_map, length, map}
use Rattle.small_types.specs.declared.limits.TheConstants.{JOB_LIMIT}
use Rattle.manifests.specs.declared.facts.Application.{Application}
use Rattle.manifests.specs.declared.facts.FileEntry.{FileEntry}
use Rattle.machine.specs.Blocks.{counted_blocks}
use Rattle.machine.specs.Fields.{IsApplication, IsDeployment, IsTarget}
use Rattle.machine.specs.Shape.{shape_of}
use Rattle.machine.specs.Sound.{IsWhole, ShareBytes, Sound, program_files_of}
use Rattle.machine.specs.Store.{Job, Session}
use Rattle.machine.specs.Valid.{AreNumbers}
use Rattle.machine.specs.Views.{ListedFile, content_key, is_required}

-- ---- jobs

-- what a job has to fetch: the required program files and the data files
abbrev pub wanted_entries : Application → List FileEntry
wanted_entries application = filter (λ entry. is_required entry || entry.local) application.files

-- the entries that are left, and those of the files that it has
abbrev pub entries_of : Job → List FileEntry
entries_of job = job.left ++ map (λ file. file.entry) job.files

-- it is left or there, or a program file of its content is left
abbrev pub IsComing : Job → FileEntry → Type 0
IsComing job entry =
    Contains (entries_of job) entry
    ⊎ ((is_required entry ≡ true)
    × Any (λ other. (is_required other ≡ true) × (content_key other ≡ content_key entry)) job.left)

-- One release. Each file that it has to fetch is coming, no file twice, and nothing else; what is
-- there has the listed bytes.
pub record IsSoundJob (job : Job) : Type 0 where
  pub url : IsTarget job.url
  pub base : IsTarget job.base
  pub deployment : IsDeployment job.deployment
  pub application : IsApplication job.application
  pub key : job.application.identity.key ≡ job.deployment.app.key
  pub version : job.application.identity.version ≡ job.deployment.app.version
  pub each : All (IsComing job) (wanted_entries job.application)
  pub only : All (Contains (wanted_entries job.application)) (entries_of job)
  pub once : AllPairs (λ (e f : FileEntry). ¬ (e.name ≡ f.name)) (entries_of job)
  pub whole : All IsWhole job.files

-- the program files that jobs have
abbrev pub program_files_in : List Job → List ListedFile
program_files_in jobs = flat_map (λ job. filter (λ file. is_required file.entry) job.files) jobs

-- ---- blocks

-- a job counts whole from its beginning on
abbrev pub session_blocks : Session → ℕ
session_blocks session = counted_blocks (shape_of session)

-- ---- the session

pub record SoundSession (session : Session) : Type 0 where
  pub store : Sound session.store
  pub job_numbers : AreNumbers session.next_job (map (λ job. job.number) session.jobs)
  pub few_jobs : length session.jobs ≤ JOB_LIMIT
  pub jobs : All IsSoundJob session.jobs
  pub shared : ShareBytes (program_files_of session.store ++ program_files_in session.jobs)
  pub room : session_blocks session ≤ session.store.room.blocks
