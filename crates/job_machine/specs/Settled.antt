-- What holds of jobs besides: a content that a job is still to fetch is left once, and none of the
-- files that it has.
use Rattle.std.specs.Prelude.{◌≡◌, ◌≢◌, All, AllPairs, [], ◌∷◌, filter, Ok}
use Rattle.small_types.specs.declared.target.Target.{Target}
use Rattle.addresses.specs.Join.{file_target_of}
use Rattle.machine.specs.SoundSession.{SoundSession, program_files_in}
use Rattle.machine.specs.Store.{Job, Session}
use Rattle.machine.specs.Views.{ContentKey, content_key, is_required}
use Rattle.manifests.specs.declared.facts.FileEntry.{FileEntry}

abbrev pub HaveOtherContents : FileEntry → FileEntry → Type 0
HaveOtherContents e f = ◌≢◌ {A = ContentKey} (content_key e) (content_key f)

-- the program files that it has left differ in content, and from those that it has
pub record IsSettled (job : Job) : Type 0 where
  pub once : AllPairs HaveOtherContents (filter is_required job.left)
  pub new : All (λ entry.
      All (λ file. HaveOtherContents entry file.entry) (program_files_in (job ∷ [])))
      (filter is_required job.left)

-- a sound session of such jobs
pub record SoundSessionWithJobs (session : Session) : Type 0 where
  pub sound : SoundSession session
  pub settled : All IsSettled session.jobs

-- each file that the job has left has an address beside its application manifest
abbrev pub IsReachable : Job → Type 0
IsReachable job =
    All (λ entry. (target : Target)
    × (file_target_of job.base job.deployment.mapped entry.name ≡ Ok target)) job.left
