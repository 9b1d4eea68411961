-- An interleaving: a job of a release, and the update of another application between its files.
use Rattle.std.specs.Prelude.{◌≡◌, ◌≢◌, ◌<◌, ◌≤◌, [], All, IsSome, length}
use Rattle.std.specs.declared.cmp.Ordering.TheVariants.{Equal}
use Rattle.machine.specs.declared.reply.Reply.TheVariants as says
use Rattle.machine.specs.Blocks.{free_blocks}
use Rattle.machine.specs.Current.{current_of}
use Rattle.machine.specs.Entries.{key_cmp}
use Rattle.machine.specs.Installed.{AreFetched, Installed}
use Rattle.machine.specs.Shape.{shape_of}
use Rattle.machine.specs.SoundSession.{program_files_in}
use Rattle.machine.specs.Store.{Job, Session}
use Rattle.job_machine.specs.declared.command.JobCommand.TheVariants as asks
use Rattle.job_machine.specs.declared.reply.JobReply.TheVariants as tells
use Rattle.job_machine.specs.BeginRow.{Begun}
use Rattle.job_machine.specs.PlainRuns.{BroughtRelease}
use Rattle.job_machine.specs.FreeBytes.{Agree}
use Rattle.job_machine.specs.Needs.{begin_need, install_need}
use Rattle.job_machine.specs.Replies.{OfJob, OfMachine}
use Rattle.job_machine.specs.Sessions.{JobAnswers}
use Rattle.job_machine.specs.Settled.{SoundSessionWithJobs}

-- In a sound session a job begins for which there is room, and which takes over a file of a kept
-- view. One of its two files is fetched; another application, of which a version is current, is
-- updated, for which there is room beside the job; the other file is fetched; and the job is
-- committed. The session stays sound.
pub record IsInterleaved (start begun stepped updated ready done : Session) : Type 0 where
  pub before : SoundSessionWithJobs start
  -- the job
  pub job : Job
  pub room : begin_need (shape_of start) job.application ≤ free_blocks (shape_of start)
  pub begins : Begun job.url job.base job.deployment job.application job.files start begun
  pub shares : 0 < length job.files
  -- its first file
  pub first : JobAnswers 0 [] begun (asks.Step job.number) (OfJob (tells.Step job.number 1))
      stepped
  -- the update
  pub release : BroughtRelease
  pub other : key_cmp release.deployment.identity.key job.deployment.identity.key ≢ Equal
  pub current : IsSome (current_of release.deployment.identity.key stepped.store.apps)
  pub beside : install_need (shape_of stepped) release.deployment release.application
      ≤ free_blocks (shape_of stepped)
  pub fetched : AreFetched stepped.store release.application release.files release.originals
  pub agree : All (Agree (program_files_in stepped.jobs)) release.files
  pub installed : Installed release.url release.base release.deployment release.application
      release.files release.originals 0 stepped.store updated.store
  pub is : updated ≡ record stepped { store = updated.store }
  -- its second file, and the commit
  pub second : JobAnswers 0 [] updated (asks.Step job.number) (OfJob (tells.Step job.number 0))
      ready
  pub commits : JobAnswers 0 [] ready (asks.Commit job.number)
      (OfMachine (says.Installed job.deployment.identity.key job.deployment.identity.version
      updated.store.next_view)) done
  pub after : SoundSessionWithJobs done

-- there is one
abbrev pub JobsMayBeInterleaved : Type 0
JobsMayBeInterleaved =
    (start : Session) × (begun : Session) × (stepped : Session) × (updated : Session)
    × (ready : Session) × (done : Session) × IsInterleaved start begun stepped updated ready done
