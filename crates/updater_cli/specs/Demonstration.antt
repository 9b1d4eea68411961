-- What is done for a generated run.
use Rattle.std.specs.Prelude.{◌≡◌, ◌≢◌, ◌⊎◌, ℕ, Option, IsSomeAnd}
use Rattle.outside.specs.Streams.{Appends, AppendsPart}
use Rattle.outside.specs.declared.sink.Sink.{Ghosts as SinkGhosts}
use Rattle.disks.specs.declared.disk.Disk.{Ghosts}
use Rattle.demo.specs.declared.fault.DemoFault.{DemoFault}
use Rattle.demo.specs.declared.fault.DemoFault.TheVariants as faults
use Rattle.demo.specs.declared.summary.Summary.{Summary}
use Rattle.demo.specs.Run.{Demonstrates}
use Rattle.demo.specs.Summary.{summary_line}
use Rattle.updater_cli.specs.declared.demo_end.DemoEnd.{DemoEnd}
use Rattle.updater_cli.specs.declared.demo_end.DemoEnd.TheVariants.{Done, SinkFault, DiskFault, Early}
use Rattle.updater_cli.specs.declared.status.Status.TheVariants as exit
use Rattle.updater_cli.specs.Status.{code_of}

-- The exit status. A run that did not come out as it must ends as one that found no memory.
abbrev pub demo_code : DemoEnd → ℕ
demo_code Done = code_of exit.Done
demo_code SinkFault = code_of exit.SinkFault
demo_code DiskFault = code_of exit.DiskFault
demo_code Early = code_of exit.Memory

-- The run was done to its end: where the disk tells, its reads stand for the store to which it
-- leads, and the summary has its numbers. The line of the summary was written, or a first part of
-- it.
pub record IsDone {K D : Type 0} (to : SinkGhosts K) (on : Ghosts D) (seed status : ℕ)
    (sink_old sink : K) (disk : D) : Type 0 where
  pub summary : Summary
  pub run : on.tells disk → Demonstrates on seed summary disk
  pub whole : to.tells → status ≡ code_of exit.Done
      → Appends (to.taken sink_old) (to.taken sink) (summary_line summary)
  pub part : to.tells → status ≡ code_of exit.SinkFault
      → AppendsPart (to.taken sink_old) (to.taken sink) (summary_line summary)

-- It is done with status 0, and with status 3, where the sink failed. With 4 the disk failed, with
-- 6 there was no memory or it did not come out as it must, and then nothing was written.
pub record RunsDemo {K D : Type 0} (to : SinkGhosts K) (on : Ghosts D) (seed status : ℕ)
    (sink_old sink : K) (disk_old disk : D) : Type 0 where
  pub done : (status ≡ code_of exit.Done) ⊎ (status ≡ code_of exit.SinkFault)
      → IsDone to on seed status sink_old sink disk
  pub nothing : (status ≡ code_of exit.DiskFault) ⊎ (status ≡ code_of exit.Memory) → sink ≡ sink_old
  pub statuses : (status ≡ code_of exit.Done) ⊎ ((status ≡ code_of exit.SinkFault)
      ⊎ ((status ≡ code_of exit.DiskFault) ⊎ (status ≡ code_of exit.Memory)))

-- With status 6, and with it alone, it is noted why the run ended early: not for the disk, nor,
-- where the disk tells, since the new store did not read as one. Else what was noted stays.
pub record NotesFault {D : Type 0} (on : Ghosts D) (status : ℕ) (disk : D)
    (old new : Option DemoFault) : Type 0 where
  pub noted : status ≡ code_of exit.Memory → IsSomeAnd new (λ fault. (fault ≢ faults.DiskFault)
      × (on.tells disk → fault ≢ faults.NotAStore))
  pub kept : status ≢ code_of exit.Memory → new ≡ old
