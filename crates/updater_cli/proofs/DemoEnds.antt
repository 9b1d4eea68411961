-- How a generated run ends.
use Rattle.std.proofs.Common.{◌≡◌, ◌≢◌, ◌⊎◌, ℕ, Option, Some, Result, Err, inl, inr, refl, sym, subst, arith}
use Rattle.std.specs.Prelude.{IsSomeAnd}
use Rattle.outside.specs.Streams.{Appends, AppendsPart}
use Rattle.outside.specs.declared.sink.Sink.{Ghosts as SinkGhosts}
use Rattle.disks.specs.declared.disk.Disk.{Ghosts}
use Rattle.demo.specs.declared.fault.DemoFault.{DemoFault}
use Rattle.demo.specs.declared.fault.DemoFault.TheVariants as faults
use Rattle.demo.specs.declared.summary.Summary.{Summary}
use Rattle.demo.specs.Parts.{Touches}
use Rattle.demo.specs.Run.{Demonstrates}
use Rattle.demo.specs.Summary.{summary_line}
use Rattle.updater_cli.specs.declared.demo_end.DemoEnd.{DemoEnd}
use Rattle.updater_cli.specs.declared.demo_end.DemoEnd.TheVariants as end
use Rattle.updater_cli.specs.Demonstration.{NotesFault, RunsDemo}
use Rattle.updater_cli.specs.Devices.{Asks}

-- what is asked of the disk
pub asks_by : {D T : Type 0} (on : Ghosts D) (disk_old disk : D) (result : Result T DemoFault)
    (is : DemoEnd) → Touches on disk_old result disk
    → (is ≡ end.DiskFault → result ≡ Err faults.DiskFault)
    → (result ≡ Err faults.DiskFault → is ≡ end.DiskFault)
    → Asks on (is ≡ end.DiskFault) disk_old disk
asks_by on disk_old disk result is touches back there = record {
  told = touches.told;
  later = touches.later;
  count = record {
    later = touches.count;
    rose = λ fault. touches.cause (back fault);
    quiet = λ other. touches.quiet (λ fault. other (there fault));
  };
}

-- why it ended early is noted
module _ {D : Type 0} (on : Ghosts D) (disk : D) (old : Option DemoFault) where
  pub noted : (new : Option DemoFault) (fault : DemoFault) → new ≡ Some fault
      → fault ≢ faults.DiskFault → (on.tells disk → fault ≢ faults.NotAStore)
      → NotesFault on 6 disk old new
  noted new fault is other tells = record {
    noted = λ six. subst (λ (n : Option DemoFault). IsSomeAnd n (λ f. (f ≢ faults.DiskFault)
        × (on.tells disk → f ≢ faults.NotAStore))) (sym is) (other, tells);
    kept = λ not. absurd (not refl);
  }

  -- or it did not end so
  pub not_noted : (status : ℕ) → status ≢ 6 → NotesFault on status disk old old
  not_noted status other = record { noted = λ six. absurd (other six); kept = λ _. refl }

-- the run itself ended early
pub ended_early : {D T : Type 0} (on : Ghosts D) (disk_old disk : D) (result : Result T DemoFault)
    (old : Option DemoFault) (fault : DemoFault) → Touches on disk_old result disk
    → result ≡ Err fault → fault ≢ faults.DiskFault → NotesFault on 6 disk old (Some fault)
ended_early on disk_old disk result old fault touches is other =
    noted on disk old (Some fault) fault refl other
    (λ tells same. touches.store tells (subst (λ (f : DemoFault). result ≡ Err f) same is))

-- neither done nor stopped by the sink
apart : (status : ℕ) → (status ≡ 0) ⊎ (status ≡ 3) → (status ≡ 4) ⊎ (status ≡ 6) → ⊥
apart status (inl a) (inl b) = omega arith
apart status (inl a) (inr b) = omega arith
apart status (inr a) (inl b) = omega arith
apart status (inr a) (inr b) = omega arith

module _ {K D : Type 0} (to : SinkGhosts K) (on : Ghosts D) (seed : ℕ) (sink_old sink : K)
    (disk_old disk : D) where
  -- by the disk, or for want of memory, or since it did not come out as it must
  pub by_disk : sink ≡ sink_old → RunsDemo to on seed 4 sink_old sink disk_old disk
  by_disk same = record {
    done = λ is. absurd (apart 4 is (inl refl));
    nothing = λ is. same;
    statuses = inr (inr (inl refl));
  }

  pub by_memory : sink ≡ sink_old → RunsDemo to on seed 6 sink_old sink disk_old disk
  by_memory same = record {
    done = λ is. absurd (apart 6 is (inr refl));
    nothing = λ is. same;
    statuses = inr (inr (inr refl));
  }

  -- once it was done, the line was written, or a first part of it
  module _ (summary : Summary) (run : on.tells disk → Demonstrates on seed summary disk) where
    pub written : (to.tells → Appends (to.taken sink_old) (to.taken sink) (summary_line summary))
        → RunsDemo to on seed 0 sink_old sink disk_old disk
    written appends = record {
      done = λ is. record {
        summary = summary;
        run = run;
        whole = λ tells zero. appends tells;
        part = λ tells three. absurd (omega arith);
      };
      nothing = λ is. absurd (apart 0 (inl refl) is);
      statuses = inl refl;
    }

    pub cut_off : (to.tells
        → AppendsPart (to.taken sink_old) (to.taken sink) (summary_line summary))
        → RunsDemo to on seed 3 sink_old sink disk_old disk
    cut_off part = record {
      done = λ is. record {
        summary = summary;
        run = run;
        whole = λ tells zero. absurd (omega arith);
        part = λ tells three. part tells;
      };
      nothing = λ is. absurd (apart 3 (inr refl) is);
      statuses = inr (inl refl);
    }
