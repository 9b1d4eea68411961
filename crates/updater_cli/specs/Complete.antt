-- That a session answers every line of its input where nothing failed.
use Rattle.std.specs.Prelude.{◌≡◌, ◌⊎◌, ◌≤◌, ◌++◌, ℕ, [], length, None}
use Rattle.std.specs.Str.Lines.{lines}
use Rattle.outside.specs.Streams.{Rose}
use Rattle.outside.specs.declared.source.Source.{Ghosts as SourceGhosts}
use Rattle.outside.specs.declared.sink.Sink.{Ghosts as SinkGhosts}
use Rattle.disks.specs.declared.disk.Disk.{Ghosts}
use Rattle.links.specs.declared.links.Links.{Ghosts as LinksGhosts}
use Rattle.fetcher.specs.Fetched.{AllTell}
use Rattle.machine.specs.declared.report.Report.{Report}
use Rattle.machine.specs.Store.{Session, Store}
use Rattle.command_text.specs.Lines.{AreEvents, texts_of}
use Rattle.updater.specs.StandsFor.{StandsFor}
use Rattle.updater_cli.specs.declared.limits.TheConstants.{INPUT_LIMIT}
use Rattle.updater_cli.specs.declared.status.Status.TheVariants.{Done, Memory}
use Rattle.updater_cli.specs.Devices.{Devices}
use Rattle.updater_cli.specs.Headline.{after_boot}
use Rattle.updater_cli.specs.OpensSession.{BootsFirst}
use Rattle.updater_cli.specs.Quiet.{WalkFinds}
use Rattle.updater_cli.specs.Report.{RunsTo, StandsSound, events_of, origin_over, replies_of}
use Rattle.updater_cli.specs.Status.{code_of}

-- Nothing failed in the session: the source, the sink and the disk tell, and the count of none of
-- them rose. What the disk held at first stands for a sound store, and the input is no longer than
-- a session takes.
pub record IsUndisturbed {S K D L : Type 0} (source : SourceGhosts S) (sink : SinkGhosts K)
    (on : Ghosts D) (old new : Devices S K D L) (store : Store) : Type 0 where
  pub source_tells : source.tells
  pub sink_tells : sink.tells
  pub disk_tells : on.tells new.disk
  pub source_quiet : ¬ Rose (source.count old.source) (source.count new.source)
  pub sink_quiet : ¬ Rose (sink.count old.sink) (sink.count new.sink)
  pub disk_quiet : ¬ Rose (on.count old.disk) (on.count new.disk)
  pub stands : StandsSound (on.seen old.disk) store
  pub short : length (source.left old.source) ≤ INPUT_LIMIT

-- All was done. A boot event stands first exactly where the kept number differs from the given one.
-- Behind it stand the events of all lines of the input, of which nothing is left; none is without
-- its reply. They are a run from a new session over the store, the sink took the texts of all its
-- replies, and the disk holds the store to which it leads. Over links that tell each quiet line
-- found what they had, and each line at all where no link's count rose in the session.
pub record Completes {S K D L : Type 0} (source : SourceGhosts S) (sink : SinkGhosts K)
    (on : Ghosts D) (net : LinksGhosts L) (boot now status : ℕ) (old new : Devices S K D L)
    (report : Report) (store : Store) : Type 0 where
  pub done : status ≡ code_of Done
  pub boots : BootsFirst boot store.boot report.lines
  pub events : AreEvents (lines (source.left old.source)) (after_boot (events_of report.lines))
  pub read : source.left new.source ≡ []
  pub begun : report.begun ≡ None
  pub session : Session
  pub run : RunsTo (origin_over now store) report.lines session
  pub output : sink.taken new.sink ≡ sink.taken old.sink ++ texts_of (replies_of report.lines)
  pub stands : StandsFor (on.seen new.disk) session.store
  pub finds : AllTell (net.links old.links)
      → WalkFinds net (origin_over now store) old.links report.lines session new.links

-- Where nothing failed, all was done, or there was no memory, which is status 6.
abbrev pub AnswersAll : {S K D L : Type 0} → SourceGhosts S → SinkGhosts K → Ghosts D
    → LinksGhosts L → ℕ → ℕ → ℕ → Devices S K D L → Devices S K D L → Report → Type 0
AnswersAll source sink on net boot now status old new report =
    (store : Store) → IsUndisturbed source sink on old new store
    → Completes source sink on net boot now status old new report store
    ⊎ (status ≡ code_of Memory)
