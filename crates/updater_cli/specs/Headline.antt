-- What a whole session does.
use Rattle.std.specs.Prelude.{◌≡◌, ◌≢◌, ◌⊎◌, ◌==◌, ℕ, ◌+◌, ◌-◌, ◌<◌, ◌≤◌, List, [], ◌∷◌, ◌++◌, length, take, count_by, Option, Some, None}
use Rattle.std.specs.Str.Lines.{lines}
use Rattle.outside.specs.declared.source.Source.{Ghosts as SourceGhosts}
use Rattle.outside.specs.declared.sink.Sink.{Ghosts as SinkGhosts}
use Rattle.disks.specs.declared.disk.Disk.{Ghosts}
use Rattle.links.specs.declared.links.Links.{Ghosts as LinksGhosts}
use Rattle.links.specs.Links.{failures_of}
use Rattle.fetcher.specs.Fetched.{Kept}
use Rattle.machine.specs.declared.event.Event.{Event}
use Rattle.machine.specs.declared.event.Event.TheVariants.{Boot, Line, Unread}
use Rattle.machine.specs.declared.report.Report.{Report}
use Rattle.machine.specs.declared.report.ReportLine.{ReportLine}
use Rattle.machine.specs.Store.{Session, Store}
use Rattle.command_text.specs.Lines.{AreEvents}
use Rattle.updater.specs.StandsFor.{StandsFor}
use Rattle.updater_cli.specs.declared.limits.TheConstants.{INPUT_LIMIT}
use Rattle.updater_cli.specs.Devices.{Devices}
use Rattle.updater_cli.specs.Downs.{DownsAreCounted}
use Rattle.updater_cli.specs.Lacks.{AreLacksFew}
use Rattle.updater_cli.specs.OpensSession.{BootsFirst, IsLineOrNone, IsUnopened, Survives}
use Rattle.updater_cli.specs.Report.{answered, marked_by, origin_over, events_of, moment_behind, CostsBegun, FailuresRise, IsBegunServed, IsSettled, KeepsMoments, MarksRise, StandsSound, WritesReplies}
use Rattle.updater_cli.specs.Status.{code_of, IsBegun}
use Rattle.updater_cli.specs.Views.{KeepsViews, LaunchesHold, ViewsHold}
use Rattle.updater_cli.specs.Walk.{Walks}
use Rattle.updater_cli.specs.declared.status.Status.TheVariants.{Done, SourceFault, DiskFault, NotAStore, Memory, TooMuchInput}

-- ---- the lines

-- the events of lines: all but a boot event that stands first
abbrev pub after_boot : List Event → List Event
after_boot [] = []
after_boot (Boot boot ∷ events) = events
after_boot (Line command now heard ∷ events) = Line command now heard ∷ events
after_boot (Unread fault ∷ events) = Unread fault ∷ events

-- The event that was begun is that of the next line. Or it is the boot event, the store was not
-- opened and nothing was read.
abbrev pub IsNext : ℕ → List ℕ → List ℕ → List ReportLine → List Event → Event → Type 0
IsNext boot input left lines_so_far events event =
    AreEvents (take (length events + 1) (lines input)) (events ++ event ∷ [])
    ⊎ ((lines_so_far ≡ []) × (event ≡ Boot boot) × (left ≡ input))

-- The events are those of the first lines of the input. With status 0 they are those of all, and
-- nothing is left. With status 2 or 8 they are those of every line that a line feed ends, of the
-- bytes that were taken, up to the limit. The status is 8 exactly where more bytes than the limit
-- were taken.
pub record ReadsLines (boot status : ℕ) (input left : List ℕ) (report : Report)
    (events : List Event) : Type 0 where
  pub each : AreEvents (take (length events) (lines input)) events
  pub next : (event : Event) → report.begun ≡ Some event
      → IsNext boot input left report.lines events event
  pub done : status ≡ code_of Done
      → AreEvents (lines input) events × (left ≡ []) × (length input ≤ INPUT_LIMIT)
  pub ended : (status ≡ code_of SourceFault) ⊎ (status ≡ code_of TooMuchInput)
      → length events ≡ count_by (λ b. b == 10)
      (take INPUT_LIMIT (take (length input - length left) input))
  pub limit : status ≡ code_of TooMuchInput → INPUT_LIMIT + length left < length input
  pub beyond : INPUT_LIMIT + length left < length input → status ≡ code_of TooMuchInput

-- an event that touches the disk was begun exactly where the disk failed, which is status 4
pub record BeginsOnFault (status : ℕ) (begun : Option Event) : Type 0 where
  pub none : status ≢ code_of DiskFault → begun ≡ None
  pub some : status ≡ code_of DiskFault → IsBegun begun

-- The store was not opened, and so nothing was read, written or asked: the disk failed, and the
-- boot event was begun; or it holds no store; or there was no memory.
pub record IsNotOpened {S K D L : Type 0} (boot status : ℕ) (old new : Devices S K D L)
    (report : Report) : Type 0 where
  pub lines : report.lines ≡ []
  pub begun : ((status ≡ code_of DiskFault) × (report.begun ≡ Some (Boot boot)))
      ⊎ (((status ≡ code_of NotAStore) ⊎ (status ≡ code_of Memory)) × (report.begun ≡ None))
  pub unread : new.source ≡ old.source
  pub unwritten : new.sink ≡ old.sink
  pub unasked : new.links ≡ old.links

-- The store was opened, which took a call of the disk. A boot event stands first exactly where the
-- kept number differs from the given one. An event that was begun is a line's.
pub record IsOpened {S K D L : Type 0} (on : Ghosts D) (boot status : ℕ)
    (old new : Devices S K D L) (report : Report) : Type 0 where
  pub store : status ≢ code_of NotAStore
  pub synced : on.moment old.disk + 1 ≤ on.moment new.disk
  pub boots : on.tells new.disk → (store : Store) → StandsFor (on.seen old.disk) store
      → BootsFirst boot store.boot report.lines
  pub begun : IsLineOrNone report.begun

-- The report's lines are those of the input, one event after another, each at the moment that the
-- session has by then. Their marks never fall, nor do their numbers of failures, which lie between
-- those of the links before and after. Where a reply says of a link that it failed, the number of
-- failures rose with the line. Every site stays, and no count of failures falls.
pub record HeadlineLines {S K D L : Type 0} (source : SourceGhosts S) (on : Ghosts D)
    (net : LinksGhosts L) (boot now status : ℕ) (old new : Devices S K D L)
    (report : Report) : Type 0 where
  pub reads : source.tells
      → ReadsLines boot status (source.left old.source) (source.left new.source) report
      (after_boot (events_of report.lines))
  pub moments : KeepsMoments now report
  pub begun : BeginsOnFault status report.begun
  pub marks : MarksRise (on.moment old.disk) report.lines (on.moment new.disk)
  pub failures : FailuresRise (failures_of (net.links old.links)) report.lines
      (failures_of (net.links new.links))
  pub downs : DownsAreCounted (failures_of (net.links old.links)) report.lines
  pub lacks : AreLacksFew report.lines
  pub links : Kept (net.links old.links) (net.links new.links)
  pub opening : IsNotOpened boot status old new report ⊎ IsOpened on boot status old new report

-- ---- the run

-- the calls that a session made, from the sync with which it begins: those of its lines, and no
-- other
abbrev pub MadeCalls : ℕ → ℕ → ℕ → List ReportLine → ℕ → Type 0
MadeCalls status old new lines last =
    status ≢ code_of DiskFault
    → (new ≡ last) ⊎ ((status ≡ code_of Memory) × (lines ≡ []) × (new ≤ last))

-- The report's lines are one walk from a new session over the store to this session, which is
-- sound; each line holds what is said of it. Unless the disk failed, which is status 4, the reads
-- then stand for its store. No more bytes are written than the changes of the lines take in the
-- journal, each with a checkpoint before it or none, than the files take that lines write in blocks,
-- and than the event takes that was begun.
pub record LeadsTo {S K D L : Type 0} (on : Ghosts D) (net : LinksGhosts L) (now status : ℕ)
    (old new : Devices S K D L) (report : Report) (store : Store) : Type 0 where
  pub session : Session
  pub last : ℕ
  pub bytes : ℕ
  pub behind : L
  pub walk : Walks net (net.links old.links) (origin_over now store) (on.moment old.disk + 1)
      old.links report.lines session last bytes behind
  pub settled : IsSettled session
  pub reads : status ≢ code_of DiskFault → StandsFor (on.seen new.disk) session.store
  pub calls : MadeCalls status (on.moment old.disk) (on.moment new.disk) report.lines last
  pub more : ℕ
  pub begins : CostsBegun (moment_behind now report.lines) (net.links behind)
      (net.links new.links) session report.begun more
  pub written : on.total new.disk ≤ on.total old.disk + bytes + more
  pub begun : IsBegunServed net (moment_behind now report.lines) session behind
      report.begun new.links

-- the lines are a run from the sound store for which the reads stood, and the sink took the replies
pub record HeadlineRun {S K D L : Type 0} (sink : SinkGhosts K) (on : Ghosts D)
    (net : LinksGhosts L) (now status : ℕ) (old new : Devices S K D L)
    (report : Report) : Type 0 where
  pub leads : on.tells new.disk → (store : Store) → StandsSound (on.seen old.disk) store
      → LeadsTo on net now status old new report store
  pub output : sink.tells
      → WritesReplies status (sink.taken old.sink) (sink.taken new.sink) report.lines

-- ---- stops

-- Whenever the machine stops, what it leaves stands for the store after some first events of the
-- report, all that were acknowledged among them.
abbrev pub HeadlineStop : {D : Type 0} → Ghosts D → ℕ → ℕ → D → D → Report → Type 0
HeadlineStop on now status old new report =
    (store : Store) → StandsSound (on.seen old) store
    → Survives on old new (origin_over now store) status report

-- In each image that a stop may leave, from the sync on with which the opening begins, the view of
-- each lease that lives in that store stands whole.
abbrev pub HeadlineLeased : {D : Type 0} → Ghosts D → ℕ → ℕ → D → D → Report → Type 0
HeadlineLeased on now status old new report =
    (store : Store) → StandsSound (on.seen old) store → (t : ℕ) (image : List ℕ)
    → on.moment old + 1 ≤ t → t ≤ on.moment new → on.left_at new t image
    → KeepsViews (origin_over now store) report (marked_by (answered status report.lines) t) image
    ⊎ IsUnopened on old new status report image

-- ---- launches and reads

-- For the sound store for which the reads stood, each lease is on a sound view that was current and
-- is not below a minimum, and what is read on it is unchanged.
abbrev pub HeadlineViews : {D : Type 0} → Ghosts D → ℕ → D → Report → Type 0
HeadlineViews on now old report =
    (store : Store) → StandsSound (on.seen old) store
    → ViewsHold (origin_over now store) report.lines

-- Where nothing is due and a lease is free, a launch is answered with one.
abbrev pub HeadlineLaunch : {D : Type 0} → Ghosts D → ℕ → D → Report → Type 0
HeadlineLaunch on now old report =
    (store : Store) → StandsSound (on.seen old) store
    → LaunchesHold (origin_over now store) report.lines

-- ---- the whole

-- a report of nothing
abbrev pub IsNothing : Report → Type 0
IsNothing report = (report.lines ≡ []) × (report.begun ≡ None)

-- a session of lines
pub record Headline {S K D L : Type 0} (source : SourceGhosts S) (sink : SinkGhosts K)
    (on : Ghosts D) (net : LinksGhosts L) (boot now status : ℕ) (old new : Devices S K D L)
    (report : Report) : Type 0 where
  -- the lines of the session are those of the input, one event after another
  pub lines : HeadlineLines source on net boot now status old new report
  -- they are a run from the store that stood, the sink took their replies, the disk holds what they
  -- lead to, and the links gave what they heard and brought
  pub run : HeadlineRun sink on net now status old new report
  -- a stop at any moment leaves a store that holds every acknowledged line
  pub stop : on.tells new.disk → HeadlineStop on now status old.disk new.disk report
  -- a launch hands out the current view, which is sound and not below a minimum, and reads on its
  -- lease are of one list of bytes for each file
  pub views : on.tells new.disk → HeadlineViews on now old.disk report
  -- a launch succeeds where nothing is due and a lease is free, whatever memory is left
  pub launch : on.tells new.disk → HeadlineLaunch on now old.disk report
  -- what a stop leaves has the view of each lease that lives, whole and unchanged
  pub leased : on.tells new.disk → HeadlineLeased on now status old.disk new.disk report
