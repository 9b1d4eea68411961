-- What each part of a session promises: a line, a piece of the input, and the whole input.
use Rattle.std.specs.Prelude.{◌≡◌, ◌⊎◌, ◌==◌, ℕ, ◌+◌, ◌-◌, ◌<◌, ◌≤◌, if◌then◌else◌, List, [], ◌∷◌, ◌++◌, length, take, map, count_by, Option, Some, None, option_to_list, IfSome, Result, Ok, Err, IfOk, IfErr, IsErr, OnOk, MatchResult}
use Rattle.std.specs.Str.Lines.{lines, strip_carriage_return}
use Rattle.small_types.specs.declared.limits.TheConstants.{LINE_LIMIT, NUMBER_LIMIT}
use Rattle.outside.specs.declared.source.Source.{Ghosts as SourceGhosts}
use Rattle.outside.specs.declared.sink.Sink.{Ghosts as SinkGhosts}
use Rattle.disks.specs.declared.disk.Disk.{Ghosts}
use Rattle.disks.specs.Moments.{LeavesOnly}
use Rattle.links.specs.declared.links.Links.{Ghosts as LinksGhosts}
use Rattle.links.specs.Links.{failures_of}
use Rattle.fetcher.specs.Fetched.{Kept}
use Rattle.machine.specs.declared.event.Event.{Event}
use Rattle.machine.specs.declared.reply.Reply.{Reply}
use Rattle.machine.specs.declared.reply.Reply.TheVariants as says
use Rattle.machine.specs.declared.report.ReportLine.{ReportLine}
use Rattle.machine.specs.Machine.{Step, moment_after}
use Rattle.machine.specs.Store.{Session}
use Rattle.command_text.specs.Input.{Cut, HasNoFeed, IsRead}
use Rattle.command_text.specs.Lines.{AreEvents, IsEvent}
use Rattle.install_plan.specs.Downs.{CountsDowns}
use Rattle.updater.specs.Shown.{Updater}
use Rattle.updater.specs.StandsFor.{StandsForEither}
use Rattle.updater.specs.Updater.{Holds}
use Rattle.updater_cli.specs.declared.course.Course.{Course}
use Rattle.updater_cli.specs.declared.limits.TheConstants.{INPUT_LIMIT}
use Rattle.updater_cli.specs.declared.status.Status.TheVariants.{Done, SourceFault, SinkFault, DiskFault, Memory, TooMuchInput}
use Rattle.updater_cli.specs.Devices.{RisesWith, Asks}
use Rattle.updater_cli.specs.Downs.{DownsAreCounted}
use Rattle.updater_cli.specs.Lacks.{AreLacksFew, MayLineLack}
use Rattle.updater_cli.specs.Report.{events_of, report_of, moment_behind, EventCosts, IsRunAt, AreRunFrom, IsCounted, IsLineServed, IsSettled, MarksRise, FailuresRise, WritesReplies}
use Rattle.updater_cli.specs.Session.{SessionStart, Between, Ended}
use Rattle.updater_cli.specs.Status.{PartOutcome, code_of, end_status, IsBegun, IsLineEnd, IsSessionEnd}

-- ---- running a line

-- it was answered: a step of the machine, whose store is held from now on
pub record Ran {D L : Type 0} (on : Ghosts D) (net : LinksGhosts L) (now : ℕ) (disk_old : D)
    (links_old : L) (old : Session) (event : Event) (reply : Reply) (updater : Updater) (disk : D)
    (links : L) : Type 0 where
  pub new : Session
  pub step : Step now old event (Some reply) new
  pub stored : Holds on updater disk new
  pub stop : LeavesOnly on disk_old disk (StandsForEither old.store new.store)
  pub bytes : ℕ
  pub counted : IsCounted event (Some reply) (net.links links_old) (net.links links) old new
      (on.moment disk_old) (on.moment disk) bytes
  pub written : on.total disk ≤ on.total disk_old + bytes
  pub settled : IsSettled new
  pub served : IsLineServed net event (Some reply) links_old links old new

-- the disk failed: a stop leaves the store before some step of the event or that after it
pub record Broke {D L : Type 0} (on : Ghosts D) (net : LinksGhosts L) (now : ℕ) (disk_old : D)
    (links_old : L) (old : Session) (event : Event) (disk : D) (links : L) : Type 0 where
  pub new : Session
  pub reply : Reply
  pub step : Step now old event (Some reply) new
  pub stop : LeavesOnly on disk_old disk (StandsForEither old.store new.store)
  pub bytes : ℕ
  pub costs : EventCosts event (net.links links_old) (net.links links) old new bytes
  pub written : on.total disk ≤ on.total disk_old + bytes
  pub served : IsLineServed net event (Some reply) links_old links old new

-- The event is that of the line, at that moment. What it does, it does for each sound session that
-- is held, where the disk tells.
pub record LineRun {D L : Type 0} (on : Ghosts D) (net : LinksGhosts L) (now : ℕ) (line : List ℕ)
    (updater_old : Updater) (disk_old : D) (links_old : L) (result : Result (Event × Reply) Event)
    (updater : Updater) (disk : D) (links : L) : Type 0 where
  pub event : MatchResult result (λ r. IsEvent line r.0) (λ event. IsEvent line event)
  pub at : MatchResult result (λ r. IsRunAt now r.0) (λ event. IsRunAt now event)
  pub begun : IfErr result (λ event. IsBegun (Some event))
  pub few : IfOk result (λ r. moment_after now (Some r.1) ≤ NUMBER_LIMIT)
  pub ran : on.tells disk → (old : Session) → IsSettled old → Holds on updater_old disk_old old
      → IfOk result (λ r. Ran on net now disk_old links_old old r.0 r.1 updater disk links)
  pub fault : on.tells disk → (old : Session) → IsSettled old → Holds on updater_old disk_old old
      → IfErr result (λ event. Broke on net now disk_old links_old old event disk links)
  pub asks : Asks on (IsErr result) disk_old disk
  pub kept : Kept (net.links links_old) (net.links links)
  pub downs : IfOk result (λ r. CountsDowns (net.links links_old) (net.links links) r.1)
  pub lacks : IfOk result (λ r. r.1 ≡ says.Memory → MayLineLack r.0)

-- ---- what is seen of a session

-- what its sink has taken, the moment of its disk, how often its links failed, its own moment, and
-- its lines
pub record Stage : Type 0 where
  pub taken : List ℕ
  pub calls : ℕ
  pub failures : ℕ
  pub now : ℕ
  pub lines : List ReportLine

-- From one stage to another: one line for each input, and one event begun where the disk failed.
pub record Trace (told : Type 0) (status : ℕ) (inputs : List (List ℕ)) (old new : Stage)
    (begun : Option Event) : Type 0 where
  pub more : List ReportLine
  pub grown : new.lines ≡ old.lines ++ more
  pub events : AreEvents inputs (events_of more ++ option_to_list begun)
  pub at : AreRunFrom old.now more
  pub begun_at : IfSome begun (IsRunAt new.now)
  pub moment : new.now ≡ moment_behind old.now more
  pub marks : MarksRise old.calls more new.calls
  pub failures : FailuresRise old.failures more new.failures
  pub downs : DownsAreCounted old.failures more
  pub lacks : AreLacksFew more
  pub output : told → WritesReplies status old.taken new.taken more

-- What is pending of a line that no line feed has ended: as much of it as is kept.
pub record IsPending (kept : List ℕ) : Type 0 where
  pub begun : HasNoFeed kept
  pub within : length kept ≤ LINE_LIMIT + 2

-- The bytes were read and answered: they end raw lines, one for each line of the trace, and this is
-- kept of the rest.
pub record Progress (told : Type 0) (bytes kept : List ℕ) (old new : Stage) : Type 0 where
  pub raw : List (List ℕ)
  pub read : IsRead bytes raw kept
  pub trace : Trace told 0 (map strip_carriage_return raw) old new None

-- a first part of the bytes was, and the session stopped with a status
pub record Stopped (told : Type 0) (status : ℕ) (bytes : List ℕ) (old new : Stage)
    (begun : Option Event) : Type 0 where
  pub before : List ℕ
  pub after : List ℕ
  pub split : bytes ≡ before ++ after
  pub raw : List (List ℕ)
  pub rest : List ℕ
  pub cut : Cut before raw rest
  pub trace : Trace told status (map strip_carriage_return raw) old new begun

-- The inputs are the first lines of what the source had, as many as the status tells.
pub record AreInputs (status : ℕ) (input left : List ℕ) (inputs : List (List ℕ)) : Type 0 where
  pub more : List (List ℕ)
  pub first : lines input ≡ inputs ++ more
  pub all : status ≡ code_of Done
      → (inputs ≡ lines input) × (left ≡ []) × (length input ≤ INPUT_LIMIT)
  pub ended : (status ≡ code_of SourceFault) ⊎ (status ≡ code_of TooMuchInput)
      → length inputs ≡ count_by (λ b. b == 10)
      (take INPUT_LIMIT (take (length input - length left) input))
  pub limit : status ≡ code_of TooMuchInput → INPUT_LIMIT + length left < length input
  pub beyond : INPUT_LIMIT + length left < length input → status ≡ code_of TooMuchInput

-- ---- the parts of a session

-- a session between two lines, with its devices
pub record Place (K D L : Type 0) : Type 0 where
  pub sink : K
  pub disk : D
  pub links : L
  pub course : Course

abbrev pub place_of : {K D L : Type 0} → K → D → L → Course → Place K D L
place_of sink disk links course =
    record { sink = sink; disk = disk; links = links; course = course }

abbrev pub stage_of :
    {K D L : Type 0} → SinkGhosts K → Ghosts D → LinksGhosts L → Place K D L → Stage
stage_of to on net place = record {
  taken = to.taken place.sink;
  calls = on.moment place.disk;
  failures = failures_of (net.links place.links);
  now = place.course.now;
  lines = place.course.lines.items;
}

-- a line may be answered: none was begun, and the moment is within its limit
pub record IsReady (course : Course) : Type 0 where
  pub begun : course.begun ≡ None
  pub moment : course.now ≤ NUMBER_LIMIT

-- its status, which is 0 where it goes on
abbrev pub outcome_code : PartOutcome → ℕ
outcome_code outcome = code_of (end_status outcome)

-- Each part of a session keeps this, whatever it reads. Where the session stood between two lines,
-- and the disk tells, it does so again, or has ended. The counts of the sink and of the disk rise
-- with their own faults alone. The links and their sites stay.
pub record KeepsSession {K D L : Type 0} (to : SinkGhosts K) (on : Ghosts D) (net : LinksGhosts L)
    (old : Place K D L) (result : PartOutcome) (new : Place K D L) : Type 0 where
  pub machine : on.tells new.disk → (start : SessionStart D L)
      → Between on net start old.course old.disk old.links
      → MatchResult result (λ _. Between on net start new.course new.disk new.links)
      (λ status. Ended on net start (code_of status)
      (report_of new.course.lines.items new.course.begun) new.disk new.links)
  pub goes_on : OnOk result (IsReady new.course)
  pub writes : RisesWith (result ≡ Err SinkFault) (to.count old.sink) (to.count new.sink)
  pub asks : Asks on (result ≡ Err DiskFault) old.disk new.disk
  pub kept : Kept (net.links old.links) (net.links new.links)

-- the line, which is not run where there is no memory for it
abbrev pub taken_of : PartOutcome → List ℕ → List (List ℕ)
taken_of (Ok _) line = line ∷ []
taken_of (Err Memory) line = []
taken_of (Err _) line = line ∷ []

-- a line was answered, or ended the session
pub record LineAnswered {K D L : Type 0} (to : SinkGhosts K) (on : Ghosts D) (net : LinksGhosts L)
    (line : List ℕ) (old : Place K D L) (result : PartOutcome) (new : Place K D L) : Type 0 where
  pub keeps : KeepsSession to on net old result new
  pub ends : IfErr result (λ status. IsLineEnd status new.course.begun)
  pub trace : Trace to.tells (outcome_code result) (taken_of result line)
      (stage_of to on net old) (stage_of to on net new) new.course.begun

-- a last line without a line feed was, where there is one
pub record RestAnswered {K D L : Type 0} (to : SinkGhosts K) (on : Ghosts D) (net : LinksGhosts L)
    (line : List ℕ) (old : Place K D L) (result : PartOutcome) (new : Place K D L) : Type 0 where
  pub keeps : KeepsSession to on net old result new
  pub ends : IfErr result (λ status. IsLineEnd status new.course.begun)
  pub trace : Trace to.tells (outcome_code result)
      (if length line == 0 then [] else taken_of result line)
      (stage_of to on net old) (stage_of to on net new) new.course.begun

-- Each line that ends in these bytes was, or one of them ended the session. The bytes begin with
-- what was kept of a line.
pub record PieceAnswered {K D L : Type 0} (to : SinkGhosts K) (on : Ghosts D) (net : LinksGhosts L)
    (bytes : List ℕ) (old : Place K D L) (result : PartOutcome) (kept : List ℕ)
    (new : Place K D L) : Type 0 where
  pub keeps : KeepsSession to on net old result new
  pub ends : IfErr result (λ status. IsLineEnd status new.course.begun)
  pub pending : OnOk result (IsPending kept)
  pub done : OnOk result
      (Progress to.tells bytes kept (stage_of to on net old) (stage_of to on net new))
  pub stopped : IfErr result (λ status. Stopped to.tells (code_of status) bytes
      (stage_of to on net old) (stage_of to on net new) new.course.begun)

-- the whole input was, or the session ended before
pub record InputAnswered {S K D L : Type 0} (from : SourceGhosts S) (to : SinkGhosts K)
    (on : Ghosts D) (net : LinksGhosts L) (source_old : S) (old : Place K D L)
    (result : PartOutcome) (source : S) (new : Place K D L) : Type 0 where
  pub keeps : KeepsSession to on net old result new
  pub ends : IfErr result (λ status. IsSessionEnd status new.course.begun)
  pub inputs : List (List ℕ)
  pub trace : Trace to.tells (outcome_code result) inputs
      (stage_of to on net old) (stage_of to on net new) new.course.begun
  pub given : from.tells
      → AreInputs (outcome_code result) (from.left source_old) (from.left source) inputs
  pub reads : RisesWith (result ≡ Err SourceFault) (from.count source_old) (from.count source)
