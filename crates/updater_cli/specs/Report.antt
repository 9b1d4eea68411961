-- What a report says of a session.
use Rattle.std.specs.Prelude.{◌≡◌, ◌≢◌, ◌⊎◌, ◌==◌, ℕ, ◌+◌, ◌-◌, ◌≤◌, nat_le, if◌then◌else◌, List, [], ◌∷◌, ◌++◌, length, take, map, Option, Some, None, IfSome}
use Rattle.small_types.specs.declared.limits.TheConstants.{NUMBER_LIMIT}
use Rattle.outside.specs.Streams.{AppendsPart}
use Rattle.links.specs.declared.links.Links.{Ghosts as LinksGhosts}
use Rattle.links.specs.Links.{LinksState, failures_of}
use Rattle.fetcher.specs.Fetched.{Kept}
use Rattle.machine.specs.declared.command.Command.{Command}
use Rattle.machine.specs.declared.event.Event.{Event}
use Rattle.machine.specs.declared.event.Event.TheVariants.{Boot, Line, Unread}
use Rattle.machine.specs.declared.reply.Reply.{Reply}
use Rattle.machine.specs.declared.report.Report.{Report}
use Rattle.machine.specs.declared.report.ReportLine.{ReportLine}
use Rattle.machine.specs.Machine.{Hears, Step, Run, moment_after}
use Rattle.machine.specs.Shape.{Shape}
use Rattle.machine.specs.Sound.{Sound}
use Rattle.machine.specs.SoundSession.{SoundSession}
use Rattle.machine.specs.Store.{Session, Store, session_over}
use Rattle.machine.specs.Words.{IsCommand}
use Rattle.command_text.specs.Lines.{texts_of}
use Rattle.updater.specs.Commanded.{LeavesLinks, LinksServe}
use Rattle.updater.specs.Costs.{Costs, LeavesNoFiles, StepCosts}
use Rattle.updater.specs.StandsFor.{StandsFor}
use Rattle.updater_cli.specs.declared.status.Status.TheVariants.{SinkFault}
use Rattle.updater_cli.specs.Status.{code_of}

abbrev pub events_of : List ReportLine → List Event
events_of lines = map (λ l. l.event) lines

abbrev pub replies_of : List ReportLine → List (Option Reply)
replies_of lines = map (λ l. l.reply) lines

abbrev pub report_of : List ReportLine → Option Event → Report
report_of lines begun = record { lines = lines; begun = begun }

-- how many of the lines are marked at that moment or before
abbrev pub marked_by : List ReportLine → ℕ → ℕ
marked_by [] t = 0
marked_by (l ∷ lines) t = (if nat_le l.mark t then 1 else 0) + marked_by lines t

-- the lines whose reply the sink took whole: where it failed, which is status 3, all but the last
abbrev pub answered : ℕ → List ReportLine → List ReportLine
answered status lines = if status == code_of SinkFault then take (length lines - 1) lines else lines

-- ---- moments of lines

-- the session's moment once these lines were answered
abbrev pub moment_behind : ℕ → List ReportLine → ℕ
moment_behind now [] = now
moment_behind now (l ∷ lines) = moment_behind (moment_after now l.reply) lines

-- the texts that a command may have heard, whatever store is held: none, save of an install and of
-- a check
abbrev pub MayHear : Command → List (List ℕ) → Type 0
MayHear command texts = (shape : Shape) × Hears shape command texts

-- A command is run at that moment, and has the texts that it heard. Numbers are within their
-- limits, and its words have their forms.
abbrev pub IsRunAt : ℕ → Event → Type 0
IsRunAt now (Boot boot) = boot ≤ NUMBER_LIMIT
IsRunAt now (Line command at heard) =
    (at ≡ now) × (at ≤ NUMBER_LIMIT) × IsCommand command × MayHear command heard.texts
IsRunAt now (Unread fault) = Unit {0}

-- each line is run at the moment that the replies before it have set
abbrev pub AreRunFrom : ℕ → List ReportLine → Type 0
AreRunFrom now [] = Unit {0}
AreRunFrom now (l ∷ lines) = IsRunAt now l.event × AreRunFrom (moment_after now l.reply) lines

-- the lines are run so, and the event that was begun
pub record KeepsMoments (now : ℕ) (report : Report) : Type 0 where
  pub lines : AreRunFrom now report.lines
  pub begun : IfSome report.begun (IsRunAt (moment_behind now report.lines))

-- ---- what the lines lead to

-- the bytes stand for a sound store, as `format` and every session leave them
pub record StandsSound (image : List ℕ) (store : Store) : Type 0 where
  pub stands : StandsFor image store
  pub sound : Sound store

-- where a run begins: a session at a moment
pub record Origin : Type 0 where
  pub now : ℕ
  pub session : Session

-- a new session over a store
abbrev pub origin_over : ℕ → Store → Origin
origin_over now store = record { now = now; session = session_over store }

-- behind a line with this reply, which led to this session
abbrev pub origin_after : Origin → Option Reply → Session → Origin
origin_after from reply session = record { now = moment_after from.now reply; session = session }

-- a sound session without a job, since no command opens one
pub record IsSettled (s : Session) : Type 0 where
  pub sound : SoundSession s
  pub jobs : s.jobs ≡ []

-- the lines lead to this session, which is sound
pub record RunsTo (from : Origin) (lines : List ReportLine) (s : Session) : Type 0 where
  pub steps : Run from.now from.session (events_of lines) (replies_of lines) s
  pub settled : IsSettled s

-- behind a line with this reply no file is left in free blocks
abbrev pub IsFileless : Event → Option Reply → Type 0
IsFileless (Boot boot) reply = Unit {0}
IsFileless (Line command at heard) reply = IfSome reply (LeavesNoFiles command)
IsFileless (Unread fault) reply = Unit {0}

-- what an event may write, from the links as they were before it to those behind it
abbrev pub EventCosts : Event → LinksState → LinksState → Session → Session → ℕ → Type 0
EventCosts (Boot boot) before after old new bytes = Costs old.store new.store bytes
EventCosts (Line command at heard) before after old new bytes =
    StepCosts command heard.texts before after old new bytes
EventCosts (Unread fault) before after old new bytes = bytes ≡ 0

-- A line that changes the store makes calls of the disk. Any other line makes none that changes the
-- disk, and writes nothing, unless it was to bring files and one did not come, or there was no
-- memory. It may write so many bytes.
pub record IsCounted (event : Event) (reply : Option Reply) (before after : LinksState)
    (old new : Session) (from mark bytes : ℕ) : Type 0 where
  pub later : from ≤ mark
  pub same : IsFileless event reply → new.store ≡ old.store → (mark ≡ from) × (bytes ≡ 0)
  pub marked : new.store ≢ old.store → from + 1 ≤ mark
  pub costs : EventCosts event before after old new bytes

-- what a step of the event that was begun may write: nothing where none was
abbrev pub CostsBegun :
    ℕ → LinksState → LinksState → Session → Option Event → ℕ → Type 0
CostsBegun now before after s None bytes = bytes ≡ 0
CostsBegun now before after s (Some event) bytes =
    (new : Session) × (reply : Option Reply) × Step now s event reply new
    × EventCosts event before after s new bytes

-- the lines, and then the event that was begun, may lead to s
abbrev pub Begins : Origin → List ReportLine → Option Event → Session → Type 0
Begins from lines None s = ⊥
Begins from lines (Some event) s =
    (mid : Session) × (reply : Option Reply)
    × Run from.now from.session (events_of lines) (replies_of lines) mid
    × Step (moment_behind from.now lines) mid event reply s

-- the first n events of the report, the one that was begun included, may lead to s
abbrev pub ReachesAfter : Origin → Report → ℕ → Session → Type 0
ReachesAfter from report n s =
    ((n ≤ length report.lines)
    × Run from.now from.session (events_of (take n report.lines))
    (replies_of (take n report.lines)) s)
    ⊎ ((n ≡ length report.lines + 1) × Begins from report.lines report.begun s)

-- the image stands for the store after some first events: all that were acknowledged, and one more
-- at most
pub record StandsForPrefix (from : Origin) (report : Report) (acknowledged : ℕ)
    (image : List ℕ) : Type 0 where
  pub n : ℕ
  pub holds : (n ≡ acknowledged) ⊎ (n ≡ acknowledged + 1)
  pub session : Session
  pub reached : ReachesAfter from report n session
  pub stands : StandsFor image session.store

-- ---- what the links gave

-- only a line that installs, checks or brings a group asks the links
abbrev pub LeavesAsked : {L : Type 0} → Event → L → L → Type 0
LeavesAsked (Boot boot) old new = new ≡ old
LeavesAsked (Line command at heard) old new = LeavesLinks command old new
LeavesAsked (Unread fault) old new = new ≡ old

-- what a line asked of them, heard and brought, from the session before it to the one after it
abbrev pub ServesLine :
    Event → Option Reply → LinksState → LinksState → Session → Session → Type 0
ServesLine (Boot boot) reply before after old new = Unit {0}
ServesLine (Line command at heard) reply before after old new =
    IfSome reply (λ answer. LinksServe command heard.texts before after old answer new)
ServesLine (Unread fault) reply before after old new = Unit {0}

-- what the links did for a line: every site stays, and no count falls
pub record IsLineServed {L : Type 0} (net : LinksGhosts L) (event : Event) (reply : Option Reply)
    (before after : L) (old new : Session) : Type 0 where
  pub kept : Kept (net.links before) (net.links after)
  pub left : LeavesAsked event before after
  pub serves : ServesLine event reply (net.links before) (net.links after) old new

-- The lines lead to this session, and took the links from the first to the last. Each shows how
-- often links had failed by then.
abbrev pub AreServed :
    {L : Type 0} → LinksGhosts L → Origin → L → List ReportLine → Session → L → Type 0
AreServed net from first [] new last = (new ≡ from.session) × (last ≡ first)
AreServed {L = L} net from first (l ∷ lines) new last =
    (mid : Session) × (after : L) × Step from.now from.session l.event l.reply mid
    × IsLineServed net l.event l.reply first after from.session mid
    × (l.failures ≡ failures_of (net.links after))
    × AreServed net (origin_after from l.reply mid) after lines new last

-- and the event that was begun behind them, if one was
abbrev pub IsBegunServed :
    {L : Type 0} → LinksGhosts L → ℕ → Session → L → Option Event → L → Type 0
IsBegunServed net now s first None last = last ≡ first
IsBegunServed net now s first (Some event) last =
    (new : Session) × (reply : Option Reply) × Step now s event reply new
    × IsLineServed net event reply first last s new

-- ---- marks, failures, and what was written

-- marks never fall from the first moment to the last
abbrev pub MarksRise : ℕ → List ReportLine → ℕ → Type 0
MarksRise from [] to = from ≤ to
MarksRise from (l ∷ lines) to = (from ≤ l.mark) × MarksRise l.mark lines to

-- nor does the number of the links' failures
abbrev pub FailuresRise : ℕ → List ReportLine → ℕ → Type 0
FailuresRise from [] to = from ≤ to
FailuresRise from (l ∷ lines) to = (from ≤ l.failures) × FailuresRise l.failures lines to

-- no line is marked later than that moment
abbrev pub AreMarkedBy : List ReportLine → ℕ → Type 0
AreMarkedBy [] t = Unit {0}
AreMarkedBy (l ∷ lines) t = (l.mark ≤ t) × AreMarkedBy lines t

-- of the last line's reply a first part was taken, and of all before it the whole
pub record CutsLast (old new : List ℕ) (lines : List ReportLine) : Type 0 where
  pub before : List ReportLine
  pub last : ReportLine
  pub split : lines ≡ before ++ last ∷ []
  pub part : AppendsPart (old ++ texts_of (replies_of before)) new (texts_of (last.reply ∷ []))

-- the sink took the texts of the replies in order; where it failed, which is status 3, a first part
-- of the last
pub record WritesReplies (status : ℕ) (old new : List ℕ) (lines : List ReportLine) : Type 0 where
  pub whole : status ≢ code_of SinkFault → new ≡ old ++ texts_of (replies_of lines)
  pub part : status ≡ code_of SinkFault → CutsLast old new lines
