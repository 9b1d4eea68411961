-- What launches and reads promise, and what a stop leaves of the views that leases keep.
use Rattle.std.specs.Prelude.{◌≡◌, ◌+◌, ◌<◌, ℕ, Bool, List, ◌∷◌, ◌++◌, length, map, Some, IsSome, IsSomeAnd}
use Rattle.small_types.specs.declared.limits.TheConstants.{LEASE_LIMIT, NUMBER_LIMIT}
use Rattle.identity.specs.declared.key.Key.{Key}
use Rattle.identity.specs.declared.version.Version.{Version}
use Rattle.identity.specs.Version.{IsBelow}
use Rattle.machine.specs.declared.command.Command.TheVariants.{Launch, Read}
use Rattle.machine.specs.declared.due.Due.TheVariants.{Clear}
use Rattle.machine.specs.declared.event.Event.TheVariants.{Line}
use Rattle.machine.specs.declared.event.Heard.{Heard}
use Rattle.machine.specs.declared.reply.Reply.{Reply}
use Rattle.machine.specs.declared.reply.Reply.TheVariants as says
use Rattle.machine.specs.declared.report.Report.{Report}
use Rattle.machine.specs.declared.report.ReportLine.{ReportLine}
use Rattle.machine.specs.Due.{due}
use Rattle.machine.specs.LeaseLaws.{IsLaunched, IsReadOf, KeepsLeased}
use Rattle.machine.specs.Leases.{lease_of, leased_view}
use Rattle.machine.specs.Machine.{Run, Step}
use Rattle.machine.specs.Minimums.{minimum_of}
use Rattle.machine.specs.ReadRow.{file_named}
use Rattle.machine.specs.Shape.{shape_of}
use Rattle.machine.specs.Sound.{IsSoundView}
use Rattle.machine.specs.Store.{Session, Store}
use Rattle.machine.specs.Views.{ListedFile, View, standing_entries}
use Rattle.updater_cli.specs.Report.{Origin, ReachesAfter, StandsForPrefix, events_of, moment_behind, replies_of, report_of}

-- ---- the sessions that a run comes through

-- a line is run from one session to another: the lines before it lead to the one, and it leads to
-- the other
pub record IsLineOf (from : Origin) (lines : List ReportLine) (l : ReportLine) (old new : Session)
    : Type 0 where
  pub before : List ReportLine
  pub after : List ReportLine
  pub split : lines ≡ before ++ (l ∷ after)
  pub runs : Run from.now from.session (events_of before) (replies_of before) old
  pub step : Step (moment_behind from.now before) old l.event l.reply new

-- The lines lead through a session to the last one. It is the one at first, or that after any line.
pub record LeadsThrough (from : Origin) (lines : List ReportLine) (mid last : Session)
    : Type 0 where
  pub earlier : List ReportLine
  pub later : List ReportLine
  pub split : lines ≡ earlier ++ later
  pub runs : Run from.now from.session (events_of earlier) (replies_of earlier) mid
  pub rest : Run (moment_behind from.now earlier) mid (events_of later) (replies_of later) last

-- the first n events of the report, the one that was begun included, lead so
pub record ReachesThrough (from : Origin) (report : Report) (n : ℕ) (mid last : Session)
    : Type 0 where
  pub earlier : List ReportLine
  pub later : List ReportLine
  pub split : report.lines ≡ earlier ++ later
  pub runs : Run from.now from.session (events_of earlier) (replies_of earlier) mid
  pub more : ℕ
  pub number : n ≡ length earlier + more
  pub rest : ReachesAfter (record { now = moment_behind from.now earlier; session = mid })
      (report_of later report.begun) more last

-- ---- launches

-- the program files of a view are exactly the required ones and those of the groups that stand,
-- each once
abbrev pub HasItsFiles : View → Type 0
HasItsFiles view =
    map (λ file. file.entry) view.program_files ≡ standing_entries view.groups view.application

-- What a launch hands out: the view that was current before the line, which is sound, and the lease
-- is on it. Its version is not below any minimum that its application had in the store at first or
-- in that after any line before.
pub record HandsOut (from : Origin) (before : List ReportLine) (key : Key) (lease : ℕ)
    (version : Version) (old new : Session) : Type 0 where
  pub launch : IsLaunched key lease version old.store new.store
  pub files : HasItsFiles launch.view
  pub minimums : (mid : Session) (minimum : Version) → LeadsThrough from before mid old
      → minimum_of key mid.store.apps ≡ Some minimum → ¬ IsBelow version minimum

-- nothing is due for the application at that moment, and a lease is free
pub record MayLaunch (key : Key) (at : ℕ) (s : Session) : Type 0 where
  pub check_due : Bool
  pub clear : due key (shape_of s) at ≡ Some (Clear check_due)
  pub few : length s.store.leases < LEASE_LIMIT
  pub next : s.store.next_lease < NUMBER_LIMIT

-- the reply is a lease
abbrev pub IsLease : Reply → Type 0
IsLease reply =
    (lease : ℕ) × (version : Version) × (check_due : Bool)
    × (reply ≡ says.Lease lease version check_due)

-- Each launch in such a session is answered with a lease.
abbrev pub LaunchesHold : Origin → List ReportLine → Type 0
LaunchesHold from lines =
    (l : ReportLine) (old new : Session) (key : Key) (at : ℕ) (heard : Heard)
    → IsLineOf from lines l old new → l.event ≡ Line (Launch key) at heard
    → MayLaunch key at old → IsSomeAnd l.reply IsLease

-- ---- reads

-- a read: what it asks for, and the length and the bytes that its reply shows
pub record Reading : Type 0 where
  pub lease : ℕ
  pub name : List ℕ
  pub from : ℕ
  pub count : ℕ
  pub length : ℕ
  pub bytes : List ℕ

-- the line is this read
pub record IsRead (l : ReportLine) (reading : Reading) : Type 0 where
  pub at : ℕ
  pub heard : Heard
  pub asked : l.event
      ≡ Line (Read reading.lease reading.name reading.from reading.count) at heard
  pub replied : l.reply ≡ Some (says.Read reading.length reading.bytes)

-- it shows a part of the program file of that name in the leased view, which matches its entry
abbrev pub IsShown : Reading → Store → Type 0
IsShown reading store =
    IsReadOf reading.lease reading.name reading.from reading.count reading.length reading.bytes
    store

-- A read shows such a part. Where a file of the name stood in the view of this lease before, it was
-- this file.
pub record ShowsLeased (from : Origin) (before : List ReportLine) (reading : Reading)
    (old : Session) : Type 0 where
  pub is : IsShown reading old.store
  pub stays : (mid : Session) (view : View) (file : ListedFile) → LeadsThrough from before mid old
      → leased_view reading.lease mid.store ≡ Some view
      → file_named reading.name view.program_files ≡ Some file → file ≡ is.file

-- The lines before the first read lead to a session, and those from it on to the one before the
-- second. Both reads show parts of one file, which stands in the leased view of both.
pub record ShowOneFile (from : Origin) (before more : List ReportLine) (one two : Reading)
    : Type 0 where
  pub old : Session
  pub later : Session
  pub runs : Run from.now from.session (events_of before) (replies_of before) old
  pub rest : Run (moment_behind from.now before) old (events_of more) (replies_of more) later
  pub first : IsShown one old.store
  pub second : IsShown two later.store
  pub same : first.file ≡ second.file

-- ---- both

-- Each lease that a launch is answered with is on such a view. Each read shows a part of a file
-- there; and two reads on one lease and name, of which one comes later, show parts of one file. A
-- lease that both are answered on lives between them, since no number is given twice.
pub record ViewsHold (from : Origin) (lines : List ReportLine) : Type 0 where
  pub launched : (l : ReportLine) (old new : Session) (key : Key) (at : ℕ) (heard : Heard)
      (lease : ℕ) (version : Version) (check_due : Bool) (is : IsLineOf from lines l old new)
      → l.event ≡ Line (Launch key) at heard
      → l.reply ≡ Some (says.Lease lease version check_due)
      → HandsOut from is.before key lease version old new
  pub read : (l : ReportLine) (old new : Session) (reading : Reading)
      (is : IsLineOf from lines l old new)
      → IsRead l reading → ShowsLeased from is.before reading old
  pub reads : (before between after : List ReportLine) (l m : ReportLine)
      (first second : Reading) → lines ≡ before ++ (l ∷ (between ++ (m ∷ after)))
      → IsRead l first → IsRead m second → first.lease ≡ second.lease
      → first.name ≡ second.name → ShowOneFile from before (l ∷ between) first second

-- ---- stops

-- The view that a lease keeps stands whole: it is one of the store, and sound. Each program file
-- that stood in it in a session before, since the lease was given, stands in it with the same
-- bytes.
pub record StandsWhole (from : Origin) (report : Report) (n : ℕ) (number : ℕ) (last : Session)
    : Type 0 where
  pub view : View
  pub leased : leased_view number last.store ≡ Some view
  pub sound : IsSoundView view
  pub files : HasItsFiles view
  pub unchanged : (mid : Session) → ReachesThrough from report n mid last
      → IsSome (lease_of number mid.store.leases) → KeepsLeased number mid.store last.store

-- the image stands for the store after some first events, and with it the view of each lease that
-- lives there stands whole
pub record KeepsViews (from : Origin) (report : Report) (acknowledged : ℕ) (image : List ℕ)
    : Type 0 where
  pub prefix : StandsForPrefix from report acknowledged image
  pub views : (number : ℕ) → IsSome (lease_of number prefix.session.store.leases)
      → StandsWhole from report prefix.n number prefix.session
