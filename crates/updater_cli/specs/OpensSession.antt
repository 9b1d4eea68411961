-- How a session begins.
use Rattle.std.specs.Prelude.{◌≡◌, ◌≢◌, ◌⊎◌, ℕ, ◌+◌, ◌≤◌, List, [], ◌∷◌, Option, Some, None, Result, Err, IfOk, IfErr, OnOk}
use Rattle.disks.specs.declared.disk.Disk.{Ghosts}
use Rattle.links.specs.declared.links.Links.{Ghosts as LinksGhosts}
use Rattle.links.specs.Links.{failures_of}
use Rattle.machine.specs.declared.event.Event.{Event}
use Rattle.machine.specs.declared.event.Event.TheVariants.{Boot, Line, Unread}
use Rattle.machine.specs.declared.report.Report.{Report}
use Rattle.machine.specs.declared.report.ReportLine.{ReportLine}
use Rattle.machine.specs.Store.{Store, session_over}
use Rattle.updater.specs.StandsFor.{StandsFor, StandsForNone}
use Rattle.updater_cli.specs.declared.course.Course.{Course}
use Rattle.updater_cli.specs.declared.status.Status.{Status}
use Rattle.updater_cli.specs.declared.status.Status.TheVariants.{Done, Words, SourceFault, SinkFault, DiskFault, NotAStore, Memory, TooMuchInput}
use Rattle.updater_cli.specs.Devices.{Asks}
use Rattle.updater_cli.specs.Report.{CostsBegun, Origin, StandsForPrefix, StandsSound, origin_over, report_of, marked_by, answered}
use Rattle.updater_cli.specs.Session.{Between, start_over}
use Rattle.updater_cli.specs.Status.{code_of}

-- ---- the boot event

-- a boot event is the first line
abbrev pub IsBootFirst : ℕ → List ReportLine → Type 0
IsBootFirst boot [] = ⊥
IsBootFirst boot (l ∷ lines) = (l.event ≡ Boot boot) × (l.reply ≡ None)

-- no boot event is the first line
abbrev pub IsNoBoot : Event → Type 0
IsNoBoot (Boot boot) = ⊥
IsNoBoot (Line command now heard) = Unit {0}
IsNoBoot (Unread fault) = Unit {0}

abbrev pub IsNoBootFirst : List ReportLine → Type 0
IsNoBootFirst [] = Unit {0}
IsNoBootFirst (l ∷ lines) = IsNoBoot l.event

-- no boot event was begun
abbrev pub IsLineOrNone : Option Event → Type 0
IsLineOrNone None = Unit {0}
IsLineOrNone (Some event) = IsNoBoot event

-- a boot event was begun
abbrev pub IsBootEvent : Option Event → Type 0
IsBootEvent None = ⊥
IsBootEvent (Some (Boot boot)) = Unit {0}
IsBootEvent (Some (Line command now heard)) = ⊥
IsBootEvent (Some (Unread fault)) = ⊥

-- a boot event stands first exactly where the kept number differs from the given one
pub record BootsFirst (boot kept : ℕ) (lines : List ReportLine) : Type 0 where
  pub other : kept ≢ boot → IsBootFirst boot lines
  pub same : kept ≡ boot → IsNoBootFirst lines

-- ---- what a stop leaves of a session

-- the disk failed in the opening, so that a stop leaves what it could leave before, as where its
-- first call failed
pub record IsUnopened {D : Type 0} (on : Ghosts D) (old new : D) (status : ℕ) (report : Report)
    (image : List ℕ) : Type 0 where
  pub fault : status ≡ code_of DiskFault
  pub none : report.lines ≡ []
  pub boot : IsBootEvent report.begun
  pub once : on.moment new ≡ on.moment old + 1
  pub left : on.left_at old (on.moment old) image

-- The opening begins with a sync, save where the disk or memory failed it. From it on each image
-- that a stop may leave stands for the store after some first events of the report: all that were
-- acknowledged, and one more at most. Before it, and where it fails, a stop leaves what it could
-- leave before.
pub record Survives {D : Type 0} (on : Ghosts D) (old new : D) (from : Origin) (status : ℕ)
    (report : Report) : Type 0 where
  pub past : (t : ℕ) (image : List ℕ) → t ≤ on.moment old → on.left_at new t image
      → on.left_at old t image
  pub since : (t : ℕ) (image : List ℕ) → on.moment old + 1 ≤ t → t ≤ on.moment new
      → on.left_at new t image
      → StandsForPrefix from report (marked_by (answered status report.lines) t) image
      ⊎ IsUnopened on old new status report image
  pub synced : (on.moment old + 1 ≤ on.moment new)
      ⊎ ((report.lines ≡ []) × ((status ≡ code_of DiskFault) ⊎ (status ≡ code_of Memory)))

-- ---- what an opening promises

-- after the opening there is no line, or the boot event alone
abbrev pub HasBootLine : ℕ → ℕ → ℕ → ℕ → List ReportLine → Type 0
HasBootLine boot failures from to [] = Unit {0}
HasBootLine boot failures from to (l ∷ []) =
    (l.event ≡ Boot boot) × (l.reply ≡ None) × (l.failures ≡ failures) × (from ≤ l.mark)
    × (l.mark ≤ to)
HasBootLine boot failures from to (l ∷ m ∷ lines) = ⊥

-- how an opening fails
abbrev pub IsOpeningEnd : Status → Type 0
IsOpeningEnd Memory = Unit {0}
IsOpeningEnd NotAStore = Unit {0}
IsOpeningEnd DiskFault = Unit {0}
IsOpeningEnd _ = ⊥

-- where the disk failed in it, the boot event was begun
abbrev pub begun_by : ℕ → Status → Option Event
begun_by boot DiskFault = Some (Boot boot)
begun_by boot _ = None

-- a session begins at that moment, with the boot event or without a line
pub record BeginsAt {D : Type 0} (on : Ghosts D) (boot now failures : ℕ) (disk_old : D)
    (course : Course) (disk : D) : Type 0 where
  pub moment : course.now ≡ now
  pub lines : HasBootLine boot failures (on.moment disk_old) (on.moment disk) course.lines.items
  pub begun : course.begun ≡ None
  pub synced : on.moment disk_old + 1 ≤ on.moment disk

-- Where a sound store stands for the reads, the session goes on from it; where a store does, a stop
-- leaves it, and what was written is that of a boot which was begun. Where none does, it is no
-- store.
pub record OpensSession {D L : Type 0} (on : Ghosts D) (net : LinksGhosts L) (boot now : ℕ)
    (links : L) (disk_old : D) (result : Result Course Status) (disk : D) : Type 0 where
  pub course : IfOk result (λ course.
      BeginsAt on boot now (failures_of (net.links links)) disk_old course disk)
  pub machine : on.tells disk → (store : Store) → StandsSound (on.seen disk_old) store
      → IfOk result (λ course.
      Between on net (start_over now disk_old links store) course disk links)
  pub boots : on.tells disk → (store : Store) → StandsFor (on.seen disk_old) store
      → IfOk result (λ course. BootsFirst boot store.boot course.lines.items)
  pub a_store : on.tells disk → OnOk result (StandsForNone (on.seen disk_old) → ⊥)
  pub ends : IfErr result IsOpeningEnd
  pub survives : on.tells disk → (store : Store) → StandsFor (on.seen disk_old) store
      → IfErr result (λ status. Survives on disk_old disk (origin_over now store) (code_of status)
      (report_of [] (begun_by boot status)))
  pub written : on.tells disk → (store : Store) → StandsFor (on.seen disk_old) store
      → IfErr result (λ status. (more : ℕ)
      × CostsBegun now (net.links links) (net.links links) (session_over store)
      (begun_by boot status) more
      × (on.total disk ≤ on.total disk_old + more))
  pub not_a_store : on.tells disk → result ≡ Err NotAStore → StandsForNone (on.seen disk_old)
  pub reads : IfErr result (λ status. status ≢ DiskFault → on.seen disk ≡ on.seen disk_old)
  pub within : IfErr result (λ status. status ≢ DiskFault → on.moment disk ≤ on.moment disk_old + 1)
  pub unwritten : result ≡ Err NotAStore → on.total disk ≡ on.total disk_old
  pub asks : Asks on (result ≡ Err DiskFault) disk_old disk
