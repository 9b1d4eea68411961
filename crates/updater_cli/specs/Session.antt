-- Where a session stands between two lines, and where it ends.
use Rattle.std.specs.Prelude.{◌≡◌, ◌≢◌, ℕ, ◌+◌, ◌≤◌, List, None}
use Rattle.disks.specs.declared.disk.Disk.{Ghosts}
use Rattle.links.specs.declared.links.Links.{Ghosts as LinksGhosts}
use Rattle.machine.specs.declared.report.Report.{Report}
use Rattle.machine.specs.Store.{Session, Store}
use Rattle.updater.specs.StandsFor.{StandsFor}
use Rattle.updater.specs.Updater.{Holds}
use Rattle.updater_cli.specs.declared.course.Course.{Course}
use Rattle.updater_cli.specs.Report.{Origin, origin_over, RunsTo, CostsBegun, IsBegunServed, StandsForPrefix, AreMarkedBy, report_of, moment_behind, marked_by, answered}
use Rattle.updater_cli.specs.declared.status.Status.TheVariants.{DiskFault}
use Rattle.updater_cli.specs.Status.{code_of}
use Rattle.updater_cli.specs.Walk.{Walks}

-- what a session began with: its disk before the first call and its links, and the session over
-- the store that stood there
pub record SessionStart (D L : Type 0) : Type 0 where
  pub disk : D
  pub links : L
  pub from : Origin

-- a session that begins over a store
abbrev pub start_over : {D L : Type 0} → ℕ → D → L → Store → SessionStart D L
start_over now disk links store =
    record { disk = disk; links = links; from = origin_over now store }

-- Between two lines. The lines so far lead to a session that the updater holds, and each was
-- answered. From the first call on each image that a stop may leave stands for a prefix of them. No
-- more bytes were written than they cost.
pub record Between {D L : Type 0} (on : Ghosts D) (net : LinksGhosts L) (start : SessionStart D L)
    (course : Course) (disk : D) (links : L) : Type 0 where
  pub session : Session
  pub stored : Holds on course.updater disk session
  pub runs : RunsTo start.from course.lines.items session
  pub moment : course.now ≡ moment_behind start.from.now course.lines.items
  pub bytes : ℕ
  pub walk : Walks net (net.links start.links) start.from (on.moment start.disk + 1) start.links
      course.lines.items session (on.moment disk) bytes links
  pub written : on.total disk ≤ on.total start.disk + bytes
  pub marks : AreMarkedBy course.lines.items (on.moment disk)
  pub started : on.moment start.disk + 1 ≤ on.moment disk
  pub past : (t : ℕ) (image : List ℕ) → t ≤ on.moment start.disk
      → on.left_at disk t image → on.left_at start.disk t image
  pub since : (t : ℕ) (image : List ℕ) → on.moment start.disk + 1 ≤ t → t ≤ on.moment disk
      → on.left_at disk t image
      → StandsForPrefix start.from (report_of course.lines.items None)
      (marked_by course.lines.items t) image

-- At the end. From the first call on each image stands for a prefix of the lines and of the event
-- that was begun. Where the disk did not fail, which is status 4, reads stand for the session that
-- the lines lead to. No more bytes were written than they and that event cost.
pub record Ended {D L : Type 0} (on : Ghosts D) (net : LinksGhosts L) (start : SessionStart D L)
    (status : ℕ) (report : Report) (disk : D) (links : L) : Type 0 where
  pub session : Session
  pub runs : RunsTo start.from report.lines session
  pub last : ℕ
  pub bytes : ℕ
  pub behind : L
  pub walk : Walks net (net.links start.links) start.from (on.moment start.disk + 1) start.links
      report.lines session last bytes behind
  pub calls : status ≢ code_of DiskFault → on.moment disk ≡ last
  pub more : ℕ
  pub begins : CostsBegun (moment_behind start.from.now report.lines) (net.links behind)
      (net.links links) session report.begun more
  pub written : on.total disk ≤ on.total start.disk + bytes + more
  pub begun : IsBegunServed net (moment_behind start.from.now report.lines) session behind
      report.begun links
  pub past : (t : ℕ) (image : List ℕ) → t ≤ on.moment start.disk
      → on.left_at disk t image → on.left_at start.disk t image
  pub since : (t : ℕ) (image : List ℕ) → on.moment start.disk + 1 ≤ t → t ≤ on.moment disk
      → on.left_at disk t image
      → StandsForPrefix start.from report (marked_by (answered status report.lines) t) image
  pub reads : status ≢ code_of DiskFault → StandsFor (on.seen disk) session.store
