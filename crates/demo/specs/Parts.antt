-- What the parts of a generated run do.
use Rattle.std.specs.Prelude.{◌≡◌, ◌≢◌, ◌≤◌, ℕ, Bool, List, [], ◌∷◌, None, Result, Err, IfOk, IsTrue}
use Rattle.small_types.specs.declared.room.Room.{Room}
use Rattle.outside.specs.Streams.{Rose}
use Rattle.disks.specs.declared.disk.Disk.{Ghosts}
use Rattle.disks.specs.Moments.{Untouched}
use Rattle.links.specs.declared.links.Links.{Ghosts as LinksGhosts}
use Rattle.machine.specs.declared.command.Command.{Command}
use Rattle.machine.specs.declared.event.Heard.{Heard}
use Rattle.machine.specs.declared.reply.Reply.{Reply}
use Rattle.machine.specs.declared.reply.Reply.TheVariants as says
use Rattle.machine.specs.declared.event.Event.TheVariants.{Boot}
use Rattle.machine.specs.Machine.{Step}
use Rattle.machine.specs.Sound.{Sound}
use Rattle.machine.specs.Store.{Session}
use Rattle.updater.specs.Shown.{Updater}
use Rattle.updater.specs.Commanded.{Answered}
use Rattle.updater.specs.Updater.{Holds}
use Rattle.demo.specs.declared.fault.DemoFault.{DemoFault}
use Rattle.demo.specs.declared.fault.DemoFault.TheVariants.{DiskFault, NotAStore}
use Rattle.generated_release.specs.declared.release.GeneratedRelease.{GeneratedRelease}
use Rattle.generated_release.specs.declared.release.GeneratedRelease.TheVariants.{One, Three}
use Rattle.generated_release.specs.Options.{number_of, version_of}
use Rattle.demo.specs.declared.site.Site.{Site}
use Rattle.demo.specs.declared.summary.Installed.{Installed}
use Rattle.demo.specs.Run.{start}
use Rattle.demo.specs.Steps.{Cleans, Finishes, Installs, Launches}

-- ---- the disk

-- What the disk tells afterwards it told before, and its moment goes on. Its count of faults rises
-- exactly where the call ends by its fault. Where it tells, the new store reads as one.
pub record Touches {D T : Type 0} (on : Ghosts D) (old : D) (result : Result T DemoFault) (new : D)
    : Type 0 where
  pub told : on.tells new → on.tells old
  pub later : on.moment old ≤ on.moment new
  pub count : on.count old ≤ on.count new
  pub cause : result ≡ Err DiskFault → Rose (on.count old) (on.count new)
  pub quiet : result ≢ Err DiskFault → on.count new ≡ on.count old
  pub store : on.tells new → result ≢ Err NotAStore

-- a fault that stands for neither
abbrev pub IsNeitherFault : DemoFault → Type 0
IsNeitherFault fault = (fault ≢ DiskFault) × (fault ≢ NotAStore)

-- ---- lines

-- a sound session that is held, and of which P holds
pub record ReachesHeld {D : Type 0} (on : Ghosts D) (P : Session → Type 0) (updater : Updater)
    (disk : D) : Type 0 where
  pub session : Session
  pub is : P session
  pub holds : Holds on updater disk session
  pub sound : Sound session.store

-- Where the disk tells, a part of the run leads from each sound session that is held to another one,
-- so that P holds of what it answers and of the two.
pub record Goes {D T : Type 0} (on : Ghosts D) (P : T → Session → Session → Type 0)
    (updater_old : Updater) (disk_old : D) (result : Result T DemoFault) (updater_new : Updater)
    (disk_new : D) : Type 0 where
  pub leads : on.tells disk_new → (old : Session) → Holds on updater_old disk_old old
      → Sound old.store → IfOk result (λ x. ReachesHeld on (P x old) updater_new disk_new)
  pub touches : Touches on disk_old result disk_new

-- A look at kept files. The disk is only read. Where it tells, and the answer is true, P holds of the
-- room of each session that is held and of the bytes that reads give.
pub record Looks {D : Type 0} (on : Ghosts D) (P : Room → List ℕ → Type 0) (updater : Updater)
    (disk_old : D) (result : Result Bool DemoFault) (disk_new : D) : Type 0 where
  pub same : on.tells disk_new → (session : Session) → Holds on updater disk_old session
      → IfOk result (λ same. IsTrue same → P session.store.room (on.seen disk_old))
  pub still : Untouched on disk_old disk_new
  pub touches : Touches on disk_old result disk_new

-- a new store was made and opened
pub record OpensNew {D : Type 0} (on : Ghosts D) (disk_old : D) (result : Result Updater DemoFault)
    (disk_new : D) : Type 0 where
  pub begins : on.tells disk_new
      → IfOk result (λ updater. ReachesHeld on (Step 0 start (Boot 1) None) updater disk_new)
  pub touches : Touches on disk_old result disk_new

-- the first release was installed and launched
pub record FirstLaunched (seed : ℕ) (installed : Installed) (old new : Session) : Type 0 where
  pub first : Session
  pub one : Installs seed One installed old first
  pub launch : Launches first new

-- a clean takes nothing away; once the lease is finished another one takes a view
pub record FirstLeft (old new : Session) : Type 0 where
  pub cleaned : Session
  pub finished : Session
  pub clean : Cleans 0 old cleaned
  pub finish : Finishes cleaned finished
  pub clean_again : Cleans 1 finished new

-- the third release was installed, and the first was left
pub record ThirdInstalled (seed : ℕ) (installed : Installed) (old new : Session) : Type 0 where
  pub third : Session
  pub three : Installs seed Three installed old third
  pub left : FirstLeft third new

-- A command was answered, or the disk failed.
pub record CommandReplies {D L : Type 0} (on : Ghosts D) (net : LinksGhosts L) (command : Command)
    (updater_old : Updater) (disk_old : D) (links_old : L)
    (result : Result (Heard × Reply) DemoFault) (updater_new : Updater) (disk_new : D)
    (links_new : L) : Type 0 where
  pub line : on.tells disk_new → (old : Session) → Holds on updater_old disk_old old
      → Sound old.store
      → IfOk result (λ r. Answered on net 0 r.0.texts command disk_old links_old old r.1
      updater_new disk_new links_new)
  pub touches : Touches on disk_old result disk_new

-- the reply says that the release is installed, and the texts of the site were heard
pub record IsAsPublished (said : Heard × Reply) (release : GeneratedRelease) (site : Site)
    : Type 0 where
  pub reply : said.1 ≡ says.Installed site.key (version_of release) (number_of release)
  pub texts : said.0.texts ≡ site.deployment ∷ site.application ∷ []
