-- A session of three lines over a link in memory with the pages of a release: an install of it, a
-- launch, and a read.
use Rattle.std.specs.Prelude.{◌≡◌, ℕ, Bool, true, List, [], ◌∷◌, Some, Ok}
use Rattle.small_types.specs.declared.target.Target.{Target}
use Rattle.addresses.specs.Address.{target_of_text}
use Rattle.folders.specs.declared.folder.Held.{Held}
use Rattle.identity.specs.declared.key.Key.{Key}
use Rattle.identity.specs.declared.version.Version.{Version}
use Rattle.links.specs.declared.mem_link.Page.{Page}
use Rattle.links.specs.Links.{LinksState}
use Rattle.links.specs.Pages.{page_in}
use Rattle.publish_plan.specs.Places.{deployment_name}
use Rattle.published_paths.specs.Reached.{Reaches}
use Rattle.machine.specs.declared.command.Command.{Command}
use Rattle.machine.specs.declared.command.Command.TheVariants.{Install, Launch, Read}
use Rattle.machine.specs.declared.event.Event.TheVariants.{Line}
use Rattle.machine.specs.declared.reply.Reply.{Reply}
use Rattle.machine.specs.declared.reply.Reply.TheVariants as says
use Rattle.machine.specs.declared.report.ReportLine.{ReportLine}
use Rattle.machine.specs.Sound.{Sound}
use Rattle.machine.specs.Store.{Session}
use Rattle.updater_cli.specs.Offered.{PublishInput, WritesRelease}
use Rattle.updater_cli.specs.Published.{AreNoOthers, ShowsInput}
use Rattle.updater_cli.specs.Releases.{AreReleasePages}
use Rattle.updater_cli.specs.Report.{AreRunFrom, Origin}
use Rattle.updater_cli.specs.Sites.{AreOfSites}

-- ---- the link

-- one link, which tells, and whose site is these pages
pub record IsPageLink (pages : List Page) (links : LinksState) : Type 0 where
  pub one : links.there ≡ true ∷ []
  pub tells : (n : ℕ) → (links.link n).tells
  pub shows : (n : ℕ) (target : Target) → (links.link n).site target ≡ page_in target pages

-- no page has other bytes than the release that match an entry of it
abbrev pub HaveNoOthers : PublishInput → List Held → List Page → Type 0
HaveNoOthers p files pages = (target : Target) (bytes : List ℕ) → page_in target pages ≡ Some bytes
    → AreNoOthers p files bytes

-- ---- the lines

-- what the lines of a report show: the moment of a line, what it heard, and its marks
pub record Shown : Type 0 where
  pub at : ℕ
  pub heard : List (List ℕ)
  pub mark : ℕ
  pub failures : ℕ

abbrev pub line_of : Command → Reply → Shown → ReportLine
line_of command reply shown = record {
  event = Line command shown.at (record { texts = shown.heard });
  reply = Some reply;
  mark = shown.mark;
  failures = shown.failures;
}

-- An install from the address, which heard two manifests and brought this view; a launch of the
-- application, with this lease; and a read on the lease, of this part of the file of the name.
pub record ThreeLines : Type 0 where
  pub url : List ℕ
  pub key : Key
  pub version : Version
  pub number : ℕ
  pub deployment : List ℕ
  pub application : List ℕ
  pub install : Shown
  pub both : install.heard ≡ deployment ∷ application ∷ []
  pub lease : ℕ
  pub launched : Version
  pub check_due : Bool
  pub launch : Shown
  pub name : List ℕ
  pub from : ℕ
  pub count : ℕ
  pub size : ℕ
  pub bytes : List ℕ
  pub read : Shown

abbrev pub lines_of : ThreeLines → List ReportLine
lines_of t =
    line_of (Install t.url) (says.Installed t.key t.version t.number) t.install
    ∷ line_of (Launch t.key) (says.Lease t.lease t.launched t.check_due) t.launch
    ∷ line_of (Read t.lease t.name t.from t.count) (says.Read t.size t.bytes) t.read ∷ []

-- ---- the session

-- The lines are a session over such a link, from a sound store without a view, where the pages are
-- those of the release, at what an install from the address asks for.
pub record IsSession (p : PublishInput) (files : List Held) (pages : List Page) (links : LinksState)
    (t : ThreeLines) : Type 0 where
  pub written : WritesRelease p files
  pub given : Target
  pub address : target_of_text t.url ≡ Ok given
  pub reaches : Reaches given (deployment_name p.options)
  pub paged : AreReleasePages p files given pages
  pub others : HaveNoOthers p files pages
  pub link : IsPageLink pages links
  pub from : Origin
  pub last : Session
  pub sound : Sound from.session.store
  pub none : from.session.store.views ≡ []
  pub run : AreRunFrom from.now (lines_of t)
  pub sites : AreOfSites links from (lines_of t) last

-- Then the read shows a part of the input file of its name.
abbrev pub ReadsWhatWasPublished : LinksState → Type 0
ReadsWhatWasPublished links = (p : PublishInput) (files : List Held) (pages : List Page)
    (t : ThreeLines) → IsSession p files pages links t
    → ShowsInput p t.name t.from t.count t.size t.bytes
