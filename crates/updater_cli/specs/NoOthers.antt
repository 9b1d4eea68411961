-- How the premise comes that no other bytes are kept that match an entry of a release.
use Rattle.std.specs.Prelude.{◌≡◌, ℕ, List, All, Some}
use Rattle.small_types.specs.declared.target.Target.{Target}
use Rattle.folders.specs.declared.folder.Held.{Held}
use Rattle.links.specs.Links.{IsLeft, LinksState}
use Rattle.machine.specs.declared.command.Command.{Command}
use Rattle.machine.specs.declared.command.Command.TheVariants.{Put}
use Rattle.machine.specs.declared.event.Event.{Event}
use Rattle.machine.specs.declared.event.Event.TheVariants.{Boot, Line, Unread}
use Rattle.machine.specs.declared.report.ReportLine.{ReportLine}
use Rattle.machine.specs.Sound.{Sound}
use Rattle.machine.specs.Store.{Session}
use Rattle.updater_cli.specs.Offered.{PublishInput}
use Rattle.updater_cli.specs.Published.{AreNoOthers, KeepsNoOthers}
use Rattle.updater_cli.specs.Report.{AreRunFrom, Origin}
use Rattle.updater_cli.specs.Sites.{AreOfSites}

-- the site of no link that is left has others
abbrev pub SitesHaveNoOthers : PublishInput → List Held → LinksState → Type 0
SitesHaveNoOthers p folder links = (n : ℕ) (target : Target) (bytes : List ℕ) → IsLeft links n
    → (links.link n).site target ≡ Some bytes → AreNoOthers p folder bytes

-- a line puts none among data files
abbrev pub PutsNoOthers : PublishInput → List Held → Command → Type 0
PutsNoOthers p folder (Put lease name bytes) = AreNoOthers p folder bytes
PutsNoOthers p folder _ = Unit {0}

abbrev pub EventPutsNoOthers : PublishInput → List Held → Event → Type 0
EventPutsNoOthers p folder (Boot boot) = Unit {0}
EventPutsNoOthers p folder (Line command now heard) = PutsNoOthers p folder command
EventPutsNoOthers p folder (Unread fault) = Unit {0}

-- Lines hear and bring bytes of the links' sites. Where no site has others, no line puts others, and
-- none are kept before the lines, none are kept behind them.
abbrev pub NoOthersCome : LinksState → Type 0
NoOthersCome links = (p : PublishInput) (folder : List Held) (from : Origin)
    (lines : List ReportLine) (last : Session) → SitesHaveNoOthers p folder links
    → All (λ (l : ReportLine). EventPutsNoOthers p folder l.event) lines
    → KeepsNoOthers p folder from.session → Sound from.session.store → AreRunFrom from.now lines
    → AreOfSites links from lines last → KeepsNoOthers p folder last
