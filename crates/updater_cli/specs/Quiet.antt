-- What a line finds, over links that tell, where none of them failed in it.
use Rattle.std.specs.Prelude.{◌≡◌, ◌<◌, ℕ, Bool, List, [], ◌∷◌, Any, IfSome, Option, Some, None, Ok, slice_get}
use Rattle.small_types.specs.declared.limits.TheConstants.{MANIFEST_LIMIT}
use Rattle.small_types.specs.declared.target.Target.{Target}
use Rattle.addresses.specs.Address.{target_of_text}
use Rattle.addresses.specs.Join.{file_target_of}
use Rattle.causes.specs.declared.cause.Cause.{Cause}
use Rattle.identity.specs.declared.key.Key.{Key}
use Rattle.manifests.specs.declared.facts.FileEntry.{FileEntry}
use Rattle.links.specs.declared.links.Links.{Ghosts as LinksGhosts}
use Rattle.links.specs.Links.{LinksState, failures_of}
use Rattle.fetcher.specs.Fetched.{AllTell, AreQuiet}
use Rattle.fetcher.specs.Given.{GivenFile, GivenText}
use Rattle.machine.specs.declared.command.Command.{Command}
use Rattle.machine.specs.declared.command.Command.TheVariants.{Install, Check, Group}
use Rattle.machine.specs.declared.event.Event.{Event}
use Rattle.machine.specs.declared.event.Event.TheVariants.{Boot, Line, Unread}
use Rattle.machine.specs.declared.reply.Reply.{Reply}
use Rattle.machine.specs.declared.reply.Reply.TheVariants.{AllLinks}
use Rattle.machine.specs.declared.report.ReportLine.{ReportLine}
use Rattle.machine.specs.CheckRow.{provider_of}
use Rattle.machine.specs.GroupRow.{OfComing}
use Rattle.machine.specs.Groups.{group_wanted}
use Rattle.machine.specs.InstallRow.{OfDeployment, OfRelease, base_of}
use Rattle.machine.specs.Machine.{Step}
use Rattle.machine.specs.Shape.{Shape, shape_of}
use Rattle.machine.specs.Store.{Session}
use Rattle.machine.specs.Wanted.{wanted}
use Rattle.updater_cli.specs.Installable.{InstallsWhereItCan}
use Rattle.updater_cli.specs.Report.{IsLineServed, Origin, origin_after}
use Rattle.updater_cli.specs.Walk.{Walks}

-- ---- quiet lines

-- In a quiet line no link failed. Its number of failures is that of the line before it, and below
-- the greatest one of its type, where it would stand still.
pub record IsQuiet (from : ℕ) (l : ReportLine) : Type 0 where
  pub same : l.failures ≡ from
  pub below : from < 0xffff_ffff_ffff_ffff

-- ---- files

-- no link has the file at its address, which is the target
pub record IsLacked (base : Target) (mapped : Bool) (links : LinksState) (target : Target)
    (entry : FileEntry) : Type 0 where
  pub at : file_target_of base mapped entry.name ≡ Ok target
  pub none : GivenFile entry.list entry.size links target None

-- ---- an install

-- What no link had: the deployment manifest as the line began, the application manifest as it
-- began, or a wanted file as it ended.
abbrev pub LacksOne :
    Shape → List ℕ → List (List ℕ) → LinksState → LinksState → Target → Type 0
LacksOne shape url [] before after target = GivenText MANIFEST_LIMIT before target None
LacksOne shape url (text ∷ []) before after target =
    OfDeployment (text ∷ []) (λ d. GivenFile d.app_list d.app_size before target None)
LacksOne shape url (text ∷ other ∷ others) before after target =
    OfRelease (text ∷ other ∷ others) (λ d a. (base : Target) × (base_of url d ≡ Ok base)
    × Any (IsLacked base d.mapped after target) (wanted shape.views a))

-- The texts that it heard are those that the links gave as the line began. Where it is answered
-- that no link gave a target, none had it.
pub record InstallFinds (shape : Shape) (url : List ℕ) (texts : List (List ℕ))
    (before after : LinksState) (reply : Reply) : Type 0 where
  pub deployment : IfSome (slice_get texts 0) (λ text.
      (target : Target) × (target_of_text url ≡ Ok target)
      × GivenText MANIFEST_LIMIT before target (Some text))
  pub application : IfSome (slice_get texts 1) (λ text.
      OfDeployment texts (λ d. (base : Target) × (base_of url d ≡ Ok base)
      × GivenFile d.app_list d.app_size before base (Some text)))
  pub lacks : (target : Target) (causes : List Cause) → reply ≡ AllLinks target causes
      → LacksOne shape url texts before after target

-- ---- a check

-- the manifest that it heard is the one that the links gave as the line began; where it is answered
-- that no link gave it, none had it
pub record CheckFinds (key : Key) (shape : Shape) (texts : List (List ℕ)) (before : LinksState)
    (reply : Reply) : Type 0 where
  pub text : IfSome (slice_get texts 0) (λ text.
      (target : Target) × (provider_of key shape.apps ≡ Some target)
      × GivenText MANIFEST_LIMIT before target (Some text))
  pub lacks : (target : Target) (causes : List Cause) → reply ≡ AllLinks target causes
      → GivenText MANIFEST_LIMIT before target None

-- ---- a group

-- where it is answered that no link gave a file, none had it as the line ended
pub record GroupFinds (lease : ℕ) (group : List ℕ) (shape : Shape) (after : LinksState)
    (reply : Reply) : Type 0 where
  pub lacks : (target : Target) (causes : List Cause) → reply ≡ AllLinks target causes
      → OfComing lease group shape (λ view.
      Any (IsLacked view.base view.deployment.mapped after target)
      (group_wanted shape.views group view.application))

-- ---- lines

-- any other command asks no link
abbrev pub CommandFinds :
    Command → List (List ℕ) → LinksState → LinksState → Reply → Session → Type 0
CommandFinds (Install url) texts before after reply old =
    InstallFinds (shape_of old) url texts before after reply
CommandFinds (Check key) texts before after reply old =
    CheckFinds key (shape_of old) texts before reply
CommandFinds (Group lease group) texts before after reply old =
    GroupFinds lease group (shape_of old) after reply
CommandFinds _ texts before after reply old = Unit {0}

abbrev pub EventFinds : Event → Option Reply → LinksState → LinksState → Session → Type 0
EventFinds (Boot boot) reply before after old = Unit {0}
EventFinds (Line command now heard) reply before after old =
    IfSome reply (λ answer. CommandFinds command heard.texts before after answer old)
EventFinds (Unread fault) reply before after old = Unit {0}

-- A line from that session, from the links before it to those after it. The count of none of them
-- rose, of one that went neither; it found what they had, and an install that can be made was made.
pub record LineFinds (l : ReportLine) (before after : LinksState) (old : Session) : Type 0 where
  pub quiet : AreQuiet before after
  pub finds : EventFinds l.event l.reply before after old
  pub installs : InstallsWhereItCan before after l.event l.reply old

-- ---- all lines

-- The lines lead to this session, and took the links from those before them to those behind. Each
-- shows how often links had failed by then. Those of which `Holds` is so found what they had; it is
-- asked of the number of failures before a line, and of the line.
abbrev pub LinesFind : {L : Type 0} → LinksGhosts L → (ℕ → ReportLine → Type 0)
    → ℕ → Origin → L → List ReportLine → Session → L → Type 0
LinesFind net Holds failures from before [] new behind =
    (new ≡ from.session) × (behind ≡ before)
LinesFind {L = L} net Holds failures from before (l ∷ lines) new behind =
    (mid : Session) × (after : L) × Step from.now from.session l.event l.reply mid
    × IsLineServed net l.event l.reply before after from.session mid
    × (l.failures ≡ failures_of (net.links after))
    × (Holds failures l → LineFinds l (net.links before) (net.links after) from.session)
    × LinesFind net Holds l.failures (origin_after from l.reply mid) after lines new behind

-- Each quiet line found what the links had. So did each line at all, where no link's count rose
-- from the first line to the last.
pub record WalkFinds {L : Type 0} (net : LinksGhosts L) (from : Origin) (before : L)
    (lines : List ReportLine) (new : Session) (behind : L) : Type 0 where
  pub quiet : LinesFind net IsQuiet (failures_of (net.links before)) from before lines new behind
  pub undisturbed : AreQuiet (net.links before) (net.links behind)
      → LinesFind net (λ failures l. Unit {0}) (failures_of (net.links before)) from before lines
      new behind

-- so it is of each walk that begins with links that tell
abbrev pub WalksFind : {L : Type 0} → LinksGhosts L → LinksState → L → Type 0
WalksFind {L = L} net first before =
    AllTell (net.links before) → (from : Origin) (mark : ℕ) (lines : List ReportLine)
    (new : Session) (last bytes : ℕ) (behind : L)
    → Walks net first from mark before lines new last bytes behind
    → WalkFinds net from before lines new behind
