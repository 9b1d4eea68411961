-- What was published is what is read: from the folder that a publish reads to the replies of a
-- client.
use Rattle.std.specs.Prelude.{◌≡◌, ◌≢◌, ◌⊎◌, ℕ, Bool, true, List, All, Any, Contains, length, slice_get, Option, Some, Ok}
use Rattle.small_types.specs.declared.limits.TheConstants.{MANIFEST_LIMIT}
use Rattle.small_types.specs.declared.target.Target.{Target}
use Rattle.folders.specs.declared.folder.Held.{Held}
use Rattle.folders.specs.Files.{file_in}
use Rattle.addresses.specs.Address.{target_of_text}
use Rattle.addresses.specs.Join.{app_target_of, file_target_of}
use Rattle.identity.specs.declared.key.Key.{Key}
use Rattle.identity.specs.declared.version.Version.{Version}
use Rattle.digest_list.specs.Matches.{Matches}
use Rattle.manifests.specs.declared.facts.FileEntry.{FileEntry}
use Rattle.fetcher.specs.Given.{GivenFile, GivenText}
use Rattle.publish_plan.specs.Places.{deployment_name, target_name}
use Rattle.published_paths.specs.Reached.{Reaches}
use Rattle.machine.specs.declared.command.Command.TheVariants.{Install, Launch, Local, Read}
use Rattle.machine.specs.declared.event.Event.{Event}
use Rattle.machine.specs.declared.event.Event.TheVariants.{Line}
use Rattle.machine.specs.declared.event.Heard.{Heard}
use Rattle.machine.specs.declared.reply.Reply.{Reply}
use Rattle.machine.specs.declared.reply.Reply.TheVariants as says
use Rattle.machine.specs.Current.{current_view, data_of, listed_by, view_at}
use Rattle.machine.specs.DataLaws.{IsOn, NoneChangesData}
use Rattle.machine.specs.InstallRow.{OfDeployment}
use Rattle.machine.specs.Machine.{Answers, Run, Step}
use Rattle.machine.specs.Migrated.{IsKept}
use Rattle.machine.specs.ReadRow.{part}
use Rattle.machine.specs.Sound.{Sound}
use Rattle.machine.specs.Store.{Session, Store}
use Rattle.machine.specs.Views.{DataFile, ListedFile, View, key_of}
use Rattle.machine.specs.Words.{IsEvent}
use Rattle.updater_cli.specs.Offered.{HasFiles, IsFirstSite, PublishInput, Sites, WritesRelease, input_file, links_of, listed}

-- ---- an install

-- The texts that an install heard are those that the links give: at its address, and at the one to
-- which the first text leads.
pub record HeardGiven (sites : Sites) (url : List ℕ) (texts : List (List ℕ)) : Type 0 where
  pub given : Target
  pub read : target_of_text url ≡ Ok given
  pub deployment : GivenText MANIFEST_LIMIT (links_of sites) given (slice_get texts 0)
  pub application : OfDeployment texts (λ d. (base : Target)
      × (app_target_of given d.codebase ≡ Ok base)
      × GivenFile d.app_list d.app_size (links_of sites) base (slice_get texts 1))

-- ---- a run

-- lines of a run lead from one session to another
pub record RunsOn (old new : Session) : Type 0 where
  pub now : ℕ
  pub events : List Event
  pub replies : List (Option Reply)
  pub each : All IsEvent events
  pub run : Run now old events replies new

-- a line installs what was published, from an address of its deployment manifest; the view has this
-- number
pub record InstallsRelease (p : PublishInput) (sites : Sites) (key : Key) (number : ℕ)
    (old new : Session) : Type 0 where
  pub url : List ℕ
  pub at : ℕ
  pub heard : Heard
  pub version : Version
  pub event : IsEvent (Line (Install url) at heard)
  pub step : Step at old (Line (Install url) at heard)
      (Some (says.Installed key version number)) new
  pub texts : HeardGiven sites url heard.texts
  pub reaches : Reaches texts.given (deployment_name p.options)

-- a line launches the application; the lease is on the view of that number
pub record LaunchesView (key : Key) (number lease : ℕ) (old new : Session) : Type 0 where
  pub at : ℕ
  pub heard : Heard
  pub version : Version
  pub check_due : Bool
  pub event : IsEvent (Line (Launch key) at heard)
  pub step : Step at old (Line (Launch key) at heard)
      (Some (says.Lease lease version check_due)) new
  pub leased : IsOn number lease new.store

-- The parts of a run: from a sound session to an install of what was published, from there to a
-- launch on its view, and from there to one more line.
pub record PublishedRun (p : PublishInput) (sites : Sites) : Type 0 where
  pub first : Session
  pub before : Session
  pub installed : Session
  pub launching : Session
  pub launched : Session
  pub last : Session
  pub key : Key
  pub number : ℕ
  pub lease : ℕ
  pub sound : Sound first.store
  pub start : RunsOn first before
  pub install : InstallsRelease p sites key number before installed
  pub then_lines : RunsOn installed launching
  pub launch : LaunchesView key number lease launching launched
  pub more_lines : RunsOn launched last

-- ---- bytes by their digests

-- the bytes of a program file or of a data file of a kept view
abbrev pub KeepsBytes : Session → List ℕ → Type 0
KeepsBytes session bytes =
    Any (λ (view : View). Any (λ (file : ListedFile). file.bytes ≡ bytes) view.program_files)
    session.store.views
    ⊎ Any (λ (view : View). Any (λ (file : DataFile). file.bytes ≡ bytes) view.data_files)
    session.store.views

-- the bytes match no entry of the release, or they stand in the folder where its file was written
abbrev pub AreNoOthers : PublishInput → List Held → List ℕ → Type 0
AreNoOthers p folder bytes = (entry : FileEntry) → Contains (listed p) entry
    → Matches entry.list entry.size bytes
    → file_in (target_name p.options entry.name) folder ≡ Some bytes

-- so it is of all bytes that the session keeps, from whatever link
abbrev pub KeepsNoOthers : PublishInput → List Held → Session → Type 0
KeepsNoOthers p folder session =
    (bytes : List ℕ) → KeepsBytes session bytes → AreNoOthers p folder bytes

-- ---- what is given and read

-- at its address beside the view's application manifest the links give the input file
abbrev pub IsGiven : PublishInput → Sites → View → FileEntry → Type 0
IsGiven p sites view entry = (target : Target)
    → file_target_of view.base view.deployment.mapped entry.name ≡ Ok target
    → (whole : List ℕ) × (input_file p entry.name ≡ Some whole)
    × GivenFile entry.list entry.size (links_of sites) target (Some whole)

-- a reply shows the length of the input file of the name, and a part of its bytes
pub record ShowsInput (p : PublishInput) (name : List ℕ) (from count shown : ℕ) (bytes : List ℕ)
    : Type 0 where
  pub whole : List ℕ
  pub input : input_file p name ≡ Some whole
  pub size : shown ≡ length whole
  pub is_part : bytes ≡ part from count whole

-- the view of that number deploys a data file of the name, and no old one stayed under it
pub record IsFreshData (number : ℕ) (name : List ℕ) (old new : Store) : Type 0 where
  pub view : View
  pub kept : view_at number new.views ≡ Some view
  pub entry : FileEntry
  pub there : Contains view.application.files entry
  pub local : entry.local ≡ true
  pub named : entry.name ≡ name
  pub alone : (file : DataFile) → IsKept (data_of (current_view (key_of view) old))
      (listed_by (current_view (key_of view) old)) view.application.files file
      → ◌≢◌ {A = List ℕ} file.name name

-- behind the install no line puts or removes it on that view
pub record IsUntouched {p : PublishInput} {sites : Sites} (name : List ℕ) (c : PublishedRun p sites)
    : Type 0 where
  pub before : NoneChangesData c.number name c.then_lines.now c.installed c.then_lines.events
      c.then_lines.replies c.launching c.then_lines.run
  pub behind : NoneChangesData c.number name c.more_lines.now c.launched c.more_lines.events
      c.more_lines.replies c.last c.more_lines.run

-- the view that was installed lists the input files, and each is given as it was published
abbrev pub GivesInput : (p : PublishInput) (sites : Sites) → PublishedRun p sites → Type 0
GivesInput p sites c =
    (view : View) → view_at c.number c.installed.store.views ≡ Some view
    → (view.application.files ≡ listed p)
    × ((entry : FileEntry) → Contains (listed p) entry → IsGiven p sites view entry)

-- at the last line each read on the lease that is answered shows a part of the input file of its
-- name, whether the program file is required or of a group
abbrev pub ReadsInput : (p : PublishInput) (sites : Sites) → PublishedRun p sites → Type 0
ReadsInput p sites c =
    (at : ℕ) (heard : List (List ℕ)) (name : List ℕ) (from count shown : ℕ) (bytes : List ℕ)
    (new : Session) → Answers at heard c.last (Read c.lease name from count) (says.Read shown bytes)
    new
    → ShowsInput p name from count shown bytes

-- so does each read of a data file that came fresh and was not touched since
abbrev pub ReadsInputData : (p : PublishInput) (sites : Sites) → PublishedRun p sites → Type 0
ReadsInputData p sites c =
    (at : ℕ) (heard : List (List ℕ)) (name : List ℕ) (from count shown : ℕ) (bytes : List ℕ)
    (new : Session) → IsFreshData c.number name c.before.store c.installed.store
    → IsUntouched name c
    → Answers at heard c.last (Local c.lease name from count) (says.Read shown bytes) new
    → ShowsInput p name from count shown bytes

-- ---- the laws

-- The first link's site is a folder that holds what a publish writes, at what the install asks for.
pub record IsOffered (p : PublishInput) (files folder : List Held) (sites : Sites)
    (c : PublishedRun p sites) : Type 0 where
  pub writes : WritesRelease p files
  pub holds : HasFiles folder files
  pub first : IsFirstSite p c.install.url folder sites

-- then it is given
abbrev pub PublishedIsGiven : Type 0
PublishedIsGiven = (p : PublishInput) (files folder : List Held) (sites : Sites)
    (c : PublishedRun p sites) → IsOffered p files folder sites c → GivesInput p sites c

-- and it is read, where at the last line no other bytes are kept that match an entry of the release
abbrev pub PublishedIsRead : Type 0
PublishedIsRead = (p : PublishInput) (files folder : List Held) (sites : Sites)
    (c : PublishedRun p sites) → IsOffered p files folder sites c → KeepsNoOthers p folder c.last
    → ReadsInput p sites c

-- so are its data files, where none are kept behind the install
abbrev pub PublishedDataIsRead : Type 0
PublishedDataIsRead = (p : PublishInput) (files folder : List Held) (sites : Sites)
    (c : PublishedRun p sites) → IsOffered p files folder sites c
    → KeepsNoOthers p folder c.installed
    → ReadsInputData p sites c
