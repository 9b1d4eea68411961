-- A session in which two releases of one application are installed, and a third one is offered.
use Rattle.std.specs.Prelude.{◌≡◌, ℕ, true, false, List, [], ◌∷◌, codes, length, map, replicate, Some, None}
use Rattle.small_types.specs.declared.limits.TheConstants.{HALF_LEAST}
use Rattle.small_types.specs.declared.room.Room.{Room}
use Rattle.sha2.specs.Sha256.{sha256}
use Rattle.identity.specs.declared.identity.Identity.{Identity}
use Rattle.identity.specs.declared.key.Key.{Key}
use Rattle.identity.specs.declared.version.Version.{Version}
use Rattle.digest_list.specs.declared.algorithm.Algorithm.TheVariants.{Sha256}
use Rattle.digest_list.specs.declared.digest.Digest.{Digest}
use Rattle.manifests.specs.declared.facts.Application.{Application}
use Rattle.manifests.specs.declared.facts.Deployment.{Deployment}
use Rattle.manifests.specs.declared.facts.FileEntry.{FileEntry}
use Rattle.manifests.specs.declared.facts.Rule.TheVariants.{Before}
use Rattle.manifest_writer.specs.Applications.{application_text}
use Rattle.manifest_writer.specs.Deployments.{deployment_text}
use Rattle.machine.specs.declared.command.Command.TheVariants.{Check, Install}
use Rattle.machine.specs.declared.event.Event.{Event}
use Rattle.machine.specs.declared.event.Event.TheVariants.{Line}
use Rattle.machine.specs.declared.reply.Reply.TheVariants as says
use Rattle.machine.specs.Machine.{Run}
use Rattle.machine.specs.Sound.{Sound}
use Rattle.machine.specs.Store.{Session, empty, session_over}
use Rattle.written_releases.specs.declared.example.TheConstants.{BLOCKS, FIRST, SECOND, THIRD}
use Rattle.written_releases.specs.Written.{NamedRelease, texts_of}

-- ---- the releases, one for each number

-- the content of its file: as many bytes as the number
abbrev pub content : ℕ → List ℕ
content number = replicate number 97

abbrev pub digest_of : List ℕ → Digest
digest_of bytes = record { algorithm = Sha256; value = sha256 bytes }

abbrev pub program : ℕ → FileEntry
program number = record {
  name = codes "demo.exe";
  size = number;
  list = digest_of (content number) ∷ [];
  group = None;
  local = false;
}

abbrev pub demo_key : Key
demo_key = record {
  name = codes "demo";
  token = codes "0000000000000000";
  language = codes "neutral";
  architecture = codes "msil";
}

abbrev pub version : ℕ → Version
version number = record { a = number; b = 0; c = 0; d = 0 }

abbrev pub identity : ℕ → Identity
identity number = record { key = demo_key; version = version number; kind = [] }

abbrev pub application : ℕ → Application
application number = record {
  identity = identity number;
  entry = codes "demo.exe";
  parameters = [];
  files = program number ∷ [];
}

-- it lists the text of the application manifest
abbrev pub deployment : ℕ → Deployment
deployment number = record {
  identity = identity number;
  install = true;
  minimum = None;
  mapped = true;
  rule = Before;
  provider = None;
  codebase = codes "demo.manifest";
  app = identity number;
  app_size = length (application_text (application number));
  app_list = digest_of (application_text (application number)) ∷ [];
}

abbrev pub release : ℕ → NamedRelease
release number = record {
  deployment = deployment number;
  application = application number;
  publisher = codes "demo";
  product = codes "demo";
}

-- ---- the lines

abbrev pub url : List ℕ
url = codes "http://demo.test/demo.application"

-- an install that hears both texts of the release
abbrev pub install_line : ℕ → Event
install_line number = Line (Install url) 0 (record { texts = texts_of (release number) })

-- a check that hears the text of the release's deployment
abbrev pub check_line : ℕ → Event
check_line number = Line (Check demo_key) 0
    (record { texts = deployment_text (deployment number) (codes "demo") (codes "demo") ∷ [] })

-- ---- the session

-- a room with few blocks, and the least halves
abbrev pub small_room : Room
small_room = record { blocks = BLOCKS; half = HALF_LEAST }

-- It begins with an empty store. Both installs are answered with their views, and the check with
-- what it offers; the store at the end is sound, and has both views.
pub record TwoReleasesCome : Type 0 where
  pub last : Session
  pub run : Run 0 (session_over (empty small_room))
      (install_line FIRST ∷ install_line SECOND ∷ check_line THIRD ∷ [])
      (Some (says.Installed demo_key (version FIRST) 1)
      ∷ Some (says.Installed demo_key (version SECOND) 2)
      ∷ Some (says.Checked (Some (version THIRD)) None) ∷ [])
      last
  pub sound : Sound last.store
  pub views : map (λ view. view.number) last.store.views ≡ 1 ∷ 2 ∷ []
