-- Lines that hear what the writer writes, and are answered.
use Rattle.std.specs.Prelude.{◌≡◌, ℕ, List, [], ◌∷◌, Some, Ok}
use Rattle.identity.specs.declared.version.Version.{Version}
use Rattle.manifest_parts.specs.Parts.{Tells}
use Rattle.manifests.specs.declared.facts.Application.{Application}
use Rattle.manifests.specs.declared.facts.Deployment.{Deployment}
use Rattle.manifests.specs.Applications.{application_of}
use Rattle.manifests.specs.Deployments.{deployment_of}
use Rattle.manifest_writer.specs.Applications.{application_text}
use Rattle.manifest_writer.specs.Deployments.{deployment_text}
use Rattle.machine.specs.declared.command.Command.TheVariants.{Check, Install}
use Rattle.machine.specs.declared.event.Event.TheVariants.{Line}
use Rattle.machine.specs.declared.reply.Reply.TheVariants as says
use Rattle.machine.specs.Current.{current_version}
use Rattle.machine.specs.Installed.{AreFetched, above}
use Rattle.machine.specs.Machine.{Step}
use Rattle.machine.specs.Minimums.{minimum_of}
use Rattle.machine.specs.Shape.{shape_of}
use Rattle.machine.specs.Store.{Session}
use Rattle.machine.specs.Valid.{Ordered}
use Rattle.machine.specs.Views.{ListedFile}
use Rattle.written_releases.specs.Installable.{IsInstallable}
use Rattle.written_releases.specs.Written.{IsWrittenApplication, IsWrittenDeployment, IsWrittenRelease, NamedRelease, texts_of}

-- ---- texts

-- reading the text of a deployment gives what it says
abbrev pub WrittenDeploymentsTell : Type 0
WrittenDeploymentsTell = (d : Deployment) (publisher product : List ℕ)
    → IsWrittenDeployment d publisher product
    → Tells deployment_of (deployment_text d publisher product) (Ok d)

-- and so does that of an application
abbrev pub WrittenApplicationsTell : Type 0
WrittenApplicationsTell = (a : Application) → IsWrittenApplication a
    → Tells application_of (application_text a) (Ok a)

-- ---- lines

-- In each session over a store within its order and its limits, at each moment: where the release may
-- be installed, and there are whole files of it, a line that installs it hears its texts and is
-- answered with its key, its version and the number of the next view.
abbrev pub InstallsAreAnswered : Type 0
InstallsAreAnswered = (now : ℕ) (url : List ℕ) (old : Session) (r : NamedRelease)
    (files originals : List ListedFile) → Ordered old.store → IsWrittenRelease r
    → IsInstallable url (shape_of old) r.deployment r.application
    → AreFetched old.store r.application files originals
    → (new : Session)
    × Step now old (Line (Install url) now (record { texts = texts_of r }))
    (Some (says.Installed r.deployment.identity.key r.deployment.identity.version
    old.store.next_view)) new

-- In each session, at each moment: where a version is current, a line that checks its application
-- hears the text of a deployment of that and is answered: it offers the version, if it is above the
-- current one, and shows the minimum that then holds.
abbrev pub ChecksAreAnswered : Type 0
ChecksAreAnswered = (now : ℕ) (old : Session) (d : Deployment) (publisher product : List ℕ)
    (have : Version) → IsWrittenDeployment d publisher product
    → current_version d.identity.key (shape_of old) ≡ Some have
    → (new : Session)
    × Step now old (Line (Check d.identity.key) now
    (record { texts = deployment_text d publisher product ∷ [] }))
    (Some (says.Checked (above have (Some d.identity.version))
    (minimum_of d.identity.key new.store.apps))) new
