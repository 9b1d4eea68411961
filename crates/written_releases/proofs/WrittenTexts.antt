-- What the writer writes tells what it was written of.
use Rattle.std.proofs.Common.{ℕ, List, [], ◌∷◌, All, Ok}
use Rattle.std.proofs.lemmas.List.Elements.{All-cons, All-head, All-nil, All-tail}
use Rattle.manifest_tree.proofs.Written.{spells}
use Rattle.manifest_parts.specs.Parts.{Tells}
use Rattle.manifests.specs.declared.facts.Application.{Application}
use Rattle.manifests.specs.declared.facts.Deployment.{Deployment}
use Rattle.manifests.specs.declared.facts.FileEntry.{FileEntry}
use Rattle.manifests.specs.Applications.{application_of}
use Rattle.manifests.specs.Deployments.{deployment_of}
use Rattle.manifest_writer.specs.Applications.{application_text, application_tree}
use Rattle.manifest_writer.specs.Deployments.{deployment_text, deployment_tree}
use Rattle.manifest_writer.specs.Held.{IsHeldDeployment, IsHeldDigest, IsHeldFile}
use Rattle.manifest_writer.proofs.ReadApplications.{application_read}
use Rattle.manifest_writer.proofs.ReadDeployments.{deployment_read}
use Rattle.manifest_writer.proofs.Writable.{application_writable, deployment_writable}
use Rattle.machine.specs.Fields.{HasEntry}
use Rattle.written_releases.specs.Written.{IsWrittenApplication, IsWrittenDeployment}
use Rattle.written_releases.proofs.Utf8Trees.{element_utf8}
use Rattle.written_releases.proofs.WrittenUtf8.{application_utf8, deployment_utf8}

-- ---- a deployment

held_deployment : (d : Deployment) (publisher product : List ℕ) → IsWrittenDeployment d publisher product → IsHeldDeployment d
held_deployment d publisher product is = record {
  version = is.may_be_held.identity.version;
  minimum = is.may_be_held.minimum;
  app = is.may_be_held.app.version;
  app_list = record { count = is.may_be_held.app_list; each = is.digests };
}

pub deployment_tells : (d : Deployment) (publisher product : List ℕ) → IsWrittenDeployment d publisher product → Tells deployment_of (deployment_text d publisher product) (Ok d)
deployment_tells d publisher product is =
    let facts = is.may_be_held.facts in
    let held = held_deployment d publisher product is in
    let t = deployment_tree d publisher product in
    record {
      tree = t;
      spelled = spells t (deployment_writable d publisher product facts held is.publisher_is.allowed is.product_is.allowed)
          (element_utf8 t (deployment_utf8 d publisher product is.may_be_held is.publisher_is.utf8 is.product_is.utf8)) is.short;
      facts_are = deployment_read d facts held publisher product;
    }

-- ---- an application

abbrev HasBytes : FileEntry → Type 0
HasBytes entry = All IsHeldDigest entry.list

held_files : (files : List FileEntry) → All HasEntry files → All HasBytes files → All IsHeldFile files
held_files [] have are = All-nil IsHeldFile
held_files (e ∷ files) have are =
    let has = All-head HasEntry e files have in
    All-cons IsHeldFile e files (record { name = has.name; list = record { count = has.list; each = All-head HasBytes e files are } })
    (held_files files (All-tail HasEntry e files have) (All-tail HasBytes e files are))

pub application_tells : (a : Application) → IsWrittenApplication a → Tells application_of (application_text a) (Ok a)
application_tells a is =
    let facts = is.may_be_held.facts in
    let version = is.may_be_held.identity.version in
    let held = held_files a.files is.may_be_held.files is.digests in
    let t = application_tree a in
    record {
      tree = t;
      spelled = spells t (application_writable a facts version held) (element_utf8 t (application_utf8 a is.may_be_held)) is.short;
      facts_are = application_read a facts version held;
    }
