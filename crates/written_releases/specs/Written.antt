-- Releases whose manifests the writer writes.
use Rattle.std.specs.Prelude.{◌≡◌, ◌≤◌, ℕ, List, [], ◌∷◌, All, IsTrue, IsUtf8, length}
use Rattle.small_types.specs.declared.limits.TheConstants.{MANIFEST_LIMIT}
use Rattle.digest_list.specs.Matches.{Matches}
use Rattle.manifest_tree.specs.WrittenText.{is_content}
use Rattle.manifests.specs.declared.facts.Application.{Application}
use Rattle.manifests.specs.declared.facts.Deployment.{Deployment}
use Rattle.manifest_writer.specs.Applications.{application_text}
use Rattle.manifest_writer.specs.Deployments.{deployment_text}
use Rattle.manifest_writer.specs.Held.{IsHeldDigest}
use Rattle.machine.specs.Fields.{IsApplication, IsDeployment}

-- a release: what its two manifests say, whose it is, and what it is called
pub record NamedRelease : Type 0 where
  pub deployment : Deployment
  pub application : Application
  pub publisher : List ℕ
  pub product : List ℕ

-- their texts, as an install hears them
abbrev pub texts_of : NamedRelease → List (List ℕ)
texts_of r = deployment_text r.deployment r.publisher r.product ∷ application_text r.application
    ∷ []

-- a text that may stand in a manifest
pub record IsContent (text : List ℕ) : Type 0 where
  pub allowed : IsTrue (is_content text)
  pub utf8 : IsUtf8 text

-- what it says may be held, and its text is not too long
pub record IsWrittenDeployment (d : Deployment) (publisher product : List ℕ) : Type 0 where
  pub may_be_held : IsDeployment d
  pub digests : All IsHeldDigest d.app_list
  pub publisher_is : IsContent publisher
  pub product_is : IsContent product
  pub short : length (deployment_text d publisher product) ≤ MANIFEST_LIMIT

-- the same of an application
pub record IsWrittenApplication (a : Application) : Type 0 where
  pub may_be_held : IsApplication a
  pub digests : All (λ entry. All IsHeldDigest entry.list) a.files
  pub short : length (application_text a) ≤ MANIFEST_LIMIT

-- both are so, and the deployment lists the text of the application, its key and its version
pub record IsWrittenRelease (r : NamedRelease) : Type 0 where
  pub deployment_is : IsWrittenDeployment r.deployment r.publisher r.product
  pub application_is : IsWrittenApplication r.application
  pub listed : Matches r.deployment.app_list r.deployment.app_size (application_text r.application)
  pub key : r.application.identity.key ≡ r.deployment.app.key
  pub version : r.application.identity.version ≡ r.deployment.app.version
