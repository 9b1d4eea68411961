-- A deployment and an application that belong together.
use Rattle.std.specs.Prelude.{◌≡◌, ◌≢◌, ℕ, List, Some, Ok}
use Rattle.identity.specs.declared.key.Key.{Key}
use Rattle.identity.specs.declared.version.Version.{Version}
use Rattle.digest_list.specs.Difference.{difference_of}
use Rattle.digest_list.specs.Matches.{Matches}
use Rattle.manifest_parts.specs.Parts.{Tells}
use Rattle.manifests.specs.declared.facts.Deployment.{Deployment}
use Rattle.manifests.specs.declared.facts.Application.{Application}
use Rattle.manifests.specs.declared.releases.ReleaseFault.{ReleaseFault}
use Rattle.manifests.specs.declared.releases.ReleaseFault.TheVariants.{Mismatch, IdentityDiffers, VersionDiffers, Memory}
use Rattle.manifests.specs.Applications.{application_of}

-- the bytes say the application, are the ones that the deployment lists, and have the key and the
-- version that it lists
pub record IsRelease (d : Deployment) (a : Application) (bytes : List ℕ) : Type 0 where
  pub application : Tells application_of bytes (Ok a)
  pub matching : Matches d.app_list d.app_size bytes
  pub key : a.identity.key ≡ d.app.key
  pub version : a.identity.version ≡ d.app.version

-- ---- why they do not belong together; each refusal comes where the ones before it do not apply

-- the application's key is not the listed one
pub record IsOtherKey (d : Deployment) (a : Application) (listed found : Key) : Type 0 where
  pub listed_is : listed ≡ d.app.key
  pub found_is : found ≡ a.identity.key
  pub other : listed ≢ found

-- the application has the listed key, and not the listed version
pub record IsOtherVersion (d : Deployment) (a : Application) (listed found : Version) : Type 0 where
  pub key : a.identity.key ≡ d.app.key
  pub listed_is : listed ≡ d.app.version
  pub found_is : found ≡ a.identity.version
  pub other : listed ≢ found

-- a refusal of the application's identity
abbrev pub RefusesIdentity : Deployment → Application → ReleaseFault → Type 0
RefusesIdentity d a (Mismatch difference) = ⊥
RefusesIdentity d a (IdentityDiffers listed found) = IsOtherKey d a listed found
RefusesIdentity d a (VersionDiffers listed found) = IsOtherVersion d a listed found
RefusesIdentity d a Memory = Unit {0}

-- a refusal of the bytes, by how they differ from what is listed
abbrev pub RefusesBytes : Deployment → List ℕ → ReleaseFault → Type 0
RefusesBytes d bytes (Mismatch difference) = difference_of d.app_list d.app_size bytes
    ≡ Some difference
RefusesBytes d bytes (IdentityDiffers listed found) = ⊥
RefusesBytes d bytes (VersionDiffers listed found) = ⊥
RefusesBytes d bytes Memory = Unit {0}

-- a refusal
abbrev pub Refuses : Deployment → Application → List ℕ → ReleaseFault → Type 0
Refuses d a bytes (Mismatch difference) = difference_of d.app_list d.app_size bytes
    ≡ Some difference
Refuses d a bytes (IdentityDiffers listed found) = Matches d.app_list d.app_size bytes
    × IsOtherKey d a listed found
Refuses d a bytes (VersionDiffers listed found) = Matches d.app_list d.app_size bytes
    × IsOtherVersion d a listed found
Refuses d a bytes Memory = Unit {0}
