-- What the types of values say of them: each number fits its type, and names and digest lists are
-- ones.
use Rattle.std.specs.Prelude.{List, All, IfSome}
use Rattle.base64.specs.GeneralPurpose.{IsBytes}
use Rattle.small_types.specs.Name.{IsName}
use Rattle.identity.specs.Version.{IsVersion}
use Rattle.digest_list.specs.declared.digest.Digest.{Digest}
use Rattle.digest_list.specs.Count.{IsCount}
use Rattle.manifests.specs.declared.facts.Deployment.{Deployment}
use Rattle.manifests.specs.declared.facts.FileEntry.{FileEntry}

-- the value of a digest is bytes
abbrev pub IsHeldDigest : Digest → Type 0
IsHeldDigest digest = IsBytes digest.value

-- one to eight digests
pub record AreHeldDigests (digests : List Digest) : Type 0 where
  pub count : IsCount digests
  pub each : All IsHeldDigest digests

pub record IsHeldDeployment (d : Deployment) : Type 0 where
  pub version : IsVersion d.identity.version
  pub minimum : IfSome d.minimum IsVersion
  pub app : IsVersion d.app.version
  pub app_list : AreHeldDigests d.app_list

pub record IsHeldFile (e : FileEntry) : Type 0 where
  pub name : IsName e.name
  pub list : AreHeldDigests e.list
