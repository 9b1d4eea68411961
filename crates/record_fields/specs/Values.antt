-- Which values have an encoding: their texts and lists are within their limits, their numbers
-- within their widths, and their digests have the lengths of their algorithms.
use Rattle.std.specs.Prelude.{◌<◌, ◌≤◌, ◌^◌, ℕ, List, All, IfSome, length}
use Rattle.small_types.specs.declared.limits.TheConstants.{FILE_COUNT_LIMIT, IDENTITY_PART_LIMIT, NAME_LIMIT, URL_LIMIT}
use Rattle.small_types.specs.Name.{IsName}
use Rattle.identity.specs.declared.identity.Identity.{Identity}
use Rattle.identity.specs.Version.{IsVersion}
use Rattle.digest_list.specs.declared.digest.Digest.{Digest}
use Rattle.digest_list.specs.Count.{IsCount}
use Rattle.digest_list.specs.Digest.{IsSized}
use Rattle.manifests.specs.declared.facts.Application.{Application}
use Rattle.manifests.specs.declared.facts.Deployment.{Deployment}
use Rattle.manifests.specs.declared.facts.FileEntry.{FileEntry}
use Rattle.manifests.specs.declared.facts.Rule.{Rule}
use Rattle.manifests.specs.declared.facts.Rule.TheVariants.{Never, Before, Age}
use Rattle.small_types.specs.Short.{IsShort}
use Rattle.identity.specs.Key.{IsShortKey}

-- at most so many, and a number that four bytes can say
abbrev pub IsEncodableLength : {X : Type 0} → ℕ → List X → Type 0
IsEncodableLength limit xs = (length xs ≤ limit) × (length xs < 2 ^ 32)

pub record IsEncodableIdentity (i : Identity) : Type 0 where
  pub key : IsShortKey i.key
  pub version : IsVersion i.version
  pub kind : IsShort IDENTITY_PART_LIMIT i.kind

abbrev pub IsEncodableRule : Rule → Type 0
IsEncodableRule Never = Unit {0}
IsEncodableRule Before = Unit {0}
IsEncodableRule (Age seconds) = seconds < 2 ^ 64

-- 1 to 8 digests
pub record AreDigests (list : List Digest) : Type 0 where
  pub count : IsCount list
  pub sized : All IsSized list

pub record IsEncodableEntry (e : FileEntry) : Type 0 where
  pub name : IsName e.name
  pub size : e.size < 2 ^ 64
  pub list : AreDigests e.list
  pub group : IfSome e.group (IsShort NAME_LIMIT)

pub record IsEncodableDeployment (d : Deployment) : Type 0 where
  pub identity : IsEncodableIdentity d.identity
  pub minimum : IfSome d.minimum IsVersion
  pub rule : IsEncodableRule d.rule
  pub provider : IfSome d.provider (IsShort URL_LIMIT)
  pub codebase : IsShort URL_LIMIT d.codebase
  pub app : IsEncodableIdentity d.app
  pub app_size : d.app_size < 2 ^ 64
  pub app_list : AreDigests d.app_list

pub record IsEncodableApplication (a : Application) : Type 0 where
  pub identity : IsEncodableIdentity a.identity
  pub entry : IsShort NAME_LIMIT a.entry
  pub parameters : IsShort URL_LIMIT a.parameters
  pub few : length a.files ≤ FILE_COUNT_LIMIT
  pub files : All IsEncodableEntry a.files
