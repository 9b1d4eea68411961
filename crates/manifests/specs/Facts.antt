-- What manifests can say: the values that reading gives, whatever the length of their texts.
use Rattle.std.specs.Prelude.{◌≡◌, ℕ, ◌≤◌, ◌%◌, true, false, List, All, length, IsTrue, IfSome, None, Ok}
use Rattle.std.specs.Ordering.{is_lt}
use Rattle.small_types.specs.declared.limits.TheConstants.{IDENTITY_PART_LIMIT, LOCAL_NAME_LIMIT, MANIFEST_LIMIT, NAME_LIMIT, URL_LIMIT}
use Rattle.small_types.specs.declared.target.Target.{Target}
use Rattle.small_types.specs.Name.{IsBelowPre}
use Rattle.addresses.specs.Address.{target_of_text}
use Rattle.identity.specs.declared.identity.Identity.{Identity}
use Rattle.identity.specs.declared.version.Version.{Version}
use Rattle.identity.specs.Version.{version_cmp}
use Rattle.digest_list.specs.Digest.{IsSized}
use Rattle.manifest_tree.specs.WrittenText.{is_content}
use Rattle.manifest_parts.specs.Parts.{Tells}
use Rattle.manifests.specs.declared.ages.TheConstants.{AGE_LIMIT, HOUR}
use Rattle.manifests.specs.declared.facts.Rule.{Rule}
use Rattle.manifests.specs.declared.facts.Rule.TheVariants.{Never, Before, Age}
use Rattle.manifests.specs.declared.facts.Deployment.{Deployment}
use Rattle.manifests.specs.declared.facts.FileEntry.{FileEntry}
use Rattle.manifests.specs.declared.facts.Application.{Application}
use Rattle.manifests.specs.Ages.{count_of}
use Rattle.manifests.specs.Applications.{application_of, size_limit}
use Rattle.manifests.specs.Deployments.{deployment_of}
use Rattle.manifests.specs.FileLists.{AreFiles}

-- a value within limits of length, of bytes that a manifest may hold
pub record IsValue (least most : ℕ) (value : List ℕ) : Type 0 where
  pub some : least ≤ length value
  pub few : length value ≤ most
  pub allowed : IsTrue (is_content value)

pub record IsIdentity (identity : Identity) : Type 0 where
  pub name : IsValue 1 NAME_LIMIT identity.key.name
  pub token : IsValue 1 IDENTITY_PART_LIMIT identity.key.token
  pub language : IsValue 1 IDENTITY_PART_LIMIT identity.key.language
  pub architecture : IsValue 1 IDENTITY_PART_LIMIT identity.key.architecture
  pub kind : IsValue 0 IDENTITY_PART_LIMIT identity.kind

-- ---- deployments

-- not above the version
abbrev pub IsMinimum : Version → Version → Type 0
IsMinimum version minimum = is_lt (version_cmp version minimum) ≡ false

-- an age is a number of whole hours, which takes at most nine digits in its unit
pub record IsAge (seconds : ℕ) : Type 0 where
  pub whole : seconds % HOUR ≡ 0
  pub few : count_of seconds ≤ AGE_LIMIT

abbrev pub IsRule : Rule → Type 0
IsRule Never = Unit {0}
IsRule Before = Unit {0}
IsRule (Age seconds) = IsAge seconds

-- the text of an address
pub record IsProvider (text : List ℕ) : Type 0 where
  pub allowed : IsTrue (is_content text)
  pub target : Target
  pub address : target_of_text text ≡ Ok target

-- what a deployment manifest can say
pub record AreDeploymentFacts (d : Deployment) : Type 0 where
  pub identity : IsIdentity d.identity
  pub install : d.install ≡ true
  pub minimum : IfSome d.minimum (IsMinimum d.identity.version)
  pub rule : IsRule d.rule
  pub provider : IfSome d.provider IsProvider
  pub codebase : IsValue 1 URL_LIMIT d.codebase
  pub app : IsIdentity d.app
  pub app_size : d.app_size ≤ MANIFEST_LIMIT
  pub app_list : All IsSized d.app_list

-- ---- applications

-- A file that may be installed: none below `.pre`; a data file has limits of its own for its name
-- and its size, and is in no group.
pub record IsFile (e : FileEntry) : Type 0 where
  pub above : ¬ IsBelowPre e.name
  pub short : e.local ≡ true → length e.name ≤ LOCAL_NAME_LIMIT
  pub size : e.size ≤ size_limit e.local
  pub list : All IsSized e.list
  pub group : IfSome e.group (IsValue 1 NAME_LIMIT)
  pub alone : e.local ≡ true → e.group ≡ None

-- what an application manifest can say
pub record AreApplicationFacts (a : Application) : Type 0 where
  pub identity : IsIdentity a.identity
  pub entry : IsValue 1 NAME_LIMIT a.entry
  pub parameters : IsValue 0 URL_LIMIT a.parameters
  pub files : AreFiles a.files
  pub each : All IsFile a.files

-- ---- what is read

-- what the bytes of a deployment manifest say is what one can say
abbrev pub ReadDeploymentsAreFacts : Type 0
ReadDeploymentsAreFacts = (bytes : List ℕ) (d : Deployment) → Tells deployment_of bytes (Ok d)
    → AreDeploymentFacts d

-- so is what the bytes of an application manifest say
abbrev pub ReadApplicationsAreFacts : Type 0
ReadApplicationsAreFacts =
    (bytes : List ℕ) (a : Application) → Tells application_of bytes (Ok a) → AreApplicationFacts a
