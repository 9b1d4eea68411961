-- Values as the code's types hold them: a text is UTF-8, a version's numbers have 16 bits, a name
-- is a name.
use Rattle.std.specs.Prelude.{All, IfSome, IsUtf8}
use Rattle.small_types.specs.Name.{IsName}
pub use Rattle.small_types.specs.Short.{IsShort, IsTarget}
use Rattle.identity.specs.declared.identity.Identity.{Identity}
pub use Rattle.identity.specs.Key.{IsShortKey}
use Rattle.identity.specs.Key.{IsKey}
use Rattle.identity.specs.Version.{IsVersion}
use Rattle.digest_list.specs.Count.{IsCount}
use Rattle.manifests.specs.declared.facts.Application.{Application}
use Rattle.manifests.specs.declared.facts.Deployment.{Deployment}
use Rattle.manifests.specs.declared.facts.FileEntry.{FileEntry}
use Rattle.manifests.specs.Facts.{AreApplicationFacts, AreDeploymentFacts}

pub record HasIdentity (identity : Identity) : Type 0 where
  pub key : IsKey identity.key
  pub version : IsVersion identity.version
  pub kind : IsUtf8 identity.kind

pub record HasEntry (entry : FileEntry) : Type 0 where
  pub name : IsName entry.name
  pub list : IsCount entry.list
  pub group : IfSome entry.group IsUtf8

-- what a deployment manifest can say
pub record IsDeployment (d : Deployment) : Type 0 where
  pub facts : AreDeploymentFacts d
  pub identity : HasIdentity d.identity
  pub minimum : IfSome d.minimum IsVersion
  pub provider : IfSome d.provider IsUtf8
  pub codebase : IsUtf8 d.codebase
  pub app : HasIdentity d.app
  pub app_list : IsCount d.app_list

-- what an application manifest can say
pub record IsApplication (a : Application) : Type 0 where
  pub facts : AreApplicationFacts a
  pub identity : HasIdentity a.identity
  pub entry : IsUtf8 a.entry
  pub parameters : IsUtf8 a.parameters
  pub files : All HasEntry a.files
