-- What a folder has that holds what was published, as an install and its reads need it.
use Rattle.std.specs.Prelude.{◌≡◌, ◌≤◌, ℕ, List, length, Contains, Some, Ok}
use Rattle.small_types.specs.declared.limits.TheConstants.{MANIFEST_LIMIT}
use Rattle.small_types.specs.declared.target.Target.{Target}
use Rattle.folders.specs.declared.folder.Held.{Held}
use Rattle.folders.specs.Files.{file_in}
use Rattle.addresses.specs.Address.{target_of_text}
use Rattle.addresses.specs.Join.{app_target_of, file_target_of}
use Rattle.digest_list.specs.Matches.{Matches}
use Rattle.http_plain.specs.Path.{name_in_path}
use Rattle.manifest_parts.specs.Parts.{Tells}
use Rattle.manifests.specs.declared.facts.Application.{Application}
use Rattle.manifests.specs.declared.facts.Deployment.{Deployment}
use Rattle.manifests.specs.declared.facts.FileEntry.{FileEntry}
use Rattle.manifests.specs.Applications.{application_of}
use Rattle.manifests.specs.Deployments.{deployment_of}
use Rattle.publish_plan.specs.Places.{codebase, deployment_name, manifest_name, target_name}
use Rattle.publisher.specs.Publication as writes
use Rattle.published_paths.specs.Reached.{Reaches}
use Rattle.updater_cli.specs.Offered.{PublishInput, input_file, listed}

-- a file of the release: the input file stands in the folder where it was written, and matches
pub record IsFileOut (p : PublishInput) (folder : List Held) (entry : FileEntry) : Type 0 where
  pub whole : List ℕ
  pub input : input_file p entry.name ≡ Some whole
  pub out : file_in (target_name p.options entry.name) folder ≡ Some whole
  pub matching : Matches entry.list entry.size whole

pub record IsOut (p : PublishInput) (folder : List Held) : Type 0 where
  pub text : List ℕ
  pub last : List ℕ
  pub deployment : file_in (deployment_name p.options) folder ≡ Some last
  pub deployment_short : length last ≤ MANIFEST_LIMIT
  pub application : file_in (manifest_name p.options) folder ≡ Some text
  pub application_short : length text ≤ MANIFEST_LIMIT
  pub deployment_told : (d : Deployment) → Tells deployment_of last (Ok d) → d ≡ writes.deployment_of p.options text
  pub application_told : (a : Application) → Tells application_of text (Ok a) → a ≡ writes.application_of p.options (listed p)
  pub files : (entry : FileEntry) → Contains (listed p) entry → IsFileOut p folder entry
  pub base : (url : List ℕ) (given base : Target) → target_of_text url ≡ Ok given → Reaches given (deployment_name p.options)
      → app_target_of given (codebase p.options) ≡ Ok base → name_in_path base.path ≡ Some (manifest_name p.options)
  pub reached : (url : List ℕ) (given base : Target) → target_of_text url ≡ Ok given → Reaches given (deployment_name p.options)
      → app_target_of given (codebase p.options) ≡ Ok base → (entry : FileEntry) → Contains (listed p) entry
      → (target : Target) → file_target_of base p.options.mapped entry.name ≡ Ok target
      → name_in_path target.path ≡ Some (target_name p.options entry.name)
