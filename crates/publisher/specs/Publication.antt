-- What a publish writes: the input files, the application manifest, the deployment manifest; or the
-- first refusal.
use Rattle.std.specs.Prelude.{ℕ, nat_lt, true, List, [], ◌∷◌, ◌++◌, length, map, codes, unwrap_or, Result, Ok, Err, if◌then◌else◌}
use Rattle.sha2.specs.Sha256.{sha256}
use Rattle.small_types.specs.declared.limits.TheConstants.{MANIFEST_LIMIT}
use Rattle.small_types.specs.Outcome.{◌>>=◌}
use Rattle.folders.specs.declared.folder.Held.{Held}
use Rattle.folders.specs.Files.{file_in}
use Rattle.identity.specs.declared.identity.Identity.{Identity}
use Rattle.identity.specs.declared.key.Key.{Key}
use Rattle.digest_list.specs.declared.algorithm.Algorithm.TheVariants.{Sha256}
use Rattle.digest_list.specs.declared.digest.Digest.{Digest}
use Rattle.manifests.specs.declared.facts.Application.{Application}
use Rattle.manifests.specs.declared.facts.Deployment.{Deployment}
use Rattle.manifests.specs.declared.facts.FileEntry.{FileEntry}
use Rattle.manifests.specs.Applications.{size_limit}
use Rattle.manifest_tree.specs.WrittenText.{counted}
use Rattle.manifest_writer.specs.Applications.{application_text}
use Rattle.manifest_writer.specs.Deployments.{deployment_text}
use Rattle.publish_plan.specs.declared.options.Options.{Options}
use Rattle.publish_plan.specs.declared.options.PublishPlan.{PublishPlan}
use Rattle.publish_plan.specs.declared.options.PlannedFile.{PlannedFile}
use Rattle.publish_plan.specs.declared.fault.PlanFault.{PlanFault}
use Rattle.publish_plan.specs.Early.{early_of}
use Rattle.publish_plan.specs.Outcome.{unless}
use Rattle.publish_plan.specs.Places.{codebase}
use Rattle.publish_plan.specs.Plans.{plan_of}
use Rattle.publisher.specs.declared.fault.PublishFault.{PublishFault}
use Rattle.publisher.specs.declared.fault.PublishFault.TheVariants.{FileTooLong, ManifestTooLong}
use Rattle.publisher.specs.declared.release.ReleaseTexts.{ReleaseTexts}
use Rattle.publisher.specs.Faults.{fault_of}

-- what comes of a publish, or why it is refused; the first refusal ends it
abbrev pub Outcome : Type 0 → Type 0
Outcome A = Result A PublishFault

-- ---- the manifests

-- the key of a name, with the parts that a manifest without them has
abbrev pub key_named : List ℕ → Key
key_named name = record {
  name = name;
  token = codes "0000000000000000";
  language = codes "neutral";
  architecture = codes "msil";
}

-- the key of what is published
abbrev pub deployment_key : Options → Key
deployment_key o = key_named (o.name ++ codes ".application")

abbrev pub deployment_identity : Options → Identity
deployment_identity o = record { key = deployment_key o; version = o.version; kind = [] }

abbrev pub application_identity : Options → Identity
application_identity o =
    record { key = key_named o.entry; version = o.version; kind = codes "win32" }

-- the SHA-256 digest of the bytes (FIPS 180-4), alone
abbrev pub digests_of : List ℕ → List Digest
digests_of bytes = record { algorithm = Sha256; value = sha256 bytes } ∷ []

-- what the application manifest says of a file of these bytes
abbrev pub entry_of : PlannedFile → List ℕ → FileEntry
entry_of file bytes = record {
  name = file.file;
  size = length bytes;
  list = digests_of bytes;
  group = file.group;
  local = file.local;
}

-- the application that has these files
abbrev pub application_of : Options → List FileEntry → Application
application_of o entries =
    record { identity = application_identity o; entry = o.entry; parameters = []; files = entries }

-- the deployment of the application manifest with this text
abbrev pub deployment_of : Options → List ℕ → Deployment
deployment_of o text = record {
  identity = deployment_identity o;
  install = true;
  minimum = o.minimum;
  mapped = o.mapped;
  rule = o.rule;
  provider = o.provider;
  codebase = codebase o;
  app = application_identity o;
  app_size = length text;
  app_list = digests_of text;
}

-- the text of the deployment manifest; the product is the name
abbrev pub deployment_manifest_of : Options → List ℕ → List ℕ
deployment_manifest_of o text = deployment_text (deployment_of o text) o.publisher o.name

-- ---- the input files

-- the bytes of an input file; one that is listed and gone reads as empty
abbrev pub bytes_in : List Held → PlannedFile → List ℕ
bytes_in held file = unwrap_or (file_in file.source held) []

-- what the application manifest says of it
abbrev pub entry_in : List Held → PlannedFile → FileEntry
entry_in held file = entry_of file (bytes_in held file)

-- what the application manifest says of a file, which is within its limit
unfoldable pub read_entry : List Held → PlannedFile → Outcome FileEntry
read_entry held file =
    if nat_lt (size_limit file.local) (length (bytes_in held file))
    then Err (FileTooLong file.file (length (bytes_in held file))) else Ok (entry_in held file)

-- what it says of each file; the first that is too long is refused
abbrev pub read_entries : List Held → List PlannedFile → Outcome (List FileEntry)
read_entries held [] = Ok []
read_entries held (file ∷ files) = do
  entry ← read_entry held file
  entries ← read_entries held files
  Ok (entry ∷ entries)

-- the text of a manifest, which is within its limit; a length that 64 bits do not hold is told as
-- the greatest one that they do
abbrev pub limited : List ℕ → Outcome (List ℕ)
limited text =
    if nat_lt MANIFEST_LIMIT (length text) then Err (ManifestTooLong (counted (length text)))
    else Ok text

-- ---- the whole

-- the file that is written for an input file
abbrev pub copy_in : List Held → PlannedFile → Held
copy_in held file = record { name = file.target; bytes = bytes_in held file }

-- the files in order, then the application manifest, then the deployment manifest
abbrev pub published_files : List Held → PublishPlan → ReleaseTexts → List Held
published_files held plan release =
    map (copy_in held) plan.files
    ++ record { name = plan.manifest; bytes = release.application }
    ∷ record { name = plan.deployment; bytes = release.deployment } ∷ []

-- the texts of the manifests of an application that has these files
unfoldable pub manifests_of : Options → List FileEntry → Outcome ReleaseTexts
manifests_of o entries = do
  application ← limited (application_text (application_of o entries))
  deployment ← limited (deployment_manifest_of o application)
  Ok (record {
    key = deployment_key o;
    entries = entries;
    application = application;
    deployment = deployment;
  })

-- what the options and the names are judged to be
abbrev pub judged : {A : Type 0} → Result A PlanFault → Outcome A
judged (Ok x) = Ok x
judged (Err fault) = Err (fault_of fault)

-- what is written of a plan
unfoldable pub release_of : Options → List Held → PublishPlan → Outcome (List Held)
release_of o held plan = do
  entries ← read_entries held plan.files
  release ← manifests_of o entries
  Ok (published_files held plan release)

-- What is written by the options, where these names and these files stand in the folder. The
-- options are judged before the folder is called.
unfoldable pub publish_of : Options → List (List ℕ) → List Held → Outcome (List Held)
publish_of o names held = do
  fit ← judged (unless (early_of o))
  plan ← judged (plan_of o names)
  release_of o held plan
