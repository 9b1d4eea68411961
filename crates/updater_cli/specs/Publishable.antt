-- When a release is published: the whole list of what it needs, and what is then answered.
use Rattle.std.specs.Prelude.{◌≡◌, ◌⊎◌, ◌≤◌, ◌++◌, ◌∷◌, ℕ, true, false, List, length, map, count_by, All, Any, IfSome, Result, IfErr}
use Rattle.outside.specs.Streams.{Rose}
use Rattle.outside.specs.declared.sink.Sink.{Ghosts as SinkGhosts}
use Rattle.small_types.specs.declared.limits.TheConstants.{FILE_COUNT_LIMIT, LOCAL_COUNT_LIMIT, MANIFEST_LIMIT, NAME_LIMIT}
use Rattle.folders.specs.declared.folder.Folder.{Ghosts as FolderGhosts}
use Rattle.folders.specs.declared.folder.Held.{Held}
use Rattle.folders.specs.Files.{IsNames}
use Rattle.identity.specs.Version.{IsBelow}
use Rattle.manifests.specs.Applications.{size_limit}
use Rattle.manifests.specs.declared.facts.FileEntry.{FileEntry}
use Rattle.manifest_writer.specs.Applications.{application_text}
use Rattle.publish_plan.specs.declared.options.Mark.{Mark}
use Rattle.publish_plan.specs.declared.options.Options.{Options}
use Rattle.publish_plan.specs.declared.options.PlannedFile.{PlannedFile}
use Rattle.publish_plan.specs.Early.{overlap}
use Rattle.publish_plan.specs.Marks.{is_among, is_good, is_marked}
use Rattle.publish_plan.specs.Places.{input_names, is_plain_name, lies_below, manifest_name, version_folder}
use Rattle.publish_plan.specs.Plans.{is_bad_input, is_local_file, planned_files}
use Rattle.publisher.specs.declared.fault.PublishFault.{PublishFault}
use Rattle.publisher.specs.declared.fault.PublishFault.TheVariants.{Memory}
use Rattle.publisher.specs.declared.published.Published.{Published}
use Rattle.publisher.specs.Publication.{application_of, bytes_in, deployment_manifest_of, entry_in}
use Rattle.publisher.specs.Published.{IsPublish}
use Rattle.publication.specs.declared.publication.PublishEnd.TheVariants as ends
use Rattle.publication.specs.Publication.{status_of}
use Rattle.updater_cli.specs.Requests.{PublishesBy}

-- ---- what is published

-- the input files by their names below the folder, as they will be written, and as the application
-- manifest lists them
abbrev pub inputs : Options → List (List ℕ) → List (List ℕ)
inputs o names = input_names o.from names

abbrev pub written_files : Options → List (List ℕ) → List PlannedFile
written_files o names = planned_files o (inputs o names)

abbrev pub listed_files : Options → List (List ℕ) → List Held → List FileEntry
listed_files o names held = map (entry_in held) (written_files o names)

-- the text of the application manifest
abbrev pub app_text : Options → List (List ℕ) → List Held → List ℕ
app_text o names held = application_text (application_of o (listed_files o names held))

-- ---- what a publish needs

-- of options, and of the files of a folder with these names
pub record CanPublish (o : Options) (names : List (List ℕ)) (held : List Held) : Type 0 where
  -- The name and the entry are plain, and the name of the application manifest is within its limit.
  -- The two folders are apart. The minimum is not above the version.
  pub name : is_plain_name o.name ≡ true
  pub entry : is_plain_name o.entry ≡ true
  pub apart : overlap o.from o.to ≡ false
  pub short : length (manifest_name o) ≤ NAME_LIMIT
  pub minimum : IfSome o.minimum (λ minimum. ¬ IsBelow o.version minimum)
  -- No file stands in the folder of the version, and some file is published.
  pub fresh : All (λ name. lies_below (version_folder o) name ≡ false) names
  pub some : Any (λ name. lies_below o.from name ≡ true) names
  -- Each input file can be written, and there are few enough of them and of data files.
  pub fit : All (λ file. is_bad_input o file ≡ false) (inputs o names)
  pub few_files : length (written_files o names) ≤ FILE_COUNT_LIMIT
  pub few_data : count_by is_local_file (written_files o names) ≤ LOCAL_COUNT_LIMIT
  -- The entry is one of them, without a mark. Each mark names one that no mark before it names.
  pub started : is_among (inputs o names) o.entry ≡ true
  pub unmarked : is_marked o.marks o.entry ≡ false
  pub marks : (earlier later : List Mark) (mark : Mark) → o.marks ≡ earlier ++ mark ∷ later
      → is_good (inputs o names) earlier mark ≡ true
  -- Each is within its limit, and so are both manifests.
  pub sizes : All (λ file. length (bytes_in held file) ≤ size_limit file.local)
      (written_files o names)
  pub application : length (app_text o names held) ≤ MANIFEST_LIMIT
  pub deployment : length (deployment_manifest_of o (app_text o names held)) ≤ MANIFEST_LIMIT

-- The folder tells what it holds, from which the release can be published, and its count did not
-- rise.
pub record MayPublish {F : Type 0} (folder : FolderGhosts F) (o : Options) (old new : F)
    : Type 0 where
  pub tells : folder.tells
  pub names : List (List ℕ)
  pub exact : IsNames (folder.held old) names
  pub can : CanPublish o names (folder.held old)
  pub quiet : ¬ Rose (folder.count old) (folder.count new)

-- ---- what is answered

-- A release that may be published is, or there was no memory. Of a publish from the command line
-- the status is then 0 or 6, where the sink's count did not rise.
pub record PublishesWhereItMay {F K : Type 0} (folder : FolderGhosts F) (to : SinkGhosts K)
    (old new : F) (sink_old sink : K) : Type 0 where
  pub call : (o : Options) (result : Result Published PublishFault) → MayPublish folder o old new
      → IsPublish folder o old new result → IfErr result (λ fault. fault ≡ Memory)
  pub status : (o : Options) (status : ℕ) → MayPublish folder o old new
      → PublishesBy folder to o status old new sink_old sink
      → ¬ Rose (to.count sink_old) (to.count sink)
      → (status ≡ status_of ends.Done) ⊎ (status ≡ status_of ends.Memory)
