-- What is published of a release.
use Rattle.std.specs.Prelude.{◌≡◌, ℕ, List, [], Some, Ok, Err}
use Rattle.folders.specs.declared.folder.Held.{Held}
use Rattle.folders.specs.Files.{IsNames, file_in}
use Rattle.folders.specs.MemFolder.{folder_failing, folder_held}
use Rattle.publish_plan.specs.Places.{deployment_name, manifest_name}
use Rattle.publisher.specs.declared.fault.PublishFault.{PublishFault}
use Rattle.publisher.specs.Publication.{publish_of}
use Rattle.publisher.specs.Puts.{PutsAll}
use Rattle.generated_release.specs.declared.published_release.PublishedRelease.{PublishedRelease}
use Rattle.generated_release.specs.declared.release.GeneratedRelease.{GeneratedRelease}
use Rattle.generated_release.specs.Files.{input_files}
use Rattle.generated_release.specs.Options.{demo_key, number_of, options_of}

-- The texts are the two manifests that a publish by the options of the release writes, where the
-- generated files of the release stand below `in`, and nothing else stands.
pub record ArePublished (seed : ℕ) (release : GeneratedRelease) (deployment application : List ℕ)
    : Type 0 where
  pub names : List (List ℕ)
  pub are : IsNames (input_files seed (number_of release)) names
  pub files : List Held
  pub written : publish_of (options_of release) names (input_files seed (number_of release))
      ≡ Ok files
  pub first : file_in (deployment_name (options_of release)) files ≡ Some deployment
  pub second : file_in (manifest_name (options_of release)) files ≡ Some application

-- A release that is published: the texts are those of its manifests, and the key is its
-- application's. In the folder all files of the release stand beside the generated ones, and
-- nothing else, and none of its calls are to fail.
pub record IsPublished (seed : ℕ) (release : GeneratedRelease) (published : PublishedRelease)
    : Type 0 where
  pub texts : ArePublished seed release published.deployment published.application
  pub key : published.key ≡ demo_key
  pub folder : PutsAll texts.files (input_files seed (number_of release))
      (folder_held published.folder)
  pub works : folder_failing published.folder ≡ []

-- the files of the release were written by its options, and stand in the folder with those before
pub record IsWritten (release : GeneratedRelease) (old new : List Held) : Type 0 where
  pub names : List (List ℕ)
  pub are : IsNames old names
  pub files : List Held
  pub written : publish_of (options_of release) names old ≡ Ok files
  pub puts : PutsAll files old new

-- the publisher refuses to write the release by its options
pub record IsRefused (release : GeneratedRelease) (held : List Held) : Type 0 where
  pub names : List (List ℕ)
  pub are : IsNames held names
  pub fault : PublishFault
  pub refused : publish_of (options_of release) names held ≡ Err fault
