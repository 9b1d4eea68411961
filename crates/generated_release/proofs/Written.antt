-- What a publish over a folder with the generated files alone leaves.
use Rattle.std.proofs.Common.{◌≡◌, ◌∙◌, ℕ, true, List, [], Option, Some, None, IsSome, Ok, Err, refl, sym, ap, subst}
use Rattle.std.specs.Prelude.{is_some}
use Rattle.std.specs.Option.{option_or}
use Rattle.folders.specs.declared.folder.Held.{Held}
use Rattle.folders.specs.Files.{IsNames, file_in}
use Rattle.folders.specs.MemFolder.{folder_failing, folder_held}
use Rattle.publish_plan.specs.declared.options.Options.{Options}
use Rattle.publisher.specs.declared.fault.PublishFault.{PublishFault}
use Rattle.publisher.specs.declared.published.Published.{Published}
use Rattle.publisher.specs.Outcome.{Publishes, Refuses}
use Rattle.publisher.specs.Publication.{Outcome, publish_of}
use Rattle.publisher.specs.Published.{PublishesFiles}
use Rattle.publisher.specs.Puts.{PutsAll}
use Rattle.generated_release.specs.declared.release.GeneratedRelease.{GeneratedRelease}
use Rattle.generated_release.specs.declared.fault.GenerationFault.TheVariants.{Refused}
use Rattle.generated_release.specs.declared.files.TheConstants.{FILE_COUNT}
use Rattle.generated_release.specs.declared.published_release.PublishedRelease.{PublishedRelease}
use Rattle.generated_release.specs.Faults.{IsSure, fault_of}
use Rattle.generated_release.specs.Files.{input_files}
use Rattle.generated_release.specs.Options.{application_at, demo_key, deployment_at, number_of, options_of}
use Rattle.generated_release.specs.Published.{ArePublished, IsPublished, IsRefused, IsWritten}
use Rattle.generated_release.proofs.Apart.{application_free, deployment_free}
use Rattle.generated_release.proofs.Manifests.{HasManifests, has_manifests}
use Rattle.generated_release.proofs.Named.{application_named, deployment_named}
use Rattle.generated_release.proofs.Refusals.{by_refusal}

-- ---- the files

module _ (release : GeneratedRelease) (old new : List Held) (names : List (List ℕ)) (are : IsNames old names)
  where
    by_outcome : (outcome : Outcome (List Held)) → publish_of (options_of release) names old ≡ outcome
        → Publishes outcome old new → IsWritten release old new
    by_outcome (Ok files) is puts =
        record { names = names; are = are; files = files; written = is; puts = puts }
    by_outcome (Err e) is none = absurd none

    pub written : (published : Published)
        → PublishesFiles (options_of release) names old new (Ok published)
        → IsWritten release old new
    written published publishes =
        by_outcome (publish_of (options_of release) names old) refl publishes.published

-- ---- the texts

-- what was put where nothing stood
put_there : (put : Option (List ℕ)) (was is : Option (List ℕ)) (text : List ℕ)
    → is ≡ option_or put was → was ≡ None → is ≡ Some text → put ≡ Some text
put_there (Some bytes) was is text or none some = sym or ∙ some
put_there None was is text or none some = absurd cc (or, none, some)

some_put : (put was is : Option (List ℕ)) → is ≡ option_or put was → is_some put ≡ true → is_some is ≡ true
some_put (Some bytes) was is or some = ap is_some or
some_put None was is or some = absurd cc

module _ (release : GeneratedRelease) (old new : List Held) (w : IsWritten release old new) where
  both : HasManifests (options_of release) w.files
  both = has_manifests (options_of release) w.names old w.files w.written

  pub deployment_stands : IsSome (file_in (deployment_at release) new)
  deployment_stands =
      some_put (file_in (deployment_at release) w.files) (file_in (deployment_at release) old) (file_in (deployment_at release) new)
      (w.puts.each (deployment_at release))
      (subst (λ (name : List ℕ). is_some (file_in name w.files) ≡ true) (deployment_named release) both.deployment)

  pub application_stands : IsSome (file_in (application_at release) new)
  application_stands =
      some_put (file_in (application_at release) w.files) (file_in (application_at release) old) (file_in (application_at release) new)
      (w.puts.each (application_at release))
      (subst (λ (name : List ℕ). is_some (file_in name w.files) ≡ true) (application_named release) both.application)

-- over the generated files the texts are those of the manifests that were written
module _ (seed : ℕ) (release : GeneratedRelease) (new : List Held)
    (w : IsWritten release (input_files seed (number_of release)) new) where
  abbrev old : List Held
  old = input_files seed (number_of release)

  pub are_published : (deployment application : List ℕ)
      → file_in (deployment_at release) new ≡ Some deployment
      → file_in (application_at release) new ≡ Some application
      → ArePublished seed release deployment application
  are_published deployment application first second = record {
    names = w.names;
    are = w.are;
    files = w.files;
    written = w.written;
    first = subst (λ (name : List ℕ). file_in name w.files ≡ Some deployment)
        (sym (deployment_named release))
        (put_there (file_in (deployment_at release) w.files) (file_in (deployment_at release) old)
        (file_in (deployment_at release) new) deployment (w.puts.each (deployment_at release))
        (deployment_free release seed (number_of release) FILE_COUNT) first);
    second = subst (λ (name : List ℕ). file_in name w.files ≡ Some application)
        (sym (application_named release))
        (put_there (file_in (application_at release) w.files) (file_in (application_at release) old)
        (file_in (application_at release) new) application (w.puts.each (application_at release))
        (application_free release seed (number_of release) FILE_COUNT) second);
  }

  pub is_published : (published : PublishedRelease)
      → published.key ≡ demo_key
      → folder_held published.folder ≡ new
      → folder_failing published.folder ≡ []
      → file_in (deployment_at release) new ≡ Some published.deployment
      → file_in (application_at release) new ≡ Some published.application
      → IsPublished seed release published
  unfolding are_published
  is_published published key held works first second = record {
    texts = are_published published.deployment published.application first second;
    key = key;
    folder = subst (λ (files : List Held). PutsAll w.files old files) (sym held) w.puts;
    works = works;
  }

-- ---- a refusal

pub is_refused : (release : GeneratedRelease) (o : Options) (names : List (List ℕ)) (held new : List Held) (e : PublishFault)
    → o ≡ options_of release → IsNames held names → PublishesFiles o names held new (Err e) → IsSure e
    → fault_of e ≡ Refused → IsRefused release held
is_refused release o names held new e is are publishes sure refused = record {
  names = names;
  are = are;
  fault = e;
  refused = by_refusal e (publish_of (options_of release) names held) sure
      (subst (λ (p : Options). Refuses e (publish_of p names held)) is publishes.refused) refused;
}
