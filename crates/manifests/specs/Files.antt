-- What is kept beside the files that were read so far.
use Rattle.std.specs.Prelude.{◌≡◌, ℕ, List, String}
use Rattle.std.specs.BTreeSet.{BTreeSet, contains_text}
use Rattle.manifests.specs.declared.facts.FileEntry.{FileEntry}
use Rattle.manifests.specs.Applications.{is_taken, locals}

-- a set of texts that has exactly the names of the files, and the number of data files
pub record AreKnown {A : Type 0} (entries : List FileEntry) (names : BTreeSet (String A))
    (data_files : ℕ) : Type 0 where
  pub names_are : (name : List ℕ) → contains_text names name ≡ is_taken entries name
  pub data_is : data_files ≡ locals entries
