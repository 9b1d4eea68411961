use Rattle.std.proofs.Common.{◌≡◌, ℕ, List, take}
use Rattle.std.specs.BTreeSet.{contains_text}
use Rattle.manifests.specs.Applications.{is_taken}
use Rattle.manifests.specs.FileLists.{NamesDiffer}
use Rattle.manifests.proofs.file_lists.have_other_names.Given as goal

abbrev pub invariant-loop-entry : goal.invariant-loop-entry
invariant-loop-entry l = record {
  names_are : (name : List ℕ) → contains_text l.names name ≡ is_taken (take l.entry-index l.files) name;
  differ : NamesDiffer (take l.entry-index l.files);
}
