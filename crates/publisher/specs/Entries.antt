-- What the application manifest says of files that were read, whatever bytes they had.
use Rattle.std.specs.Prelude.{◌≡◌, ℕ, ◌≤◌, List, [], ◌∷◌, All, length}
use Rattle.digest_list.specs.Digest.{IsSized}
use Rattle.manifests.specs.declared.facts.FileEntry.{FileEntry}
use Rattle.manifests.specs.Applications.{size_limit}
use Rattle.publish_plan.specs.declared.options.PlannedFile.{PlannedFile}
use Rattle.publisher.specs.Publication.{entry_of}

-- the file had some bytes, within its limit, and its digests have the lengths of their algorithms
pub record IsEntry (file : PlannedFile) (entry : FileEntry) : Type 0 where
  pub bytes : List ℕ
  pub within : length bytes ≤ size_limit file.local
  pub is : entry ≡ entry_of file bytes
  pub sized : All IsSized entry.list

-- each entry is of the file at its place
abbrev pub AreEntries : List PlannedFile → List FileEntry → Type 0
AreEntries [] [] = Unit {0}
AreEntries (file ∷ files) (entry ∷ entries) = IsEntry file entry × AreEntries files entries
AreEntries _ _ = ⊥
