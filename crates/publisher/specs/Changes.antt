-- What is shown of a file that changed while it was published, and so was read as two things.
use Rattle.std.specs.Prelude.{◌≡◌, ℕ, ◌≤◌, List, length, Some}
use Rattle.small_types.specs.declared.limits.TheConstants.{FILE_SIZE_LIMIT}
use Rattle.digest_list.specs.declared.difference.Difference.{Difference}
use Rattle.digest_list.specs.Difference.{AreDistinct, difference_of}
use Rattle.manifests.specs.declared.facts.FileEntry.{FileEntry}
use Rattle.publisher.specs.declared.fault.PublishFault.{PublishFault}
use Rattle.publisher.specs.declared.fault.PublishFault.TheVariants.{BadName, MinimumAbove, Changed, Memory}
use Rattle.publisher.specs.Publication.{digests_of}

-- Bytes that were read first, and bytes that were read again. The difference is that of the second
-- from the size and the digest of the first.
pub record ReadsDiffer (difference : Difference) : Type 0 where
  pub first : List ℕ
  pub again : List ℕ
  pub within : length first ≤ FILE_SIZE_LIMIT
  pub is : difference_of (digests_of first) (length first) again ≡ Some difference
  pub distinct : AreDistinct difference

-- a change shows what was read
abbrev pub ShowsChange : PublishFault → Type 0
ShowsChange (Changed file difference) = ReadsDiffer difference
ShowsChange e = Unit {0}

-- the bytes are not those of the entry, and this is how they differ; or memory ran out
abbrev pub IsChangeOf : FileEntry → List ℕ → PublishFault → Type 0
IsChangeOf entry bytes (Changed file difference) =
    (file ≡ entry.name)
    × (difference_of entry.list entry.size bytes ≡ Some difference)
    × AreDistinct difference
IsChangeOf entry bytes Memory = Unit {0}
IsChangeOf entry bytes e = ⊥

-- a fault that comes once the folder is called; a change shows what was read
abbrev pub IsLate : PublishFault → Type 0
IsLate (BadName word) = ⊥
IsLate (MinimumAbove minimum) = ⊥
IsLate (Changed file difference) = ReadsDiffer difference
IsLate e = Unit {0}
