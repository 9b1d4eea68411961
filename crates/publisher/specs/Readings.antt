-- What a folder that records answered of the files that a publish reads twice.
use Rattle.std.specs.Prelude.{◌≡◌, ℕ, ◌≤◌, List, [], ◌∷◌, ◌++◌, Bool, length, Option, Some, unwrap_or}
use Rattle.small_types.specs.declared.limits.TheConstants.{FILE_SIZE_LIMIT}
use Rattle.folders.specs.declared.answer.FolderAnswer.{FolderAnswer}
use Rattle.folders.specs.declared.answer.FolderAnswer.TheVariants.{Gave, Put}
use Rattle.folders.specs.declared.folder.Held.{Held}
use Rattle.folders.specs.Answers.{AreHonest}
use Rattle.folders.specs.Honesty.{AllLeave}
use Rattle.digest_list.specs.declared.difference.Difference.{Difference}
use Rattle.digest_list.specs.Difference.{difference_of}
use Rattle.manifests.specs.declared.facts.FileEntry.{FileEntry}
use Rattle.publish_plan.specs.declared.options.PlannedFile.{PlannedFile}
use Rattle.publish_plan.specs.Places.{within}
use Rattle.publisher.specs.declared.fault.PublishFault.{PublishFault}
use Rattle.publisher.specs.declared.fault.PublishFault.TheVariants.{ReadFault, FileTooLong, Changed, Memory}
use Rattle.publisher.specs.Publication.{digests_of, entry_of}

-- the bytes that a reading gave; a file that is gone reads as empty
abbrev pub given_bytes : Option (List ℕ) → List ℕ
given_bytes given = unwrap_or given []

-- The folder gave the file of this name twice, the second time in its last answer, and nothing was
-- put under the name between. The difference is that of what it gave the second time from the size
-- and the digest of what it gave first.
pub record ReadsTwice (name : List ℕ) (difference : Difference) (old new : List FolderAnswer)
    : Type 0 where
  pub before : List FolderAnswer
  pub first : Option (List ℕ)
  pub between : List FolderAnswer
  pub again : Option (List ℕ)
  pub told : new ≡ old ++ before ++ Gave name first ∷ between ++ Gave name again ∷ []
  pub left : AllLeave name between
  pub short : length (given_bytes first) ≤ FILE_SIZE_LIMIT
  pub is : difference_of (digests_of (given_bytes first)) (length (given_bytes first))
      (given_bytes again) ≡ Some difference

-- of a change, that two readings of the file that it names show it; the file is named below the
-- folder that is published
abbrev pub ReadsChange : List ℕ → List FolderAnswer → List FolderAnswer → PublishFault → Type 0
ReadsChange from old new (Changed file difference) =
    ReadsTwice (within from file) difference old new
ReadsChange from old new e = Unit {0}

-- a folder whose answers are those of files that nobody else changed never shows that
abbrev pub HonestNeverChange : Type 0
HonestNeverChange = (files : List Held) (name : List ℕ) (difference : Difference)
    (old new : List FolderAnswer) → ReadsTwice name difference old new → ¬ AreHonest files new

-- ---- one call after another

-- there were more answers
pub record AnswersMore (old new : List FolderAnswer) : Type 0 where
  pub more : List FolderAnswer
  pub told : new ≡ old ++ more

-- one answer gave the file of this name, with these bytes
pub record ReadsFile (name bytes : List ℕ) (old new : List FolderAnswer) : Type 0 where
  pub given : Option (List ℕ)
  pub told : new ≡ old ++ Gave name given ∷ []
  pub is : bytes ≡ given_bytes given

-- one answer gave the file, and this is what is listed of it
pub record ReadsEntry (file : PlannedFile) (entry : FileEntry) (old new : List FolderAnswer)
    : Type 0 where
  pub given : Option (List ℕ)
  pub told : new ≡ old ++ Gave file.source given ∷ []
  pub is : entry ≡ entry_of file (given_bytes given)

-- the answers gave each of the files once, in their order, and this is what is listed of each
abbrev pub AreReadings : List PlannedFile → List FileEntry → List FolderAnswer → Type 0
AreReadings [] [] [] = Unit {0}
AreReadings (file ∷ files) (entry ∷ entries) (Gave name given ∷ answers) =
    (name ≡ file.source)
    × (entry ≡ entry_of file (given_bytes given))
    × AreReadings files entries answers
AreReadings _ _ _ = ⊥

-- there were such answers
pub record ReadsEach (files : List PlannedFile) (entries : List FileEntry)
    (old new : List FolderAnswer) : Type 0 where
  pub more : List FolderAnswer
  pub told : new ≡ old ++ more
  pub each : AreReadings files entries more

-- the file was given, and then bytes were to be put under the name that it is written under
pub record CopiesFile (file : PlannedFile) (old new : List FolderAnswer) : Type 0 where
  pub given : Option (List ℕ)
  pub bytes : List ℕ
  pub done : Bool
  pub told : new ≡ old ++ Gave file.source given ∷ Put file.target bytes done ∷ []

-- one answer gave the file of the entry, and this is how its bytes differ from what is listed
pub record ReadsOther (file : PlannedFile) (entry : FileEntry) (name : List ℕ)
    (difference : Difference) (old new : List FolderAnswer) : Type 0 where
  pub named : name ≡ entry.name
  pub again : Option (List ℕ)
  pub told : new ≡ old ++ Gave file.source again ∷ []
  pub is : difference_of entry.list entry.size (given_bytes again) ≡ Some difference

-- a change is such a reading
abbrev pub ShowsOther : PlannedFile → FileEntry → List FolderAnswer → List FolderAnswer
    → PublishFault → Type 0
ShowsOther file entry old new (Changed name difference) =
    ReadsOther file entry name difference old new
ShowsOther file entry old new e = Unit {0}

-- a file is read below the folder that is published, by its name there
abbrev pub IsSourced : List ℕ → PlannedFile → Type 0
IsSourced from file = file.source ≡ within from file.file

-- the folder failed at the first reading of a file, the file is too long, or memory ran out
abbrev pub IsFirstReading : PublishFault → Type 0
IsFirstReading ReadFault = Unit {0}
IsFirstReading (FileTooLong file length) = Unit {0}
IsFirstReading Memory = Unit {0}
IsFirstReading e = ⊥
