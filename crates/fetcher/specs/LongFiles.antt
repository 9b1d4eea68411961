-- What a link to a folder does where a file is longer than it gives.
use Rattle.std.specs.Prelude.{◌≡◌, ℕ, ◌<◌, List, [], ◌∷◌, ◌++◌, length, Option, Some}
use Rattle.folders.specs.declared.answer.FolderAnswer.{FolderAnswer}
use Rattle.folders.specs.declared.answer.FolderAnswer.TheVariants.{Measured}
use Rattle.folders.specs.declared.folder.Found.{Found}
use Rattle.folders.specs.declared.folder.Found.TheVariants.{TooLong}
use Rattle.http_plain.specs.Path.{name_in_path}
use Rattle.outside.specs.Streams.{Rose, total}
use Rattle.small_types.specs.declared.limits.TheConstants.{FILE_SIZE_LIMIT}

-- the file is there, and has more bytes than a link gives
pub record IsLong (file : Option (List ℕ)) : Type 0 where
  pub bytes : List ℕ
  pub is : file ≡ Some bytes
  pub long : FILE_SIZE_LIMIT < length bytes

-- one answer told how many bytes the file has that the path names
pub record Measures (path : List ℕ) (n : ℕ) (old new : List FolderAnswer) : Type 0 where
  pub name : List ℕ
  pub named : name_in_path path ≡ Some name
  pub told : new ≡ old ++ Measured name n ∷ []

-- so it is of a file that was found too long
abbrev pub MeasuresLong : List ℕ → List FolderAnswer → List FolderAnswer → Found → Type 0
MeasuresLong path old new (TooLong n) = Measures path n old new
MeasuresLong path old new found = Unit {0}

-- one answer told of more bytes than a link gives
pub record TellsLong (path : List ℕ) (old new : List FolderAnswer) : Type 0 where
  pub size : ℕ
  pub measures : Measures path size old new
  pub long : FILE_SIZE_LIMIT < size

-- the folder failed, and no target was counted
pub record FolderFailed (before after unread_before unread_after : ℕ) : Type 0 where
  pub rose : Rose before after
  pub unread : unread_after ≡ unread_before

-- the file was so long, as was told; the folder did not fail, and the target was counted once
pub record FileTooLong (long told : Type 0) (before after unread_before unread_after : ℕ)
    : Type 0 where
  pub is : long
  pub shown : told
  pub count : after ≡ before
  pub unread : unread_after ≡ total unread_before 1
