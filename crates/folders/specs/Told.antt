-- What a call of a folder told. A listing or a reading that failed told nothing.
use Rattle.std.specs.Prelude.{ℕ, Bool, true, false, List, [], ◌∷◌, Option, Some, None, Result, Ok, Err, is_ok}
use Rattle.folders.specs.declared.answer.FolderAnswer.{FolderAnswer}
use Rattle.folders.specs.declared.answer.FolderAnswer.TheVariants.{Listed, Gave, Measured, Put}
use Rattle.folders.specs.declared.folder.Found.{Found}
use Rattle.folders.specs.declared.folder.Found.TheVariants.{Nothing, Whole, TooLong}

-- the names
abbrev pub told_list : {E : Type 0} → Result (List (List ℕ)) E → List FolderAnswer
told_list (Ok names) = Listed names ∷ []
told_list (Err e) = []

-- the bytes of the file of this name, or that there is none
abbrev pub told_file : {E : Type 0} → List ℕ → Result (Option (List ℕ)) E → List FolderAnswer
told_file name (Ok bytes) = Gave name bytes ∷ []
told_file name (Err e) = []

-- the same of a file that is read into a buffer
abbrev pub told_into : {E : Type 0} → List ℕ → List ℕ → Result Bool E → List FolderAnswer
told_into name into (Ok true) = Gave name (Some into) ∷ []
told_into name into (Ok false) = Gave name None ∷ []
told_into name into (Err e) = []

-- and of one that is read within a limit, or measured
abbrev pub told_within : {E : Type 0} → List ℕ → List ℕ → Result Found E → List FolderAnswer
told_within name into (Ok Nothing) = Gave name None ∷ []
told_within name into (Ok Whole) = Gave name (Some into) ∷ []
told_within name into (Ok (TooLong n)) = Measured name n ∷ []
told_within name into (Err e) = []

-- the bytes that were to be put, and whether that was done
abbrev pub told_put : {T E : Type 0} → List ℕ → List ℕ → Result T E → List FolderAnswer
told_put name bytes r = Put name bytes (is_ok r) ∷ []
