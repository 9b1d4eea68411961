-- The calls of a real folder with their answers, and what a folder that keeps to the model answers.
use Rattle.std.specs.Prelude.{◌≡◌, ℕ, Bool, true, false, not, List, [], ◌∷◌, ◌++◌, filter}
use Rattle.folders.specs.declared.answer.FolderAnswer.{FolderAnswer}
use Rattle.folders.specs.declared.answer.FolderAnswer.TheVariants.{Listed, Gave, Measured, Put}
use Rattle.folders.specs.declared.folder.Held.{Held}
use Rattle.folders.specs.Files.{is_named, file_in, IsNames}
use Rattle.folders.specs.Found.{HasLength}

-- the bytes put under the name, in place of a file that stood there
abbrev pub put_in : List ℕ → List ℕ → List Held → List Held
put_in name bytes files =
    filter (λ file. not (is_named name file)) files ++ record { name = name; bytes = bytes } ∷ []

-- the answer is that of a folder of these files
abbrev pub Agrees : List Held → FolderAnswer → Type 0
Agrees files (Listed names) = IsNames files names
Agrees files (Gave name bytes) = bytes ≡ file_in name files
Agrees files (Measured name n) = HasLength (file_in name files) n
Agrees files (Put name bytes done) = Unit {0}

-- what stands in it after an answer; a call that failed puts nothing
abbrev pub after : FolderAnswer → List Held → List Held
after (Listed names) files = files
after (Gave name bytes) files = files
after (Measured name n) files = files
after (Put name bytes true) files = put_in name bytes files
after (Put name bytes false) files = files

-- and after all of these, the first of them first
abbrev pub files_after : List Held → List FolderAnswer → List Held
files_after files [] = files
files_after files (answer ∷ answers) = files_after (after answer files) answers

-- each answer was that of a folder in which these files stood before the first of them
abbrev pub AreHonest : List Held → List FolderAnswer → Type 0
AreHonest files [] = Unit {0}
AreHonest files (answer ∷ answers) = Agrees files answer × AreHonest (after answer files) answers
