-- That the answers of a folder can be honest, and what it says of one that they are.
use Rattle.std.specs.Prelude.{◌≡◌, ◌≢◌, ℕ, true, List, [], ◌∷◌, ◌++◌, Option}
use Rattle.folders.specs.declared.answer.FolderAnswer.{FolderAnswer}
use Rattle.folders.specs.declared.answer.FolderAnswer.TheVariants.{Listed, Gave, Measured, Put}
use Rattle.folders.specs.declared.folder.Held.{Held}
use Rattle.folders.specs.Answers.{Agrees, AreHonest, files_after}
use Rattle.folders.specs.Files.{distinct, file_in, IsNames, Puts}
use Rattle.folders.specs.Found.{HasLength}

-- a folder of which nothing was asked yet
abbrev pub HonestAtFirst : Type 0
HonestAtFirst = (files : List Held) → AreHonest files []

-- an answer of what stands there by then
abbrev pub HonestNext : Type 0
HonestNext = (files : List Held) (answers : List FolderAnswer) (answer : FolderAnswer)
    → AreHonest files answers → Agrees (files_after files answers) answer
    → AreHonest files (answers ++ answer ∷ [])

-- what was told is told: no answer makes up for an earlier one
abbrev pub HonestBefore : Type 0
HonestBefore = (files : List Held) (answers : List FolderAnswer) (answer : FolderAnswer)
    → AreHonest files (answers ++ answer ∷ []) → AreHonest files answers

-- an honest listing has the names of what stands there
abbrev pub ListIsTrue : Type 0
ListIsTrue = (files : List Held) (answers : List FolderAnswer) (names : List (List ℕ))
    → AreHonest files (answers ++ Listed names ∷ []) → IsNames (files_after files answers) names

-- an honest reading gives the file that stands there
abbrev pub ReadIsTrue : Type 0
ReadIsTrue = (files : List Held) (answers : List FolderAnswer) (name : List ℕ)
    (bytes : Option (List ℕ)) → AreHonest files (answers ++ Gave name bytes ∷ [])
    → bytes ≡ file_in name (files_after files answers)

-- an honest length is that of the file that stands there
abbrev pub LengthIsTrue : Type 0
LengthIsTrue = (files : List Held) (answers : List FolderAnswer) (name : List ℕ) (n : ℕ)
    → AreHonest files (answers ++ Measured name n ∷ [])
    → HasLength (file_in name (files_after files answers)) n

-- what was put stands there, and each other file is as it was
abbrev pub PutIsThere : Type 0
PutIsThere = (files : List Held) (answers : List FolderAnswer) (name bytes : List ℕ)
    → Puts (files_after files answers)
    (files_after files (answers ++ Put name bytes true ∷ [])) name bytes

-- names that differ at first differ ever after
abbrev pub NamesStayApart : Type 0
NamesStayApart = (files : List Held) (answers : List FolderAnswer) → distinct files ≡ true
    → distinct (files_after files answers) ≡ true

-- the answer put nothing under the name
abbrev pub Leaves : List ℕ → FolderAnswer → Type 0
Leaves name (Listed names) = Unit {0}
Leaves name (Gave other bytes) = Unit {0}
Leaves name (Measured other n) = Unit {0}
Leaves name (Put other bytes done) = done ≡ true → name ≢ other

-- and none of these did
abbrev pub AllLeave : List ℕ → List FolderAnswer → Type 0
AllLeave name [] = Unit {0}
AllLeave name (answer ∷ answers) = Leaves name answer × AllLeave name answers

-- two honest readings of a file that was not put between them give the same
abbrev pub ReadingsAgree : Type 0
ReadingsAgree = (files : List Held) (before between : List FolderAnswer) (name : List ℕ)
    (first second : Option (List ℕ)) → AllLeave name between
    → AreHonest files (before ++ Gave name first ∷ between ++ Gave name second ∷ [])
    → second ≡ first

-- and a length after a reading is that of the bytes that it gave
abbrev pub LengthAgrees : Type 0
LengthAgrees = (files : List Held) (before between : List FolderAnswer) (name : List ℕ)
    (first : Option (List ℕ)) (n : ℕ) → AllLeave name between
    → AreHonest files (before ++ Gave name first ∷ between ++ Measured name n ∷ [])
    → HasLength first n
