-- What honest answers of a folder say, one after another.
use Rattle.std.proofs.Common.{◌≡◌, ◌≢◌, ℕ, List, [], ◌∷◌, ◌++◌, Bool, true, false, refl, sym, ◌∙◌, ap, subst}
use Rattle.std.specs.Prelude.{Option}
use Rattle.folders.specs.declared.answer.FolderAnswer.{FolderAnswer}
use Rattle.folders.specs.declared.answer.FolderAnswer.TheVariants.{Listed, Gave, Measured, Put}
use Rattle.folders.specs.declared.folder.Held.{Held}
use Rattle.folders.specs.Answers.{Agrees, AreHonest, after, files_after, put_in}
use Rattle.folders.specs.Files.{distinct, file_in, Puts}
use Rattle.folders.specs.Honesty.{AllLeave, Leaves}
use Rattle.folders.specs.Found.{HasLength}
use Rattle.folders.proofs.PutFiles.{distinct_new, puts_new}

-- what stands there after one answer more
pub files_push : (files : List Held) (answers : List FolderAnswer) (answer : FolderAnswer)
    → files_after files (answers ++ answer ∷ []) ≡ after answer (files_after files answers)
files_push files [] answer = refl
files_push files (a ∷ answers) answer = files_push (after a files) answers answer

-- an honest answer agrees with what stood there by then
pub agreed : (files : List Held) (answers : List FolderAnswer) (answer : FolderAnswer) → AreHonest files (answers ++ answer ∷ []) → Agrees (files_after files answers) answer
agreed files [] answer honest = honest.0
agreed files (a ∷ answers) answer honest = agreed (after a files) answers answer honest.1

-- and those before it were honest
pub were_honest : (files : List Held) (answers : List FolderAnswer) (answer : FolderAnswer) → AreHonest files (answers ++ answer ∷ []) → AreHonest files answers
were_honest files [] answer honest = tt
were_honest files (a ∷ answers) answer honest = (honest.0, were_honest (after a files) answers answer honest.1)

pub stay_honest : (files : List Held) (answers : List FolderAnswer) (answer : FolderAnswer) → AreHonest files answers → Agrees (files_after files answers) answer → AreHonest files (answers ++ answer ∷ [])
stay_honest files [] answer honest agrees = (agrees, tt)
stay_honest files (a ∷ answers) answer honest agrees = (honest.0, stay_honest (after a files) answers answer honest.1 agrees)

-- the same of many answers behind others
files_on : (files : List Held) (first second : List FolderAnswer) → files_after files (first ++ second) ≡ files_after (files_after files first) second
files_on files [] second = refl
files_on files (a ∷ first) second = files_on (after a files) first second

pub put_there : (files : List Held) (answers : List FolderAnswer) (name bytes : List ℕ) → Puts (files_after files answers) (files_after files (answers ++ Put name bytes true ∷ [])) name bytes
put_there files answers name bytes = puts_new (files_after files answers) (files_after files (answers ++ Put name bytes true ∷ [])) (record { name = name; bytes = bytes }) (files_push files answers (Put name bytes true))

-- names stay apart
apart_after : (answer : FolderAnswer) (files : List Held) → distinct files ≡ true → distinct (after answer files) ≡ true
apart_after (Listed names) files differ = differ
apart_after (Gave name bytes) files differ = differ
apart_after (Measured name n) files differ = differ
apart_after (Put name bytes true) files differ = distinct_new files (record { name = name; bytes = bytes }) differ
apart_after (Put name bytes false) files differ = differ

pub stay_apart : (files : List Held) (answers : List FolderAnswer) → distinct files ≡ true → distinct (files_after files answers) ≡ true
stay_apart files [] differ = differ
stay_apart files (a ∷ answers) differ = stay_apart (after a files) answers (apart_after a files differ)

-- a file that an answer did not put is as it was
same_after : (name : List ℕ) (answer : FolderAnswer) (files : List Held) → Leaves name answer → file_in name (after answer files) ≡ file_in name files
same_after name (Listed names) files leaves = refl
same_after name (Gave other bytes) files leaves = refl
same_after name (Measured other n) files leaves = refl
same_after name (Put other bytes true) files leaves =
    let puts : Puts files (put_in other bytes files) other bytes = puts_new files (put_in other bytes files) (record { name = other; bytes = bytes }) refl in
    puts.others name (leaves refl)
same_after name (Put other bytes false) files leaves = refl

all_same : (name : List ℕ) (answers : List FolderAnswer) (files : List Held) → AllLeave name answers → file_in name (files_after files answers) ≡ file_in name files
all_same name [] files leave = refl
all_same name (a ∷ answers) files leave = all_same name answers (after a files) leave.1 ∙ same_after name a files leave.0

-- an answer after others that put nothing under the name speaks of the file that a reading before them gave
pub file_stays : (files : List Held) (before between : List FolderAnswer) (name : List ℕ) (first : Option (List ℕ)) (answer : FolderAnswer) → AllLeave name between
    → AreHonest files (before ++ Gave name first ∷ between ++ answer ∷ [])
    → file_in name (files_after files (before ++ Gave name first ∷ between)) ≡ first
file_stays files [] between name first answer leave honest = all_same name between files leave ∙ sym honest.0
file_stays files (a ∷ before) between name first answer leave honest = file_stays (after a files) before between name first answer leave honest.1
