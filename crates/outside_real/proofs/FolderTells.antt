-- What a folder tells of a call, by what it noted of it.
use Rattle.std.proofs.Common.{◌≡◌, ℕ, List, [], ◌∷◌, ◌++◌, true, false, refl, sym, ◌∙◌, ap, subst}
use Rattle.std.specs.Prelude.{Bool, Option, Some, None, Result, Ok, Err, IfOk, OnOk, OnErr, if◌then◌else◌}
use Rattle.std.proofs.lemmas.List.{append-nil}
use Rattle.folders.specs.declared.answer.FolderAnswer.{FolderAnswer}
use Rattle.folders.specs.declared.answer.FolderAnswer.TheVariants.{Listed, Gave, Measured, Put}
use Rattle.folders.specs.declared.folder.Found.{Found}
use Rattle.folders.specs.declared.folder.Found.TheVariants.{Nothing, Whole, TooLong}
use Rattle.folders.specs.declared.folder.Held.{Held}
use Rattle.folders.specs.Answers.{after, AreHonest, files_after}
use Rattle.folders.specs.Files.{file_in, IsNames, Puts}
use Rattle.folders.specs.Found.{Finds}
use Rattle.folders.specs.Told.{told_file, told_into, told_list, told_put, told_within}
use Rattle.folders.proofs.HonestAnswers.{agreed, files_push, put_there, were_honest}

-- a call that changes no file
pub record Looks (old new : List FolderAnswer) : Type 0 where
  pub same : (files : List Held) → files_after files new ≡ files_after files old
  pub told : (files : List Held) → AreHonest files new → AreHonest files old

-- nothing was noted
silent : (old new : List FolderAnswer) → new ≡ old → Looks old new
silent old new is = record {
  same = λ files. ap (files_after files) is;
  told = λ files honest. subst (AreHonest files) is honest;
}

-- one answer was noted, which changes no file
one_noted : (old new : List FolderAnswer) (answer : FolderAnswer) → ((files : List Held) → after answer files ≡ files) → new ≡ old ++ answer ∷ [] → Looks old new
one_noted old new answer still noted = record {
  same = λ files. ap (files_after files) noted ∙ (files_push files old answer ∙ still (files_after files old));
  told = λ files honest. were_honest files old answer (subst (AreHonest files) noted honest);
}

pub list_looks : {E : Type 0} (old new : List FolderAnswer) (r : Result (List (List ℕ)) E) → new ≡ old ++ told_list r → Looks old new
list_looks old new (Ok names) noted = one_noted old new (Listed names) (λ files. refl) noted
list_looks old new (Err e) noted = silent old new (noted ∙ append-nil old)

pub list_true : {E : Type 0} (old new : List FolderAnswer) (r : Result (List (List ℕ)) E) → new ≡ old ++ told_list r → (files : List Held) → AreHonest files new
    → IfOk r (IsNames (files_after files old))
list_true old new (Ok names) noted files honest = agreed files old (Listed names) (subst (AreHonest files) noted honest)
list_true old new (Err e) noted files honest = tt

pub file_looks : {E : Type 0} (old new : List FolderAnswer) (name : List ℕ) (r : Result (Option (List ℕ)) E) → new ≡ old ++ told_file name r → Looks old new
file_looks old new name (Ok bytes) noted = one_noted old new (Gave name bytes) (λ files. refl) noted
file_looks old new name (Err e) noted = silent old new (noted ∙ append-nil old)

pub file_true : {E : Type 0} (old new : List FolderAnswer) (name : List ℕ) (r : Result (Option (List ℕ)) E) → new ≡ old ++ told_file name r → (files : List Held) → AreHonest files new
    → IfOk r (λ bytes. bytes ≡ file_in name (files_after files old))
file_true old new name (Ok bytes) noted files honest = agreed files old (Gave name bytes) (subst (AreHonest files) noted honest)
file_true old new name (Err e) noted files honest = tt

pub into_looks : {E : Type 0} (old new : List FolderAnswer) (name into : List ℕ) (r : Result Bool E) → new ≡ old ++ told_into name into r → Looks old new
into_looks old new name into (Ok true) noted = one_noted old new (Gave name (Some into)) (λ files. refl) noted
into_looks old new name into (Ok false) noted = one_noted old new (Gave name None) (λ files. refl) noted
into_looks old new name into (Err e) noted = silent old new (noted ∙ append-nil old)

pub into_true : {E : Type 0} (old new : List FolderAnswer) (name into : List ℕ) (r : Result Bool E) → new ≡ old ++ told_into name into r → (files : List Held) → AreHonest files new
    → IfOk r (λ found. file_in name (files_after files old) ≡ (if found then Some into else None))
into_true old new name into (Ok true) noted files honest = sym (agreed files old (Gave name (Some into)) (subst (AreHonest files) noted honest))
into_true old new name into (Ok false) noted files honest = sym (agreed files old (Gave name None) (subst (AreHonest files) noted honest))
into_true old new name into (Err e) noted files honest = tt

pub within_looks : {E : Type 0} (old new : List FolderAnswer) (name into : List ℕ) (r : Result Found E) → new ≡ old ++ told_within name into r → Looks old new
within_looks old new name into (Ok Nothing) noted = one_noted old new (Gave name None) (λ files. refl) noted
within_looks old new name into (Ok Whole) noted = one_noted old new (Gave name (Some into)) (λ files. refl) noted
within_looks old new name into (Ok (TooLong n)) noted = one_noted old new (Measured name n) (λ files. refl) noted
within_looks old new name into (Err e) noted = silent old new (noted ∙ append-nil old)

pub within_true : {E : Type 0} (old new : List FolderAnswer) (name into : List ℕ) (r : Result Found E) → new ≡ old ++ told_within name into r → (files : List Held) → AreHonest files new
    → IfOk r (Finds (file_in name (files_after files old)) into)
within_true old new name into (Ok Nothing) noted files honest = sym (agreed files old (Gave name None) (subst (AreHonest files) noted honest))
within_true old new name into (Ok Whole) noted files honest = sym (agreed files old (Gave name (Some into)) (subst (AreHonest files) noted honest))
within_true old new name into (Ok (TooLong n)) noted files honest = agreed files old (Measured name n) (subst (AreHonest files) noted honest)
within_true old new name into (Err e) noted files honest = tt

pub put_told : {T E : Type 0} (old new : List FolderAnswer) (name bytes : List ℕ) (r : Result T E) → new ≡ old ++ told_put name bytes r → (files : List Held) → AreHonest files new → AreHonest files old
put_told old new name bytes (Ok x) noted files honest = were_honest files old (Put name bytes true) (subst (AreHonest files) noted honest)
put_told old new name bytes (Err e) noted files honest = were_honest files old (Put name bytes false) (subst (AreHonest files) noted honest)

pub put_done : {T E : Type 0} (old new : List FolderAnswer) (name bytes : List ℕ) (r : Result T E) → new ≡ old ++ told_put name bytes r → (files : List Held)
    → OnOk r (Puts (files_after files old) (files_after files new) name bytes)
put_done old new name bytes (Ok x) noted files = subst (λ (later : List FolderAnswer). Puts (files_after files old) (files_after files later) name bytes) (sym noted) (put_there files old name bytes)
put_done old new name bytes (Err e) noted files = tt

pub put_failed : {T E : Type 0} (old new : List FolderAnswer) (name bytes : List ℕ) (r : Result T E) → new ≡ old ++ told_put name bytes r → (files : List Held)
    → OnErr r (files_after files new ≡ files_after files old)
put_failed old new name bytes (Ok x) noted files = tt
put_failed old new name bytes (Err e) noted files = ap (files_after files) noted ∙ files_push files old (Put name bytes false)

-- what a call gave is handed on
pub handed_on : {T E F : Type 0} (P : T → Type 0) (done : Result T E) (r : Result T F) → IfOk r (λ value. done ≡ Ok value) → IfOk done P → IfOk r P
handed_on {E = E} P done (Ok y) same is = subst (λ (d : Result _ E). IfOk d P) same is
handed_on P done (Err f) same is = tt

-- what a call noted stands behind what was noted before it, also where an inner call that noted nothing came first
pub noted_on : (old mid new told : List FolderAnswer) → mid ≡ old → new ≡ mid ++ told → new ≡ old ++ told
noted_on old mid new told same noted = noted ∙ ap (λ (answers : List FolderAnswer). answers ++ told) same
