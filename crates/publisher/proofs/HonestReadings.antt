-- Two honest readings of a file show no change.
use Rattle.std.proofs.Common.{◌≡◌, ℕ, Bool, true, false, List, [], ◌∷◌, ◌++◌, length, Some, None, refl, sym, ap, subst, ◌∙◌}
use Rattle.std.specs.Prelude.{find}
use Rattle.std.specs.Str.{bytes_eq}
use Rattle.std.proofs.lemmas.Slice.Eq.{bytes_eq-Decides}
use Rattle.sha2.specs.Sha256.{sha256}
use Rattle.folders.specs.declared.answer.FolderAnswer.{FolderAnswer}
use Rattle.folders.specs.declared.answer.FolderAnswer.TheVariants.{Gave}
use Rattle.folders.specs.declared.folder.Held.{Held}
use Rattle.folders.specs.Answers.{AreHonest}
use Rattle.folders.proofs.HonestAnswers.{agreed, file_stays}
use Rattle.digest_list.specs.declared.difference.Difference.{Difference}
use Rattle.digest_list.specs.Difference.{difference_of, is_other}
use Rattle.digest_list.proofs.DifferenceLemmas.{difference_of-none}
use Rattle.publisher.specs.Publication.{digests_of}
use Rattle.publisher.specs.Readings.{ReadsTwice, given_bytes}

-- bytes have their own digest
none_other : (bytes : List ℕ) → find (is_other bytes) (digests_of bytes) ≡ None
none_other bytes = by (bytes_eq (sha256 bytes) (sha256 bytes)) refl
  where
    by : (b : Bool) → bytes_eq (sha256 bytes) (sha256 bytes) ≡ b → find (is_other bytes) (digests_of bytes) ≡ None
    by true same = rw same refl
    by false other = absurd (let same = (bytes_eq-Decides (sha256 bytes) (sha256 bytes)).1 refl in cc)

no_difference : (bytes : List ℕ) → difference_of (digests_of bytes) (length bytes) bytes ≡ None
no_difference bytes = difference_of-none (digests_of bytes) (length bytes) bytes refl (none_other bytes)

-- the second reading gave what the first did
same_again : (files : List Held) (name : List ℕ) (difference : Difference) (old new : List FolderAnswer) (twice : ReadsTwice name difference old new) → AreHonest files new → twice.again ≡ twice.first
same_again files name difference old new twice honest =
    let front = old ++ twice.before in
    let all : AreHonest files ((front ++ Gave name twice.first ∷ twice.between) ++ Gave name twice.again ∷ []) = subst (AreHonest files) twice.told honest in
    agreed files (front ++ Gave name twice.first ∷ twice.between) (Gave name twice.again) all
    ∙ file_stays files front twice.between name twice.first (Gave name twice.again) twice.left all

pub never_changed : (files : List Held) (name : List ℕ) (difference : Difference) (old new : List FolderAnswer) → ReadsTwice name difference old new → ¬ AreHonest files new
never_changed files name difference old new twice honest =
    let same : given_bytes twice.again ≡ given_bytes twice.first = ap given_bytes (same_again files name difference old new twice honest) in
    let none : difference_of (digests_of (given_bytes twice.first)) (length (given_bytes twice.first)) (given_bytes twice.again) ≡ None =
    ap (difference_of (digests_of (given_bytes twice.first)) (length (given_bytes twice.first))) same ∙ no_difference (given_bytes twice.first) in
    let both : None ≡ Some difference = sym none ∙ twice.is in
    cc
