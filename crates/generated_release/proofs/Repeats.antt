-- Bytes and files that are added one after another.
use Rattle.std.proofs.Common.{◌≡◌, ◌+◌, ◌++◌, ℕ, List, [], ◌∷◌, refl, ap, add-one}
use Rattle.generated_release.specs.Files.{file_below, files_to, times}

pub times_none : (bytes : List ℕ) → times 0 bytes ≡ []
unfolding times
times_none bytes = refl

pub times_more : (n : ℕ) (bytes : List ℕ) → times (n + 1) bytes ≡ times n bytes ++ bytes
unfolding times
times_more n bytes = ap (λ m. times m bytes) (add-one n)

pub files_none : (folder : List ℕ) (seed version : ℕ) → files_to folder seed version 0 ≡ []
unfolding files_to
files_none folder seed version = refl

pub files_more : (folder : List ℕ) (seed version n : ℕ)
    → files_to folder seed version (n + 1)
    ≡ files_to folder seed version n ++ file_below folder seed version n ∷ []
unfolding files_to
files_more folder seed version n = ap (λ m. files_to folder seed version m) (add-one n)
