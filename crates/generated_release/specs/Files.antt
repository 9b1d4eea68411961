-- The generated files.
use Rattle.std.specs.Prelude.{ℕ, zero, suc, ◌+◌, ◌*◌, ◌/◌, ◌%◌, ◌==◌, ◌&&◌, nat_le, List, [], ◌∷◌, ◌++◌, codes, decimal, if◌then◌else◌}
use Rattle.folders.specs.declared.folder.Held.{Held}
use Rattle.generated_release.specs.declared.files.TheConstants.{FILE_COUNT}

-- Which change of a file a version has: the files whose numbers end in 2 change with version 2,
-- those whose numbers end in 3 with version 3.
abbrev pub change_in : ℕ → ℕ → ℕ
change_in version file =
    if nat_le 2 version && file % 10 == 2 then 2 else
    if nat_le 3 version && file % 10 == 3 then 3 else 1

-- the line of a file, with its line feed
abbrev pub line_text : ℕ → ℕ → ℕ → List ℕ
line_text seed file change =
    codes "demo " ++ (decimal seed ++ (codes " file " ++ (decimal file ++ (codes " change "
    ++ (decimal change ++ 10 ∷ [])))))

-- bytes so many times, one after another
unfoldable pub times : ℕ → List ℕ → List ℕ
times zero bytes = []
times (suc n) bytes = times n bytes ++ bytes

-- how often the line stands in the file
abbrev pub line_count : ℕ → ℕ
line_count file = 1 + 20 * (file % 20)

-- the bytes of a file in a version
unfoldable pub file_bytes : ℕ → ℕ → ℕ → List ℕ
file_bytes seed version file =
    times (line_count file) (line_text seed file (change_in version file))

-- the name of a file: its number has three digits
abbrev pub file_name : ℕ → List ℕ
file_name file =
    102 ∷ (48 + file / 100) ∷ (48 + file / 10 % 10) ∷ (48 + file % 10) ∷ codes ".txt"

-- a file of a version, below a folder
abbrev pub file_below : List ℕ → ℕ → ℕ → ℕ → Held
file_below folder seed version file =
    record { name = folder ++ file_name file; bytes = file_bytes seed version file }

-- the first so many files of a version, below a folder
unfoldable pub files_to : List ℕ → ℕ → ℕ → ℕ → List Held
files_to folder seed version zero = []
files_to folder seed version (suc n) =
    files_to folder seed version n ++ file_below folder seed version n ∷ []

-- all files of a version
abbrev pub generated_files : ℕ → ℕ → List Held
generated_files seed version = files_to [] seed version FILE_COUNT

-- one of these files below the folder `in`, and all of them
abbrev pub input_file : ℕ → ℕ → ℕ → Held
input_file = file_below (codes "in/")

abbrev pub input_files : ℕ → ℕ → List Held
input_files seed version = files_to (codes "in/") seed version FILE_COUNT
