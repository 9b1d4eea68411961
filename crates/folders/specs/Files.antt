-- Files by their names.
use Rattle.std.specs.Prelude.{◌≡◌, ◌≢◌, ◌&&◌, ℕ, Bool, true, not, List, [], ◌∷◌, map, find, Option, Some, option_map, IsPermutation, IsSorted}
use Rattle.std.specs.Cmp.Lexicographic.{slice_cmp}
use Rattle.std.specs.List.{list_any}
use Rattle.std.specs.Ordering.{nat_cmp}
use Rattle.std.specs.Str.{bytes_eq}
use Rattle.folders.specs.declared.folder.Held.{Held}

abbrev pub is_named : List ℕ → Held → Bool
is_named name file = bytes_eq file.name name

-- the bytes of the file of this name
abbrev pub file_in : List ℕ → List Held → Option (List ℕ)
file_in name files = option_map (λ file. file.bytes) (find (is_named name) files)

abbrev pub names_of : List Held → List (List ℕ)
names_of files = map (λ file. file.name) files

-- whether the names differ
abbrev pub distinct : List Held → Bool
distinct [] = true
distinct (file ∷ files) = not (list_any (is_named file.name) files) && distinct files

-- exactly the names of the files, in byte order
pub record IsNames (files : List Held) (names : List (List ℕ)) : Type 0 where
  pub exact : IsPermutation (names_of files) names
  pub ordered : IsSorted (slice_cmp nat_cmp) names

-- there is a list of the names of the files, and no other
pub record HasOneList (files : List Held) : Type 0 where
  pub names : List (List ℕ)
  pub are : IsNames files names
  pub only : (others : List (List ℕ)) → IsNames files others → others ≡ names

-- the name has these bytes, and every other name has what it had
pub record Puts (old new : List Held) (name bytes : List ℕ) : Type 0 where
  pub changed : file_in name new ≡ Some bytes
  pub others : (other : List ℕ) → other ≢ name → file_in other new ≡ file_in other old
