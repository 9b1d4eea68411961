-- How bytes differ from a size and a list of digests.
use Rattle.std.specs.Prelude.{◌≢◌, ℕ, Bool, not, List, length, find, ◌==◌, if◌then◌else◌, Option, Some}
use Rattle.std.specs.Option.{option_map}
use Rattle.std.specs.Str.{bytes_eq}
use Rattle.digest_list.specs.declared.difference.Difference.{Difference}
use Rattle.digest_list.specs.declared.difference.Difference.TheVariants.{Size, Digest as OtherDigest}
use Rattle.digest_list.specs.declared.digest.Digest.{Digest}
use Rattle.digest_list.specs.Matches.{hash_of}

-- whether the digest is not that of the bytes
abbrev pub is_other : List ℕ → Digest → Bool
is_other bytes digest = not (bytes_eq digest.value (hash_of digest.algorithm bytes))

-- the digest beside that of the bytes
abbrev pub other_digest : List ℕ → Digest → Difference
other_digest bytes digest =
    OtherDigest digest.algorithm digest.value (hash_of digest.algorithm bytes)

-- the sizes where they differ, else the first digest that is not that of the bytes
unfoldable pub difference_of : List Digest → ℕ → List ℕ → Option Difference
difference_of list size bytes =
    if length bytes == size then option_map (other_digest bytes) (find (is_other bytes) list)
    else Some (Size size (length bytes))

-- what is listed is not what was found
abbrev pub AreDistinct : Difference → Type 0
AreDistinct (Size listed found) = ◌≢◌ {A = ℕ} listed found
AreDistinct (OtherDigest algorithm listed found) = ◌≢◌ {A = List ℕ} listed found
