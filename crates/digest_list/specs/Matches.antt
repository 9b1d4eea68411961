-- Whether bytes match a size and a list of digests (FIPS 180-4).
use Rattle.std.specs.Prelude.{◌≡◌, ◌≢◌, ℕ, List, [], All, length}
use Rattle.sha1.specs.Sha1.{sha1}
use Rattle.sha2.specs.Sha256.{sha256}
use Rattle.sha2.specs.Sha512.{sha384, sha512}
use Rattle.digest_list.specs.declared.algorithm.Algorithm.{Algorithm}
use Rattle.digest_list.specs.declared.algorithm.Algorithm.TheVariants.{Sha1, Sha256, Sha384, Sha512}
use Rattle.digest_list.specs.declared.digest.Digest.{Digest}

-- the digest of the bytes under the algorithm
abbrev pub hash_of : Algorithm → List ℕ → List ℕ
hash_of Sha1 bytes = sha1 bytes
hash_of Sha256 bytes = sha256 bytes
hash_of Sha384 bytes = sha384 bytes
hash_of Sha512 bytes = sha512 bytes

-- the digest is that of the bytes
abbrev pub IsDigestOf : List ℕ → Digest → Type 0
IsDigestOf bytes digest = digest.value ≡ hash_of digest.algorithm bytes

-- the bytes have that length, there is a digest, and each one is that of the bytes
pub record Matches (list : List Digest) (size : ℕ) (bytes : List ℕ) : Type 0 where
  pub sized : length bytes ≡ size
  pub some : list ≢ []
  pub digests : All (IsDigestOf bytes) list
