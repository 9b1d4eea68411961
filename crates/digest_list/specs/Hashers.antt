-- What the hashers of a list hold, and the digests that they give.
use Rattle.std.specs.Prelude.{◌≡◌, ℕ, Bool, true, List, [], Any, IfSome, is_some, unwrap_or}
use Rattle.sha1.specs.Sha1 as s1
use Rattle.sha2.specs.Hashers.{Holds256, Holds384, Holds512}
use Rattle.digest_list.specs.declared.algorithm.Algorithm.{Algorithm}
use Rattle.digest_list.specs.declared.algorithm.Algorithm.TheVariants.{Sha1, Sha256, Sha384, Sha512}
use Rattle.digest_list.specs.declared.digest.Digest.{Digest}
use Rattle.digest_list.specs.declared.hashers.Hashers.{Hashers}
use Rattle.digest_list.specs.declared.hashers.Sums.{Sums}
use Rattle.digest_list.specs.Matches.{hash_of}

-- a digest of the list is of that algorithm
abbrev pub IsListed : List Digest → Algorithm → Type 0
IsListed list algorithm = Any (λ (d : Digest). d.algorithm ≡ algorithm) list

-- there is a hasher of that algorithm
abbrev pub has_hasher : Hashers → Algorithm → Bool
has_hasher h Sha1 = is_some h.sha1
has_hasher h Sha256 = is_some h.sha256
has_hasher h Sha384 = is_some h.sha384
has_hasher h Sha512 = is_some h.sha512

-- each algorithm of the list has a hasher, and each hasher holds the message
pub record Hold (h : Hashers) (list : List Digest) (message : List ℕ) : Type 0 where
  pub listed : (a : Algorithm) → IsListed list a → has_hasher h a ≡ true
  pub sha1 : IfSome h.sha1 (λ s. s1.Holds s.core message)
  pub sha256 : IfSome h.sha256 (λ s. Holds256 s message)
  pub sha384 : IfSome h.sha384 (λ s. Holds384 s message)
  pub sha512 : IfSome h.sha512 (λ s. Holds512 s message)

-- the digest under an algorithm, or no bytes
abbrev pub sum_of : Sums → Algorithm → List ℕ
sum_of s Sha1 = unwrap_or s.sha1 []
sum_of s Sha256 = unwrap_or s.sha256 []
sum_of s Sha384 = unwrap_or s.sha384 []
sum_of s Sha512 = unwrap_or s.sha512 []

-- the digests of the message under the algorithms of the list
pub record HaveSums (s : Sums) (list : List Digest) (message : List ℕ) : Type 0 where
  pub sums : (a : Algorithm) → IsListed list a → sum_of s a ≡ hash_of a message
