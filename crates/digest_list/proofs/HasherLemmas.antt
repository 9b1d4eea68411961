-- What the hashers hold, hasher by hasher.
use Rattle.std.proofs.Common.{◌≡◌, ◌∙◌, ℕ, true, List, [], Option, Some, None, IfSome, is_some, unwrap_or}
use Rattle.sha1.specs.Sha1.{sha1}
use Rattle.sha2.specs.Sha256.{sha256}
use Rattle.sha2.specs.Sha512.{sha384, sha512}
use Rattle.digest_list.specs.declared.algorithm.Algorithm.{Algorithm}
use Rattle.digest_list.specs.declared.algorithm.Algorithm.TheVariants.{Sha1, Sha256, Sha384, Sha512}
use Rattle.digest_list.specs.declared.hashers.Hashers.{Hashers}
use Rattle.digest_list.specs.declared.hashers.Sums.{Sums}
use Rattle.digest_list.specs.Hashers.{has_hasher, sum_of}
use Rattle.digest_list.specs.Matches.{hash_of}

-- the same algorithms have hashers
pub has_hasher-same : (old new : Hashers) → is_some new.sha1 ≡ is_some old.sha1 → is_some new.sha256 ≡ is_some old.sha256
    → is_some new.sha384 ≡ is_some old.sha384 → is_some new.sha512 ≡ is_some old.sha512
    → (a : Algorithm) → has_hasher old a ≡ true → has_hasher new a ≡ true
has_hasher-same old new e1 e256 e384 e512 Sha1 h = e1 ∙ h
has_hasher-same old new e1 e256 e384 e512 Sha256 h = e256 ∙ h
has_hasher-same old new e1 e256 e384 e512 Sha384 h = e384 ∙ h
has_hasher-same old new e1 e256 e384 e512 Sha512 h = e512 ∙ h

some_is : (o : Option (List ℕ)) (v : List ℕ) → is_some o ≡ true → IfSome o (λ d. d ≡ v) → unwrap_or o [] ≡ v
some_is None v present is = cc present
some_is (Some d) v present is = is

-- a digest stands where its hasher did
pub sum_of-is : (h : Hashers) (s : Sums) (m : List ℕ) → is_some s.sha1 ≡ is_some h.sha1 → is_some s.sha256 ≡ is_some h.sha256
    → is_some s.sha384 ≡ is_some h.sha384 → is_some s.sha512 ≡ is_some h.sha512
    → IfSome s.sha1 (λ d. d ≡ sha1 m) → IfSome s.sha256 (λ d. d ≡ sha256 m) → IfSome s.sha384 (λ d. d ≡ sha384 m) → IfSome s.sha512 (λ d. d ≡ sha512 m)
    → (a : Algorithm) → has_hasher h a ≡ true → sum_of s a ≡ hash_of a m
sum_of-is h s m e1 e256 e384 e512 v1 v256 v384 v512 Sha1 has = some_is s.sha1 (sha1 m) (e1 ∙ has) v1
sum_of-is h s m e1 e256 e384 e512 v1 v256 v384 v512 Sha256 has = some_is s.sha256 (sha256 m) (e256 ∙ has) v256
sum_of-is h s m e1 e256 e384 e512 v1 v256 v384 v512 Sha384 has = some_is s.sha384 (sha384 m) (e384 ∙ has) v384
sum_of-is h s m e1 e256 e384 e512 v1 v256 v384 v512 Sha512 has = some_is s.sha512 (sha512 m) (e512 ∙ has) v512
