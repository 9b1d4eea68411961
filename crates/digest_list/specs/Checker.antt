-- A checker that is fed with bytes.
use Rattle.std.specs.Prelude.{◌≡◌, ℕ, List, length}
use Rattle.digest_list.specs.declared.checker.Checker.{Checker}
use Rattle.digest_list.specs.declared.digest.Digest.{Digest}
use Rattle.digest_list.specs.Hashers.{Hold}

-- how many bytes came so far
abbrev pub count_of : Checker → ℕ
count_of checker = checker.count

-- the checker is of that list and size, and these bytes came so far
pub record IsFed (checker : Checker) (list : List Digest) (size : ℕ) (bytes : List ℕ) : Type 0 where
  pub listed : checker.listed ≡ list
  pub sized : checker.size ≡ size
  pub count : checker.count ≡ length bytes
  pub hashers : Hold checker.hashers list bytes
