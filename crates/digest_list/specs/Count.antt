-- How many digests a list has.
use Rattle.std.specs.Prelude.{◌≤◌, List, length}
use Rattle.small_types.specs.declared.limits.TheConstants.{HASH_LIMIT}

-- 1 to 8 of them
pub record IsCount {X : Type 0} (digests : List X) : Type 0 where
  pub some : 1 ≤ length digests
  pub within : length digests ≤ HASH_LIMIT
