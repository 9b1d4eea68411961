-- Numbers of lines and words.
use Rattle.std.specs.Prelude.{ℕ, List, Option}
use Rattle.small_types.specs.Decimal.{decimal_of, at_most}
use Rattle.small_types.specs.declared.limits.TheConstants.{NUMBER_LIMIT, PIECE_LIMIT}

-- the number of 1 to 19 decimal digits, where it is at most 2^62
unfoldable pub number_of : List ℕ → Option ℕ
number_of bytes = at_most NUMBER_LIMIT (decimal_of bytes)

-- the same, where it is at most the bytes that one line reads
unfoldable pub count_of : List ℕ → Option ℕ
count_of bytes = at_most PIECE_LIMIT (decimal_of bytes)
