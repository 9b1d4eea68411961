-- Numbers in decimal digits.
use Rattle.std.specs.Prelude.{ℕ, List, length, Option, Some, None, ◌&&◌, nat_lt, nat_le, if◌then◌else◌}
use Rattle.std.specs.Char.{is_ascii_digit}
use Rattle.std.specs.List.{list_all}
use Rattle.std.specs.Str.Parse.{digits_value}
use Rattle.small_types.specs.declared.limits.TheConstants.{DIGIT_LIMIT}

-- the number of 1 to 19 decimal digits
unfoldable pub decimal_of : List ℕ → Option ℕ
decimal_of bytes =
    if nat_lt 0 (length bytes) && nat_le (length bytes) DIGIT_LIMIT && list_all is_ascii_digit bytes
    then Some (digits_value 10 bytes) else None

-- a number that is at most the limit
abbrev pub at_most : ℕ → Option ℕ → Option ℕ
at_most limit None = None
at_most limit (Some number) = if nat_le number limit then Some number else None
