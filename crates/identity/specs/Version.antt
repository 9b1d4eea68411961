-- Versions: four numbers of 16 bits, written with dots between them and ordered from the left.
use Rattle.std.specs.Prelude.{◌≡◌, ◌⊎◌, ℕ, ◌^◌, ◌<◌, List, [], ◌∷◌, length, Result, Ok, Err, decimal, not, ◌==◌, ◌||◌, nat_lt, if◌then◌else◌}
use Rattle.std.specs.Char.{is_ascii_digit}
use Rattle.std.specs.List.{join_with_byte, list_all}
use Rattle.std.specs.Str.Parse.{digits_value}
use Rattle.std.specs.declared.cmp.Ordering.{Ordering}
use Rattle.std.specs.Ordering.{nat_cmp, ordering_then, is_lt}
use Rattle.identity.specs.declared.version.TheConstants.{VERSION_DIGIT_LIMIT, VERSION_NUMBER_LIMIT}
use Rattle.identity.specs.declared.version.Version.{Version}
use Rattle.identity.specs.declared.version.VersionFault.{VersionFault}
use Rattle.identity.specs.declared.version.VersionFault.TheVariants.{PartCount, NotDigits, TooLarge}
use Rattle.small_types.specs.Cuts.{parts_between}
use Rattle.small_types.specs.Outcome.{◌>>=◌}

-- `.`
abbrev pub dot : ℕ
dot = 46

-- each number fits 16 bits
pub record IsVersion (v : Version) : Type 0 where
  pub a : v.a < 2 ^ 16
  pub b : v.b < 2 ^ 16
  pub c : v.c < 2 ^ 16
  pub d : v.d < 2 ^ 16

-- the text of a version: its numbers with no leading zeros, with dots between them
unfoldable pub version_text : Version → List ℕ
version_text v = join_with_byte dot (decimal v.a ∷ decimal v.b ∷ decimal v.c ∷ decimal v.d ∷ [])

-- the number that stands as that part: at most five digits, and at most 65,535
unfoldable pub number_of : ℕ → List ℕ → Result ℕ VersionFault
number_of part bytes =
    if length bytes == 0 || not (list_all is_ascii_digit bytes) then Err (NotDigits part)
    else if nat_lt VERSION_DIGIT_LIMIT (length bytes)
    || nat_lt VERSION_NUMBER_LIMIT (digits_value 10 bytes) then Err (TooLarge part)
    else Ok (digits_value 10 bytes)

-- there are four parts, which are read from the left
unfoldable pub version_of_parts : List (List ℕ) → Result Version VersionFault
version_of_parts (first ∷ second ∷ third ∷ fourth ∷ []) = do
  a ← number_of 1 first
  b ← number_of 2 second
  c ← number_of 3 third
  d ← number_of 4 fourth
  Ok (record { a = a; b = b; c = c; d = d })
version_of_parts _ = Err PartCount

-- what reading the bytes gives
unfoldable pub version_of : List ℕ → Result Version VersionFault
version_of bytes = version_of_parts (parts_between dot bytes)

-- of the first numbers that differ, from the left, the one of the first version is smaller
abbrev pub IsBelow : Version → Version → Type 0
IsBelow v w =
    (v.a < w.a) ⊎ ((v.a ≡ w.a)
    × ((v.b < w.b) ⊎ ((v.b ≡ w.b) × ((v.c < w.c) ⊎ ((v.c ≡ w.c) × (v.d < w.d))))))

-- the order by the four numbers, from the left
abbrev pub version_cmp : Version → Version → Ordering
version_cmp v w =
    ordering_then (nat_cmp v.a w.a)
    (ordering_then (nat_cmp v.b w.b) (ordering_then (nat_cmp v.c w.c) (nat_cmp v.d w.d)))

-- the new version where the old one is below it, and else the old one
abbrev pub greater_of : Version → Version → Version
greater_of old new = if is_lt (version_cmp old new) then new else old
