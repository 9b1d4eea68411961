-- The values of attributes.
use Rattle.std.specs.Prelude.{◌≡◌, ℕ, Bool, true, false, ◌&&◌, ◌||◌, not, ◌==◌, nat_le, List, [], ◌∷◌, length, codes, Option, Some, None, Result, Ok, Err, if◌then◌else◌}
use Rattle.std.specs.Char.{is_ascii_digit}
use Rattle.std.specs.List.{list_all}
use Rattle.std.specs.Str.{bytes_eq}
use Rattle.std.specs.Str.Parse.{digits_value}
use Rattle.small_types.specs.Outcome.{◌>>=◌}
use Rattle.small_types.specs.declared.limits.TheConstants.{DIGIT_LIMIT}
use Rattle.identity.specs.declared.version.Version.{Version}
use Rattle.identity.specs.declared.version.VersionFault.{VersionFault}
use Rattle.identity.specs.Version.{version_of}
use Rattle.manifest_parts.specs.declared.fault.ManifestFault.{ManifestFault}
use Rattle.manifest_parts.specs.declared.fault.ManifestFault.TheVariants.{Missing, BadValue}
use Rattle.manifest_parts.specs.Elements.{Read}

-- an attribute that must be there
abbrev pub needed : List ℕ → Option (List ℕ) → Read (List ℕ)
needed what None = Err (Missing what)
needed what (Some value) = Ok value

-- a value that is read, where it is of its form
abbrev pub valid : {A : Type 0} → List ℕ → Option A → Read A
valid what None = Err (BadValue what)
valid what (Some x) = Ok x

-- a value of one byte or more and at most so many
unfoldable pub filled : ℕ → List ℕ → List ℕ → Read (List ℕ)
filled limit what value =
    if nat_le 1 (length value) && nat_le (length value) limit then Ok value else Err (BadValue what)

-- a value of at most so many bytes; absent it is empty
unfoldable pub within : ℕ → List ℕ → Option (List ℕ) → Read (List ℕ)
within limit what None = Ok []
within limit what (Some value) =
    if nat_le (length value) limit then Ok value else Err (BadValue what)

-- a value of at most so many bytes, where absent or empty the default
abbrev pub or_default : List ℕ → List ℕ → List ℕ
or_default [] default = default
or_default (c ∷ cs) default = c ∷ cs

unfoldable pub defaulted : ℕ → List ℕ → List ℕ → Option (List ℕ) → Read (List ℕ)
defaulted limit what default value =
    within limit what value >>= λ given. Ok (or_default given default)

-- `true` and `1`, `false` and `0`
unfoldable pub truth_of : List ℕ → Option Bool
truth_of value =
    if bytes_eq value (codes "true") || bytes_eq value (codes "1") then Some true else
    if bytes_eq value (codes "false") || bytes_eq value (codes "0") then Some false else None

-- a truth value, absent the default
abbrev pub truth : List ℕ → Bool → Option (List ℕ) → Read Bool
truth what default None = Ok default
truth what default (Some value) = valid what (truth_of value)

-- a number of one to so many decimal digits that is at most the limit
unfoldable pub number_in : ℕ → ℕ → List ℕ → Option ℕ
number_in digits limit text =
    if nat_le 1 (length text) && nat_le (length text)
    digits && list_all is_ascii_digit text && nat_le (digits_value 10 text) limit
    then Some (digits_value 10 text) else None

abbrev pub number_of : ℕ → ℕ → List ℕ → List ℕ → Read ℕ
number_of digits limit what value = valid what (number_in digits limit value)

-- a size in bytes: one to nineteen digits, and at most the limit
abbrev pub size_of : ℕ → Option (List ℕ) → Read ℕ
size_of limit value = needed (codes "size") value >>= number_of DIGIT_LIMIT limit (codes "size")

-- a version
abbrev pub as_version : List ℕ → Result Version VersionFault → Read Version
as_version what (Ok v) = Ok v
as_version what (Err e) = Err (BadValue what)

abbrev pub version_value : List ℕ → List ℕ → Read Version
version_value what value = as_version what (version_of value)
