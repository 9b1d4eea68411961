-- The key of the application is one of commands.
use Rattle.std.proofs.Common.{◌≡◌, ℕ, Bool, true, List, [], ◌∷◌, length, nat_le, nat_lt, IsAscii, refl}
use Rattle.std.specs.List.{list_all}
use Rattle.std.proofs.lemmas.Bool.{and_parts, leb-true, ltb-true}
use Rattle.std.proofs.lemmas.Str.{IsUtf8-from_ascii}
use Rattle.std.proofs.lemmas.Str.Ascii.{IsAscii-cons, IsAscii-nil}
use Rattle.small_types.specs.declared.limits.TheConstants.{IDENTITY_PART_LIMIT, NAME_LIMIT}
use Rattle.identity.specs.Key.{IsKey, IsPart}
use Rattle.generated_release.specs.Options.{demo_key}

abbrev is_low : ℕ → Bool
is_low byte = nat_lt byte 128

all_low : (bytes : List ℕ) → list_all is_low bytes ≡ true → IsAscii bytes
all_low [] each = IsAscii-nil
all_low (byte ∷ bytes) each =
    let parts = and_parts (is_low byte) (list_all is_low bytes) each in
    IsAscii-cons byte bytes (ltb-true byte 128 parts.0) (all_low bytes parts.1)

part_by : (limit : ℕ) (text : List ℕ) → nat_lt 0 (length text) ≡ true
    → nat_le (length text) limit ≡ true → list_all is_low text ≡ true → IsPart limit text
part_by limit text some few each = record {
  nonempty = ltb-true 0 (length text) some;
  within = leb-true (length text) limit few;
  utf8 = IsUtf8-from_ascii text (all_low text each);
}

pub demo_is_key : IsKey demo_key
demo_is_key = record {
  name = part_by NAME_LIMIT demo_key.name refl refl refl;
  token = part_by IDENTITY_PART_LIMIT demo_key.token refl refl refl;
  language = part_by IDENTITY_PART_LIMIT demo_key.language refl refl refl;
  architecture = part_by IDENTITY_PART_LIMIT demo_key.architecture refl refl refl;
}
