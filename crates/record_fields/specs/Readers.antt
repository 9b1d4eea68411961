-- Reading from the left. A field gives its value and the place behind it, and the fault is the
-- first field that cannot be read, by the place where it begins.
use Rattle.std.specs.Prelude.{◌≡◌, ℕ, ◌+◌, ◌-◌, ◌≤◌, List, length, take, drop, Result, Ok, Err, nat_lt, nat_le, ◌&&◌, if◌then◌else◌}
use Rattle.std.specs.Int.{Width, w16, w32, byte_len, from_be_bytes}
use Rattle.std.specs.Str.{is_utf8}
use Rattle.identity.specs.declared.version.Version.{Version}
use Rattle.identity.specs.declared.key.Key.{Key}
use Rattle.small_types.specs.Outcome.{◌>>=◌}
use Rattle.small_types.specs.declared.limits.TheConstants.{IDENTITY_PART_LIMIT, NAME_LIMIT}
use Rattle.record_fields.specs.declared.fault.CodecFault.{CodecFault}
use Rattle.record_fields.specs.declared.fault.CodecFault.TheVariants.{Bad, Memory}

-- an error of a call is that of the reading, unless memory ran out
abbrev pub Fails : {X : Type 0} → CodecFault → Result X CodecFault → Type 0
Fails Memory read = Unit {0}
Fails (Bad place) read = read ≡ Err (Bad place)

-- a call gives what the reading gives, unless memory ran out
abbrev pub Gives : {X : Type 0} → Result X CodecFault → Result X CodecFault → Type 0
Gives (Ok x) read = read ≡ Ok x
Gives (Err e) read = Fails e read

-- the place of a fault is at most n
abbrev pub IsFaultWithin : ℕ → CodecFault → Type 0
IsFaultWithin n (Bad place) = place ≤ n
IsFaultWithin n Memory = Unit {0}

-- the bytes are at fault, and memory did not run out
abbrev pub IsBad : CodecFault → Type 0
IsBad (Bad place) = Unit {0}
IsBad Memory = ⊥

-- a number of that width, the first byte the greatest
abbrev pub number_at : Width → List ℕ → ℕ → Result (ℕ × ℕ) CodecFault
number_at w bytes place =
    if nat_lt (length bytes - place) (byte_len w) then Err (Bad place)
    else Ok (from_be_bytes w (take (byte_len w) (drop place bytes)), place + byte_len w)

-- that many bytes, at most the limit, in UTF-8
abbrev pub sized_at : ℕ → List ℕ → ℕ → ℕ → ℕ → Result (List ℕ × ℕ) CodecFault
sized_at limit bytes place size start =
    if nat_le size limit && nat_le size (length bytes - start)
    && is_utf8 (take size (drop start bytes))
    then Ok (take size (drop start bytes), start + size)
    else Err (Bad place)

-- a length and the text
unfoldable pub text_at : ℕ → List ℕ → ℕ → Result (List ℕ × ℕ) CodecFault
text_at limit bytes place = do
  size ← number_at w32 bytes place
  sized_at limit bytes place size.0 size.1

unfoldable pub key_at : List ℕ → ℕ → Result (Key × ℕ) CodecFault
key_at bytes place = do
  name ← text_at NAME_LIMIT bytes place
  token ← text_at IDENTITY_PART_LIMIT bytes name.1
  language ← text_at IDENTITY_PART_LIMIT bytes token.1
  architecture ← text_at IDENTITY_PART_LIMIT bytes language.1
  Ok (
    record {
      name = name.0;
      token = token.0;
      language = language.0;
      architecture = architecture.0;
    },
    architecture.1,
  )

unfoldable pub version_at : List ℕ → ℕ → Result (Version × ℕ) CodecFault
version_at bytes place = do
  a ← number_at w16 bytes place
  b ← number_at w16 bytes a.1
  c ← number_at w16 bytes b.1
  d ← number_at w16 bytes c.1
  Ok (record { a = a.0; b = b.0; c = c.0; d = d.0 }, d.1)
