-- Application keys: four texts, written word-escaped with commas between them.
use Rattle.std.specs.Prelude.{ℕ, ◌<◌, ◌≤◌, Bool, true, false, List, [], ◌∷◌, length, Result, Ok, Err, ◌==◌, ◌&&◌, ◌||◌, nat_lt, nat_le, if◌then◌else◌}
use Rattle.std.specs.Char.{is_ascii_alphanumeric}
use Rattle.std.specs.List.{join_with_byte, flat_map}
use Rattle.std.specs.Str.{IsUtf8, is_utf8}
use Rattle.percent_encoding.specs.Percent.{percent_encode_byte, percent_decode}
use Rattle.small_types.specs.declared.limits.TheConstants.{IDENTITY_PART_LIMIT, NAME_LIMIT}
use Rattle.small_types.specs.Short.{IsShort}
use Rattle.identity.specs.declared.key.Key.{Key}
use Rattle.identity.specs.declared.key.KeyFault.{KeyFault}
use Rattle.identity.specs.declared.key.KeyFault.TheVariants.{PartCount, BadPart, Memory}
use Rattle.small_types.specs.Cuts.{parts_between}
use Rattle.small_types.specs.Outcome.{◌>>=◌, FailsBut, GivesBut}

-- `,`
abbrev pub comma : ℕ
comma = 44

-- letters, digits, `-`, `.`, `_` and `~`
abbrev pub is_unreserved : ℕ → Bool
is_unreserved b = is_ascii_alphanumeric b || b == 45 || b == 46 || b == 95 || b == 126

-- each byte that is kept stands for itself; any other is `%` and two upper-case hexadecimal digits
abbrev pub escaped : (ℕ → Bool) → List ℕ → List ℕ
escaped is_kept bytes = flat_map (λ b. if is_kept b then b ∷ [] else percent_encode_byte b) bytes

-- a word keeps `/` too
unfoldable pub word_text : List ℕ → List ℕ
word_text bytes = escaped (λ b. is_unreserved b || b == 47) bytes

-- a part of a key does not
unfoldable pub part_text : List ℕ → List ℕ
part_text bytes = escaped is_unreserved bytes

-- the text of a key: its parts with commas between them
unfoldable pub key_text : Key → List ℕ
key_text key = join_with_byte comma (part_text key.name ∷ part_text key.token
    ∷ part_text key.language ∷ part_text key.architecture ∷ [])

-- a part has a byte or more, at most so many, and is UTF-8
pub record IsPart (limit : ℕ) (text : List ℕ) : Type 0 where
  pub nonempty : 0 < length text
  pub within : length text ≤ limit
  pub utf8 : IsUtf8 text

pub record IsKey (key : Key) : Type 0 where
  pub name : IsPart NAME_LIMIT key.name
  pub token : IsPart IDENTITY_PART_LIMIT key.token
  pub language : IsPart IDENTITY_PART_LIMIT key.language
  pub architecture : IsPart IDENTITY_PART_LIMIT key.architecture

-- Each part of a key is within its limit. A part may be empty: a journal can hold such a key,
-- though no command reads one.
pub record IsShortKey (key : Key) : Type 0 where
  pub name : IsShort NAME_LIMIT key.name
  pub token : IsShort IDENTITY_PART_LIMIT key.token
  pub language : IsShort IDENTITY_PART_LIMIT key.language
  pub architecture : IsShort IDENTITY_PART_LIMIT key.architecture

-- a part as a test
abbrev pub is_part : ℕ → List ℕ → Bool
is_part limit text = nat_lt 0 (length text) && nat_le (length text) limit && is_utf8 text

-- the text that stands as that part, without its escapes
unfoldable pub part_of : ℕ → ℕ → List ℕ → Result (List ℕ) KeyFault
part_of part limit bytes =
    if is_part limit (percent_decode bytes) then Ok (percent_decode bytes) else Err (BadPart part)

-- there are four parts, which are read from the left
unfoldable pub key_of_parts : List (List ℕ) → Result Key KeyFault
key_of_parts (first ∷ second ∷ third ∷ fourth ∷ []) = do
  name ← part_of 1 NAME_LIMIT first
  token ← part_of 2 IDENTITY_PART_LIMIT second
  language ← part_of 3 IDENTITY_PART_LIMIT third
  architecture ← part_of 4 IDENTITY_PART_LIMIT fourth
  Ok (record { name = name; token = token; language = language; architecture = architecture })
key_of_parts _ = Err PartCount

-- what reading the bytes gives
unfoldable pub key_of : List ℕ → Result Key KeyFault
key_of bytes = key_of_parts (parts_between comma bytes)

-- want of memory is no fault of the word
abbrev pub is_memory : KeyFault → Bool
is_memory Memory = true
is_memory PartCount = false
is_memory (BadPart part) = false

-- an error of a call is that of the reading, unless memory ran out
abbrev pub Fails : {X : Type 0} → KeyFault → Result X KeyFault → Type 0
Fails e read = FailsBut is_memory e read

-- a call gives what the reading gives, unless memory ran out
abbrev pub Gives : {X : Type 0} → Result X KeyFault → Result X KeyFault → Type 0
Gives {X} result read = GivesBut is_memory (λ (x : X). x) result read
