-- Reading single fields from the left: truth values, addresses, identities, rules, names, options,
-- lists and digests. The fault of a part is the first of its fields that cannot be read.
use Rattle.std.specs.Prelude.{ℕ, zero, suc, ◌+◌, ◌-◌, Bool, true, false, List, [], ◌∷◌, length, get_or, take, drop, Option, Some, None, Result, Ok, Err, nat_lt, nat_le, ◌==◌, ◌&&◌, if◌then◌else◌}
use Rattle.std.specs.Int.{w16, w32, w64}
use Rattle.small_types.specs.declared.limits.TheConstants.{HASH_LIMIT, IDENTITY_PART_LIMIT, NAME_LIMIT, URL_LIMIT}
use Rattle.small_types.specs.declared.target.Target.{Target}
use Rattle.small_types.specs.Name.{is_name}
use Rattle.small_types.specs.Outcome.{◌>>=◌}
use Rattle.identity.specs.declared.identity.Identity.{Identity}
use Rattle.digest_list.specs.declared.algorithm.Algorithm.{Algorithm}
use Rattle.digest_list.specs.declared.algorithm.Algorithm.TheVariants.{Sha1, Sha256, Sha384, Sha512}
use Rattle.digest_list.specs.declared.digest.Digest.{Digest}
use Rattle.digest_list.specs.Algorithm.{size_of}
use Rattle.manifests.specs.declared.facts.Rule.{Rule}
use Rattle.manifests.specs.declared.facts.Rule.TheVariants.{Never, Before, Age}
use Rattle.record_fields.specs.declared.fault.CodecFault.{CodecFault}
use Rattle.record_fields.specs.declared.fault.CodecFault.TheVariants.{Bad}
use Rattle.record_fields.specs.declared.numbers.TheConstants.{AGE_RULE, BEFORE_RULE, FALSE_BYTE, NEVER_RULE, SHA1_NUMBER, SHA256_NUMBER, SHA384_NUMBER, SHA512_NUMBER, TRUE_BYTE}
use Rattle.record_fields.specs.Readers.{number_at, text_at, key_at, version_at}

-- a reading gives a value and the place behind it
abbrev pub Reader : Type 0 → Type 0
Reader X = List ℕ → ℕ → Result (X × ℕ) CodecFault

-- ---- forms

unfoldable pub byte_at : Reader ℕ
byte_at bytes place =
    if nat_lt place (length bytes) then Ok (get_or bytes place 0, place + 1) else Err (Bad place)

-- the byte of what is not so, or of what is
abbrev pub truth_of : ℕ → ℕ → ℕ → Result (Bool × ℕ) CodecFault
truth_of place byte next =
    if byte == FALSE_BYTE then Ok (false, next)
    else if byte == TRUE_BYTE then Ok (true, next)
    else Err (Bad place)

unfoldable pub truth_at : Reader Bool
truth_at bytes place = do
  byte ← byte_at bytes place
  truth_of place byte.0 byte.1

-- ---- addresses and identities

unfoldable pub target_at : Reader Target
target_at bytes place = do
  host ← text_at URL_LIMIT bytes place
  port ← number_at w16 bytes host.1
  path ← text_at URL_LIMIT bytes port.1
  Ok (record { host = host.0; port = port.0; path = path.0 }, path.1)

unfoldable pub identity_at : Reader Identity
identity_at bytes place = do
  key ← key_at bytes place
  version ← version_at bytes key.1
  kind ← text_at IDENTITY_PART_LIMIT bytes version.1
  Ok (record { key = key.0; version = version.0; kind = kind.0 }, kind.1)

-- ---- rules

unfoldable pub age_at : Reader Rule
age_at bytes place = do
  seconds ← number_at w64 bytes place
  Ok (Age seconds.0, seconds.1)

abbrev pub rule_of : ℕ → ℕ → List ℕ → ℕ → Result (Rule × ℕ) CodecFault
rule_of place byte bytes next =
    if byte == NEVER_RULE then Ok (Never, next)
    else if byte == BEFORE_RULE then Ok (Before, next)
    else if byte == AGE_RULE then age_at bytes next
    else Err (Bad place)

unfoldable pub rule_at : Reader Rule
rule_at bytes place = do
  byte ← byte_at bytes place
  rule_of place byte.0 bytes byte.1

-- ---- bytes and names

-- that many bytes, at most the limit: where they begin, and the place behind them
abbrev pub span_of : ℕ → List ℕ → ℕ → ℕ → ℕ → Result (ℕ × ℕ) CodecFault
span_of limit bytes place size start =
    if nat_le size limit && nat_le size (length bytes - start)
    then Ok (start, start + size)
    else Err (Bad place)

-- a length, and where the bytes begin
unfoldable pub span_at : ℕ → Reader ℕ
span_at limit bytes place = do
  size ← number_at w32 bytes place
  span_of limit bytes place size.0 size.1

abbrev pub part_of : List ℕ → ℕ → ℕ → List ℕ
part_of bytes start end = take (end - start) (drop start bytes)

-- a length, and the bytes
unfoldable pub bytes_at : ℕ → Reader (List ℕ)
bytes_at limit bytes place = do
  start ← span_at limit bytes place
  Ok (part_of bytes start.0 start.1, start.1)

abbrev pub name_of : ℕ → List ℕ → ℕ → Result (List ℕ × ℕ) CodecFault
name_of place text next = if is_name text then Ok (text, next) else Err (Bad place)

-- a text that is the name of a file as it stands
unfoldable pub name_at : Reader (List ℕ)
name_at bytes place = do
  text ← bytes_at NAME_LIMIT bytes place
  name_of place text.0 text.1

-- ---- optional values and lists

abbrev pub option_of : {X : Type 0} → Reader X → Bool → Reader (Option X)
option_of item false bytes place = Ok (None, place)
option_of item true bytes place = do
  x ← item bytes place
  Ok (Some x.0, x.1)

-- whether there is a value, and the value
unfoldable pub option_at : {X : Type 0} → Reader X → Reader (Option X)
option_at item bytes place = do
  there ← truth_at bytes place
  option_of item there.0 bytes there.1

-- so many items, each behind the one before it
unfoldable pub items_at : {X : Type 0} → Reader X → ℕ → Reader (List X)
items_at item zero bytes place = Ok ([], place)
items_at item (suc n) bytes place = do
  first ← item bytes place
  rest ← items_at item n bytes first.1
  Ok (first.0 ∷ rest.0, rest.1)

abbrev pub list_of : {X : Type 0} → ℕ → Reader X → ℕ → ℕ → Reader (List X)
list_of limit item place count bytes start =
    if nat_le count limit then items_at item count bytes start else Err (Bad place)

-- the number of the items, at most the limit, and the items
unfoldable pub list_at : {X : Type 0} → ℕ → Reader X → Reader (List X)
list_at limit item bytes place = do
  count ← number_at w32 bytes place
  list_of limit item place count.0 bytes count.1

-- ---- digests

abbrev pub algorithm_of : ℕ → ℕ → ℕ → Result (Algorithm × ℕ) CodecFault
algorithm_of place byte next =
    if byte == SHA1_NUMBER then Ok (Sha1, next)
    else if byte == SHA256_NUMBER then Ok (Sha256, next)
    else if byte == SHA384_NUMBER then Ok (Sha384, next)
    else if byte == SHA512_NUMBER then Ok (Sha512, next)
    else Err (Bad place)

unfoldable pub algorithm_at : Reader Algorithm
algorithm_at bytes place = do
  byte ← byte_at bytes place
  algorithm_of place byte.0 byte.1

abbrev pub value_of : ℕ → ℕ → List ℕ → ℕ → Result (List ℕ × ℕ) CodecFault
value_of size place value next = if length value == size then Ok (value, next) else Err (Bad place)

-- bytes of just that length
unfoldable pub value_at : ℕ → Reader (List ℕ)
value_at size bytes place = do
  value ← bytes_at size bytes place
  value_of size place value.0 value.1

unfoldable pub digest_at : Reader Digest
digest_at bytes place = do
  algorithm ← algorithm_at bytes place
  value ← value_at (size_of algorithm.0) bytes algorithm.1
  Ok (record { algorithm = algorithm.0; value = value.0 }, value.1)

abbrev pub digests_of : ℕ → List Digest → ℕ → Result (List Digest × ℕ) CodecFault
digests_of place list next = if nat_lt 0 (length list) then Ok (list, next) else Err (Bad place)

-- 1 to 8 digests
unfoldable pub digests_at : Reader (List Digest)
digests_at bytes place = do
  list ← list_at HASH_LIMIT digest_at bytes place
  digests_of place list.0 list.1
