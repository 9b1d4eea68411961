-- What the words of a line are read as.
use Rattle.std.specs.Prelude.{ℕ, ◌&&◌, nat_lt, List, [], ◌∷◌, length, codes, decimal, if◌then◌else◌, Option, Some, None, Result, Ok, Err}
use Rattle.std.specs.Char.{is_ascii_digit}
use Rattle.std.specs.List.{list_all}
use Rattle.std.specs.Str.{bytes_eq}
use Rattle.std.specs.Str.Parse.{digits_value}
use Rattle.hex.specs.declared.error.FromHexError.{FromHexError}
use Rattle.hex.specs.Hex.{decode_sized, encode_lower}
use Rattle.small_types.specs.Cuts.{parts_between}
use Rattle.small_types.specs.Decimal.{at_most}
use Rattle.digest_list.specs.declared.algorithm.Algorithm.{Algorithm}
use Rattle.digest_list.specs.declared.algorithm.Algorithm.TheVariants.{Sha1, Sha256, Sha384, Sha512}
use Rattle.digest_list.specs.declared.difference.Difference.{Difference}
use Rattle.digest_list.specs.declared.difference.Difference.TheVariants.{Size, Digest}
use Rattle.digest_list.specs.Algorithm.{name_of, size_of}
use Rattle.audit_list.specs.declared.verdict.Verdict.TheVariants.{Good, Bad}
use Rattle.audit_list.specs.declared.line.AuditLine.{AuditLine}

-- ---- numbers and digests

-- the number, where the word is what is written for it
abbrev pub written : ℕ → List ℕ → Option ℕ
written number word = if bytes_eq (decimal number) word then Some number else None

-- the number below 2^64 that digits write
abbrev pub fitting : ℕ → List ℕ → Option ℕ
fitting number word =
    if nat_lt 0xffff_ffff_ffff_ffff number then None else written number word

unfoldable pub number_of : List ℕ → Option ℕ
number_of word =
    if nat_lt 0 (length word) && list_all is_ascii_digit word
    then fitting (digits_value 10 word) word else None

-- the number below 2^32
abbrev pub index_of : List ℕ → Option ℕ
index_of word = at_most 0xffff_ffff (number_of word)

-- the bytes, where the word is what is written for them
abbrev pub spelled : List ℕ → Result (List ℕ) FromHexError → Option (List ℕ)
spelled word (Err fault) = None
spelled word (Ok bytes) = if bytes_eq (encode_lower bytes) word then Some bytes else None

-- so many bytes, in lower-case hexadecimal digits
unfoldable pub bytes_of : ℕ → List ℕ → Option (List ℕ)
bytes_of size word = spelled word (decode_sized word size)

abbrev pub algorithm_named : List ℕ → Option Algorithm
algorithm_named name =
    if bytes_eq name (name_of Sha1) then Some Sha1
    else if bytes_eq name (name_of Sha256) then Some Sha256
    else if bytes_eq name (name_of Sha384) then Some Sha384
    else if bytes_eq name (name_of Sha512) then Some Sha512
    else None

-- ---- causes

abbrev pub size_cause : Option ℕ → Option ℕ → Option Difference
size_cause None found = None
size_cause (Some listed) None = None
size_cause (Some listed) (Some found) = Some (Size listed found)

abbrev pub digest_cause : Algorithm → Option (List ℕ) → Option (List ℕ) → Option Difference
digest_cause algorithm None found = None
digest_cause algorithm (Some listed) None = None
digest_cause algorithm (Some listed) (Some found) = Some (Digest algorithm listed found)

-- two digests of an algorithm
abbrev pub values_cause : Option Algorithm → List ℕ → List ℕ → Option Difference
values_cause None listed found = None
values_cause (Some algorithm) listed found =
    digest_cause algorithm (bytes_of (size_of algorithm) listed)
    (bytes_of (size_of algorithm) found)

-- the parts behind `size`
abbrev pub size_parts : List (List ℕ) → Option Difference
size_parts (listed ∷ found ∷ []) = size_cause (number_of listed) (number_of found)
size_parts _ = None

-- the parts behind `differs`
abbrev pub digest_parts : List (List ℕ) → Option Difference
digest_parts (name ∷ listed ∷ found ∷ []) = values_cause (algorithm_named name) listed found
digest_parts _ = None

abbrev pub cause_of : List (List ℕ) → Option Difference
cause_of [] = None
cause_of (kind ∷ parts) =
    if bytes_eq kind (codes "size") then size_parts parts
    else if bytes_eq kind (codes "differs") then digest_parts parts
    else None

-- ---- lines

abbrev pub good_of : Option ℕ → Option ℕ → Option AuditLine
good_of None size = None
good_of (Some index) None = None
good_of (Some index) (Some size) =
    Some (record { index = index; size = size; verdict = Good })

abbrev pub bad_of : Option ℕ → Option ℕ → Option Difference → Option AuditLine
bad_of None size cause = None
bad_of (Some index) None cause = None
bad_of (Some index) (Some size) None = None
bad_of (Some index) (Some size) (Some difference) =
    Some (record { index = index; size = size; verdict = Bad difference })

-- the words behind `good`
abbrev pub good_words : List (List ℕ) → Option AuditLine
good_words (index ∷ size ∷ []) = good_of (index_of index) (number_of size)
good_words _ = None

-- the words behind `bad`
abbrev pub bad_words : List (List ℕ) → Option AuditLine
bad_words (index ∷ size ∷ cause ∷ []) =
    bad_of (index_of index) (number_of size) (cause_of (parts_between 58 cause))
bad_words _ = None

-- what a line of these words is
abbrev pub line_of : List (List ℕ) → Option AuditLine
line_of [] = None
line_of (verdict ∷ words) =
    if bytes_eq verdict (codes "good") then good_words words
    else if bytes_eq verdict (codes "bad") then bad_words words
    else None

-- what the first line of these words says: how many lines follow
abbrev pub head_of : List (List ℕ) → Option ℕ
head_of (word ∷ count ∷ []) = if bytes_eq word (codes "audit") then number_of count else None
head_of _ = None
