-- The text of an audit's list: which lines it has, and where bytes stop being one.
use Rattle.std.specs.Prelude.{◌≡◌, ◌+◌, ◌<◌, ◌^◌, ◌==◌, ℕ, List, [], ◌∷◌, ◌++◌, All, length, map, take, codes, decimal, if◌then◌else◌}
use Rattle.std.specs.List.{concat, join_with_byte, onto_first}
use Rattle.hex.specs.Hex.{IsBytes, encode_lower}
use Rattle.digest_list.specs.declared.algorithm.Algorithm.{Algorithm}
use Rattle.digest_list.specs.declared.difference.Difference.{Difference}
use Rattle.digest_list.specs.declared.difference.Difference.TheVariants.{Size, Digest}
use Rattle.digest_list.specs.Algorithm.{name_of, size_of}
use Rattle.audit_list.specs.declared.verdict.Verdict.{Verdict}
use Rattle.audit_list.specs.declared.verdict.Verdict.TheVariants.{Good, Bad}
use Rattle.audit_list.specs.declared.line.AuditLine.{AuditLine}
use Rattle.audit_list.specs.declared.list.AuditList.{AuditList}

-- ---- lines

-- how bytes differ, in parts that a colon separates
abbrev pub cause_parts : Difference → List (List ℕ)
cause_parts (Size listed found) = codes "size" ∷ decimal listed ∷ decimal found ∷ []
cause_parts (Digest algorithm listed found) =
    codes "differs" ∷ name_of algorithm ∷ encode_lower listed ∷ encode_lower found ∷ []

abbrev pub cause_text : Difference → List ℕ
cause_text difference = join_with_byte 58 (cause_parts difference)

-- the words of a line, which a space separates
abbrev pub verdict_words : ℕ → ℕ → Verdict → List (List ℕ)
verdict_words index size Good = codes "good" ∷ decimal index ∷ decimal size ∷ []
verdict_words index size (Bad difference) =
    codes "bad" ∷ decimal index ∷ decimal size ∷ cause_text difference ∷ []

abbrev pub line_text : AuditLine → List ℕ
line_text line = join_with_byte 32 (verdict_words line.index line.size line.verdict)

-- the first line: how many follow
abbrev pub head_text : ℕ → List ℕ
head_text count = join_with_byte 32 (codes "audit" ∷ decimal count ∷ [])

-- a line feed ends each line
abbrev pub ended : List ℕ → List ℕ
ended line = line ++ 10 ∷ []

-- the lines of a list
unfoldable pub audit_lines : AuditList → List (List ℕ)
audit_lines list =
    ended (head_text (length list.lines)) ∷ map (λ line. ended (line_text line)) list.lines

-- the text of a list
abbrev pub audit_text : AuditList → List ℕ
audit_text list = concat (audit_lines list)

-- ---- which lists have one

-- a digest has its algorithm's length
abbrev pub IsValue : Algorithm → List ℕ → Type 0
IsValue algorithm value = (length value ≡ size_of algorithm) × IsBytes value

abbrev pub IsDifference : Difference → Type 0
IsDifference (Size listed found) = (listed < 2 ^ 64) × (found < 2 ^ 64)
IsDifference (Digest algorithm listed found) = IsValue algorithm listed × IsValue algorithm found

abbrev pub IsVerdict : Verdict → Type 0
IsVerdict Good = Unit {0}
IsVerdict (Bad difference) = IsDifference difference

pub record IsAuditLine (line : AuditLine) : Type 0 where
  pub index : line.index < 2 ^ 32
  pub size : line.size < 2 ^ 64
  pub verdict : IsVerdict line.verdict

pub record IsAuditList (list : AuditList) : Type 0 where
  pub count : length list.lines < 2 ^ 64
  pub lines : All IsAuditLine list.lines

-- ---- other bytes

-- the lines of bytes, each with the line feed that ends it; the last one may have none
unfoldable pub lines_of : List ℕ → List (List ℕ)
lines_of [] = []
lines_of (byte ∷ bytes) =
    if byte == 10 then (10 ∷ []) ∷ lines_of bytes else onto_first byte (lines_of bytes)

-- the first lines of the bytes, so many, are those of the list
abbrev pub Share : ℕ → List ℕ → AuditList → Type 0
Share count bytes list = take count (lines_of bytes) ≡ take count (audit_lines list)

-- The lines before that one are the first ones of some list, and with it they are those of none.
pub record IsRefusedAt (bytes : List ℕ) (line : ℕ) : Type 0 where
  pub list : AuditList
  pub is_list : IsAuditList list
  pub before : Share line bytes list
  pub no_more : (other : AuditList) → IsAuditList other → Share (line + 1) bytes other → ⊥

-- there is one such line at most
abbrev pub OneRefusal : Type 0
OneRefusal =
    (bytes : List ℕ) (line other : ℕ) → IsRefusedAt bytes line → IsRefusedAt bytes other
    → line ≡ other
