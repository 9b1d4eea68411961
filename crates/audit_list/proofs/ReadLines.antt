-- What is written for a line is read again, and nothing else is.
use Rattle.std.proofs.Common.{◌≡◌, ℕ, ◌<◌, ◌^◌, true, cond, List, [], ◌∷◌, codes, decimal, Option, Some, None, refl, sym, ap, ◌∙◌, inl, inr, arith}
use Rattle.std.specs.Str.{bytes_eq}
use Rattle.std.specs.List.{join_with_byte}
use Rattle.std.proofs.lemmas.Bool.{cases_Bool, cond-false, cond-true}
use Rattle.std.proofs.lemmas.List.Splits.{join_with_byte-slice_split}
use Rattle.small_types.specs.Cuts.{parts_between}
use Rattle.digest_list.specs.declared.difference.Difference.{Difference}
use Rattle.audit_list.specs.declared.verdict.Verdict.{Verdict}
use Rattle.audit_list.specs.declared.verdict.Verdict.TheVariants.{Good, Bad}
use Rattle.audit_list.specs.declared.line.AuditLine.{AuditLine}
use Rattle.audit_list.specs.Text.{IsAuditLine, IsVerdict, head_text, line_text, verdict_words}
use Rattle.audit_list.specs.Words.{bad_of, bad_words, cause_of, good_of, good_words, head_of, index_of, line_of, number_of}
use Rattle.audit_list.proofs.PlainTexts.{HasNo, IsPlain, no_feed, no_space, plain_number}
use Rattle.audit_list.proofs.JoinedParts.{NoneHas, none_joined, parts_joined}
use Rattle.audit_list.proofs.ReadWords.{came_true, is_text, index_of-decimal, index_of-is, number_of-decimal, number_of-is}
use Rattle.audit_list.proofs.ReadCauses.{cause_has_no_feed, cause_has_no_space, cause_read, cause_written}

abbrev words_of_line : AuditLine → List (List ℕ)
words_of_line line = verdict_words line.index line.size line.verdict

-- ---- words

words_read : (index size : ℕ) (verdict : Verdict) → index < 2 ^ 32 → size < 2 ^ 64 → IsVerdict verdict
    → line_of (verdict_words index size verdict) ≡ Some (record { index = index; size = size; verdict = verdict })
words_read index size Good i s v = rw (index_of-decimal index i, number_of-decimal size s) refl
words_read index size (Bad difference) i s v = rw (index_of-decimal index i, number_of-decimal size s, cause_read difference v) refl

-- the words are those of the line, which has a text
record IsRead (line : AuditLine) (words : List (List ℕ)) : Type 0 where
  written : words_of_line line ≡ words
  is : IsAuditLine line

good_is : (index size : List ℕ) (a b : Option ℕ) (line : AuditLine) → index_of index ≡ a → number_of size ≡ b → good_of a b ≡ Some line → IsRead line (codes "good" ∷ index ∷ size ∷ [])
good_is index size None b line i s is = absurd (let no = is in cc)
good_is index size (Some m) None line i s is = absurd (let no = is in cc)
good_is index size (Some m) (Some n) line i s is =
    let made : AuditLine = record { index = m; size = n; verdict = Good } in
    let it : made ≡ line = cc in
    let a = index_of-is index m i in
    let b = number_of-is size n s in
    rw (← it) (record { written = rw (a.0, b.0) refl; is = record { index = a.1; size = b.1; verdict = tt } })

good_words_are : (words : List (List ℕ)) (line : AuditLine) → good_words words ≡ Some line → IsRead line (codes "good" ∷ words)
good_words_are [] line is = absurd (let no = is in cc)
good_words_are (a ∷ []) line is = absurd (let no = is in cc)
good_words_are (index ∷ size ∷ []) line is = good_is index size (index_of index) (number_of size) line refl refl is
good_words_are (a ∷ b ∷ c ∷ more) line is = absurd (let no = is in cc)

bad_is : (index size cause : List ℕ) (a b : Option ℕ) (c : Option Difference) (line : AuditLine) → index_of index ≡ a → number_of size ≡ b → cause_of (parts_between 58 cause) ≡ c
    → bad_of a b c ≡ Some line → IsRead line (codes "bad" ∷ index ∷ size ∷ cause ∷ [])
bad_is index size cause None b c line i s d is = absurd (let no = is in cc)
bad_is index size cause (Some m) None c line i s d is = absurd (let no = is in cc)
bad_is index size cause (Some m) (Some n) None line i s d is = absurd (let no = is in cc)
bad_is index size cause (Some m) (Some n) (Some difference) line i s d is =
    let made : AuditLine = record { index = m; size = n; verdict = Bad difference } in
    let it : made ≡ line = cc in
    let a = index_of-is index m i in
    let b = number_of-is size n s in
    let c = cause_written cause difference d in
    rw (← it) (record { written = rw (a.0, b.0, c.0) refl; is = record { index = a.1; size = b.1; verdict = c.1 } })

bad_words_are : (words : List (List ℕ)) (line : AuditLine) → bad_words words ≡ Some line → IsRead line (codes "bad" ∷ words)
bad_words_are [] line is = absurd (let no = is in cc)
bad_words_are (a ∷ []) line is = absurd (let no = is in cc)
bad_words_are (a ∷ b ∷ []) line is = absurd (let no = is in cc)
bad_words_are (index ∷ size ∷ cause ∷ []) line is = bad_is index size cause (index_of index) (number_of size) (cause_of (parts_between 58 cause)) line refl refl refl is
bad_words_are (a ∷ b ∷ c ∷ d ∷ more) line is = absurd (let no = is in cc)

begins : (word verdict : List ℕ) (words : List (List ℕ)) (line : AuditLine) → bytes_eq verdict word ≡ true → IsRead line (word ∷ words) → IsRead line (verdict ∷ words)
begins word verdict words line same is = rw (is_text verdict word same) is

bad_are : (verdict : List ℕ) (words : List (List ℕ)) (line : AuditLine) → cond (bytes_eq verdict (codes "bad")) (bad_words words) None ≡ Some line → IsRead line (verdict ∷ words)
bad_are verdict words line is =
    let word = came_true (bytes_eq verdict (codes "bad")) (bad_words words) line is in
    begins (codes "bad") verdict words line word.0 (bad_words_are words line word.1)

words_are : (words : List (List ℕ)) (line : AuditLine) → line_of words ≡ Some line → IsRead line words
words_are [] line is = absurd (let no = is in cc)
words_are (verdict ∷ words) line is = elim (cases_Bool (bytes_eq verdict (codes "good"))) [
  | inl good ↦ begins (codes "good") verdict words line good (good_words_are words line (sym (cond-true _ _ _ good) ∙ is))
  | inr other ↦ bad_are verdict words line (sym (cond-false _ _ _ other) ∙ is)
]

-- ---- texts

words_plain : (index size : ℕ) (verdict : Verdict) → index < 2 ^ 32 → size < 2 ^ 64 → IsVerdict verdict
    → NoneHas 32 (verdict_words index size verdict) × NoneHas 10 (verdict_words index size verdict)
words_plain index size Good i s v =
    let word : IsPlain (codes "good") = record { each = refl } in
    let a = plain_number index (omega arith) in
    let b = plain_number size s in (
      (no_space word, (no_space a, (no_space b, tt))),
      (no_feed word, (no_feed a, (no_feed b, tt))),
    )
words_plain index size (Bad difference) i s v =
    let word : IsPlain (codes "bad") = record { each = refl } in
    let a = plain_number index (omega arith) in
    let b = plain_number size s in (
      (no_space word, (no_space a, (no_space b, (cause_has_no_space difference v, tt)))),
      (no_feed word, (no_feed a, (no_feed b, (cause_has_no_feed difference v, tt)))),
    )

cut_again : (index size : ℕ) (verdict : Verdict) → NoneHas 32 (verdict_words index size verdict)
    → parts_between 32 (join_with_byte 32 (verdict_words index size verdict)) ≡ verdict_words index size verdict
cut_again index size Good none = parts_joined 32 _ _ none
cut_again index size (Bad difference) none = parts_joined 32 _ _ none

-- the text of a line is read as it
pub line_read : (line : AuditLine) → IsAuditLine line → line_of (parts_between 32 (line_text line)) ≡ Some line
line_read line is =
    let plain = words_plain line.index line.size line.verdict is.index is.size is.verdict in
    ap line_of (cut_again line.index line.size line.verdict plain.0)
    ∙ words_read line.index line.size line.verdict is.index is.size is.verdict

-- a text that is read as one is its text
pub line_written : (text : List ℕ) (line : AuditLine) → line_of (parts_between 32 text) ≡ Some line → (line_text line ≡ text) × IsAuditLine line
line_written text line is =
    let known = words_are (parts_between 32 text) line is in
    (ap (join_with_byte 32) known.written ∙ join_with_byte-slice_split 32 text, known.is)

pub line_has_no_feed : (line : AuditLine) → IsAuditLine line → HasNo 10 (line_text line)
line_has_no_feed line is =
    none_joined 10 32 refl (words_of_line line) (words_plain line.index line.size line.verdict is.index is.size is.verdict).1

-- ---- the first line

head_words_plain : (count : ℕ) → count < 2 ^ 64 → NoneHas 32 (codes "audit" ∷ decimal count ∷ []) × NoneHas 10 (codes "audit" ∷ decimal count ∷ [])
head_words_plain count small =
    let word : IsPlain (codes "audit") = record { each = refl } in
    let number = plain_number count small in
    ((no_space word, (no_space number, tt)), (no_feed word, (no_feed number, tt)))

pub head_read : (count : ℕ) → count < 2 ^ 64 → head_of (parts_between 32 (head_text count)) ≡ Some count
head_read count small =
    ap head_of (parts_joined 32 (codes "audit") (decimal count ∷ []) (head_words_plain count small).0) ∙ number_of-decimal count small

head_words_are : (words : List (List ℕ)) (count : ℕ) → head_of words ≡ Some count → (codes "audit" ∷ decimal count ∷ [] ≡ words) × (count < 2 ^ 64)
head_words_are [] count is = absurd (let no = is in cc)
head_words_are (a ∷ []) count is = absurd (let no = is in cc)
head_words_are (word ∷ number ∷ []) count is =
    let first = came_true (bytes_eq word (codes "audit")) (number_of number) count is in
    let known = number_of-is number count first.1 in
    (rw (is_text word (codes "audit") first.0, known.0) refl, known.1)
head_words_are (a ∷ b ∷ c ∷ more) count is = absurd (let no = is in cc)

pub head_written : (text : List ℕ) (count : ℕ) → head_of (parts_between 32 text) ≡ Some count → (head_text count ≡ text) × (count < 2 ^ 64)
head_written text count is =
    let known = head_words_are (parts_between 32 text) count is in
    (ap (join_with_byte 32) known.0 ∙ join_with_byte-slice_split 32 text, known.1)

pub head_has_no_feed : (count : ℕ) → count < 2 ^ 64 → HasNo 10 (head_text count)
head_has_no_feed count small = none_joined 10 32 refl (codes "audit" ∷ decimal count ∷ []) (head_words_plain count small).1
