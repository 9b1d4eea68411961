-- Bytes that are cut behind each line feed.
use Rattle.std.proofs.Common.{◌≡◌, ℕ, ◌<◌, Bool, true, false, ◌==◌, List, [], ◌∷◌, ◌++◌, All, length, map, get_or, refl, sym, ap, subst, ◌∙◌, inl, inr, append_assoc, arith}
use Rattle.std.specs.List.{concat, flat_map, join_with_byte, onto_first, slice_split}
use Rattle.std.proofs.lemmas.Bool.{cases_Bool, cond-false, cond-true, eqb-true}
use Rattle.std.proofs.lemmas.List.{get_or_at, length-append}
use Rattle.std.proofs.lemmas.List.Elements.{All-cons, All-head, All-nil, All-tail}
use Rattle.std.proofs.lemmas.List.Splits.{join_with_byte-slice_split, length-slice_split}
use Rattle.small_types.specs.Cuts.{parts_between}
use Rattle.audit_list.specs.declared.line.AuditLine.{AuditLine}
use Rattle.audit_list.specs.declared.list.AuditList.{AuditList}
use Rattle.audit_list.specs.Text.{IsAuditLine, IsAuditList, audit_lines, audit_text, ended, head_text, line_text, lines_of}
use Rattle.audit_list.proofs.PlainTexts.{HasNo}
use Rattle.audit_list.proofs.ReadLines.{head_has_no_feed, line_has_no_feed}

-- a line that has ended comes first
pub lines_of_ended : (line rest : List ℕ) → HasNo 10 line → lines_of (line ++ 10 ∷ rest) ≡ ended line ∷ lines_of rest
unfolding lines_of
lines_of_ended [] rest none = refl
lines_of_ended (x ∷ line) rest none =
    let P : ℕ → Type 0 = λ b. (b == 10) ≡ false in
    let other : (x == 10) ≡ false = All-head P x line none in
    cond-false _ _ _ other ∙ ap (onto_first x) (lines_of_ended line rest (All-tail P x line none))

-- the lines, one behind the other, are the bytes
onto_joined : (x : ℕ) (lines : List (List ℕ)) → concat (onto_first x lines) ≡ x ∷ concat lines
onto_joined x [] = refl
onto_joined x (line ∷ lines) = refl

pub lines_joined : (bytes : List ℕ) → concat (lines_of bytes) ≡ bytes
unfolding lines_of
lines_joined [] = refl
lines_joined (x ∷ bytes) = elim (cases_Bool (x == 10)) [
  | inl feed ↦
      let same : x ≡ 10 = eqb-true x 10 feed in
      ap concat (cond-true _ _ _ feed) ∙ ap (λ (more : List ℕ). 10 ∷ more) (lines_joined bytes) ∙ ap (λ (b : ℕ). b ∷ bytes) (sym same)
  | inr other ↦ ap concat (cond-false _ _ _ other) ∙ onto_joined x (lines_of bytes) ∙ ap (λ (more : List ℕ). x ∷ more) (lines_joined bytes)
]

-- ---- a list

-- a line with its line feed
abbrev pub line_line : AuditLine → List ℕ
line_line line = ended (line_text line)

lines_again : (lines : List AuditLine) → All IsAuditLine lines → lines_of (concat (map line_line lines)) ≡ map line_line lines
unfolding lines_of
lines_again [] are = refl
lines_again (line ∷ lines) are =
    let first = line_text line in
    let rest = concat (map line_line lines) in
    ap lines_of (append_assoc first (10 ∷ []) rest)
    ∙ lines_of_ended first rest (line_has_no_feed line (All-head IsAuditLine line lines are))
    ∙ ap (λ (more : List (List ℕ)). ended first ∷ more) (lines_again lines (All-tail IsAuditLine line lines are))

-- the lines of a list's text are those of the list
pub lines_of_text : (list : AuditList) → IsAuditList list → lines_of (audit_text list) ≡ audit_lines list
unfolding audit_lines
lines_of_text list is =
    let head = head_text (length list.lines) in
    let rest = concat (map line_line list.lines) in
    ap lines_of (append_assoc head (10 ∷ []) rest)
    ∙ lines_of_ended head rest (head_has_no_feed (length list.lines) is.count)
    ∙ ap (λ (more : List (List ℕ)). ended head ∷ more) (lines_again list.lines is.lines)

-- they are what is printed of it
lines_text : (lines : List AuditLine) → flat_map (λ line. ended (line_text line)) lines ≡ concat (map line_line lines)
lines_text [] = refl
lines_text (line ∷ lines) = ap (λ (more : List ℕ). ended (line_text line) ++ more) (lines_text lines)

pub printed_text : (list : AuditList) (lines : List AuditLine) (first out : List ℕ) → lines ≡ list.lines → first ≡ ended (head_text (length lines))
    → out ≡ first ++ flat_map (λ line. ended (line_text line)) lines → out ≡ audit_text list
unfolding audit_lines
printed_text list lines first out is head behind =
    behind ∙ ap (λ (text : List ℕ). text ++ flat_map (λ line. ended (line_text line)) lines) head
    ∙ ap (λ (text : List ℕ). ended (head_text (length lines)) ++ text) (lines_text lines)
    ∙ ap (λ (ls : List AuditLine). ended (head_text (length ls)) ++ concat (map line_line ls)) is

-- ---- a cut

first_of : (p : ℕ → Bool) (x : ℕ) (split : List (List ℕ)) (first : List ℕ) (more : List (List ℕ)) → p x ≡ false
    → ((part : List ℕ) (parts : List (List ℕ)) → split ≡ part ∷ parts → All (λ b. p b ≡ false) part)
    → onto_first x split ≡ first ∷ more → All (λ b. p b ≡ false) first
first_of p x [] first more other before same =
    let it : x ∷ [] ≡ first = cc in
    subst (All (λ b. p b ≡ false)) it (All-cons (λ b. p b ≡ false) x [] other (All-nil (λ b. p b ≡ false)))
first_of p x (part ∷ parts) first more other before same =
    let it : x ∷ part ≡ first = cc in
    subst (All (λ b. p b ≡ false)) it (All-cons (λ b. p b ≡ false) x part other (before part parts refl))

-- the first part has no separator
first_has_none : (p : ℕ → Bool) (bytes first : List ℕ) (more : List (List ℕ)) → slice_split p bytes ≡ first ∷ more → All (λ b. p b ≡ false) first
first_has_none p [] first more same =
    let it : [] ≡ first = cc in
    subst (All (λ b. p b ≡ false)) it (All-nil (λ b. p b ≡ false))
first_has_none p (x ∷ bytes) first more same = elim (cases_Bool (p x)) [
  | inl passes ↦
      let cut : [] ∷ slice_split p bytes ≡ first ∷ more = sym (cond-true _ _ _ passes) ∙ same in
      let it : [] ≡ first = cc in
      subst (All (λ b. p b ≡ false)) it (All-nil (λ b. p b ≡ false))
  | inr other ↦ first_of p x (slice_split p bytes) first more other (λ part parts is. first_has_none p bytes part parts is) (sym (cond-false _ _ _ other) ∙ same)
]

cut_joined : (line : List ℕ) (parts : List (List ℕ)) → 0 < length parts → join_with_byte 10 (line ∷ parts) ≡ line ++ 10 ∷ join_with_byte 10 parts
cut_joined line [] some = absurd (omega arith)
cut_joined line (part ∷ parts) some = refl

-- what stands before the first line feed, and behind it
pub lines_of_cut : (bytes line rest : List ℕ) → parts_between 10 bytes ≡ line ∷ parts_between 10 rest → lines_of bytes ≡ ended line ∷ lines_of rest
lines_of_cut bytes line rest cut =
    let some : 0 < length (parts_between 10 rest) = omega (arith, length-slice_split (λ b. b == 10) rest) in
    let joined : bytes ≡ line ++ 10 ∷ rest =
    sym (join_with_byte-slice_split 10 bytes) ∙ ap (join_with_byte 10) cut ∙ cut_joined line (parts_between 10 rest) some ∙ ap (λ (more : List ℕ). line ++ 10 ∷ more) (join_with_byte-slice_split 10 rest) in
    ap lines_of joined ∙ lines_of_ended line rest (first_has_none (λ b. b == 10) bytes line (parts_between 10 rest) cut)

-- bytes without a line feed have no line that has ended
pub none_ended : (bytes text : List ℕ) (more : List (List ℕ)) → parts_between 10 bytes ≡ bytes ∷ [] → lines_of bytes ≡ ended text ∷ more → ⊥
none_ended bytes text more whole begins =
    let none : HasNo 10 bytes = first_has_none (λ b. b == 10) bytes bytes [] whole in
    let joined : bytes ≡ text ++ 10 ∷ concat more = sym (lines_joined bytes) ∙ ap concat begins ∙ append_assoc text (10 ∷ []) (concat more) in
    let within : length text < length (text ++ 10 ∷ concat more) = omega (arith, length-append text (10 ∷ concat more)) in
    let there : HasNo 10 (text ++ 10 ∷ concat more) = subst (HasNo 10) joined none in
    let feed : get_or (text ++ 10 ∷ concat more) (length text) 0 ≡ 10 = get_or_at text 10 (concat more) 0 (length text) refl in
    let no : (10 == 10) ≡ false = rw feed at (there (length text) 0 within) in
    let bad : true ≡ false = no in
    cc
