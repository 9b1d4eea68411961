-- Which list bytes are the text of, and at which line they are none's.
use Rattle.std.proofs.Common.{◌≡◌, ℕ, ◌+◌, ◌-◌, ◌<◌, ◌≤◌, ◌^◌, ◌⊎◌, List, [], ◌∷◌, ◌++◌, All, length, map, take, drop, replicate, Some, None, Result, Ok, Err, refl, sym, ap, ◌∙◌, inl, inr, append_assoc, arith}
use Rattle.std.specs.List.{concat}
use Rattle.std.proofs.Math.Numerals.{add-one}
use Rattle.std.proofs.lemmas.List.{append-nil, append_cancel_right, drop-map, drop-take, drop_all, drop_at, length-append, length-drop, length-map, length-replicate, map-append, map_push, take-take, take_at}
use Rattle.std.proofs.lemmas.List.Elements.{All-append, All-drop, All-head, All-nil, All-push, All-replicate, All-tail}
use Rattle.small_types.specs.Cuts.{parts_between}
use Rattle.audit_list.specs.declared.verdict.Verdict.TheVariants.{Good}
use Rattle.audit_list.specs.declared.line.AuditLine.{AuditLine}
use Rattle.audit_list.specs.declared.list.AuditList.{AuditList}
use Rattle.audit_list.specs.declared.fault.AuditTextFault.{AuditTextFault}
use Rattle.audit_list.specs.declared.fault.AuditTextFault.TheVariants.{Text, Memory}
use Rattle.audit_list.specs.Reads.{IsTextOf, Reads}
use Rattle.audit_list.specs.Text.{IsAuditLine, IsAuditList, IsRefusedAt, Share, audit_lines, audit_text, ended, head_text, line_text, lines_of}
use Rattle.audit_list.specs.Words.{head_of, line_of}
use Rattle.audit_list.proofs.RawLines.{line_line, lines_joined, lines_of_cut, lines_of_text, none_ended}
use Rattle.audit_list.proofs.ReadLines.{head_read, head_written, line_read, line_written}

-- ---- what has been read

-- the first line says how many follow, and these do
abbrev pub front_lines : ℕ → List AuditLine → List (List ℕ)
front_lines count lines = ended (head_text count) ∷ map line_line lines

pub record IsFront (bytes : List ℕ) (count : ℕ) (lines : List AuditLine) (rest : List ℕ) : Type 0 where
  pub small : count < 2 ^ 64
  pub within : length lines ≤ count
  pub are : All IsAuditLine lines
  pub begun : lines_of bytes ≡ front_lines count lines ++ lines_of rest

pub front_begins : (bytes head rest : List ℕ) (count : ℕ) → parts_between 10 bytes ≡ head ∷ parts_between 10 rest → head_of (parts_between 32 head) ≡ Some count → IsFront bytes count [] rest
front_begins bytes head rest count cut read =
    let known = head_written head count read in
    record {
      small = known.1;
      within = omega arith;
      are = All-nil IsAuditLine;
      begun = lines_of_cut bytes head rest cut ∙ ap (λ (text : List ℕ). ended text ∷ lines_of rest) (sym known.0);
    }

one_more : (front : List (List ℕ)) (line : List ℕ) (rest : List (List ℕ)) → front ++ (line ∷ rest) ≡ (front ++ line ∷ []) ++ rest
one_more front line rest = sym (append_assoc front (line ∷ []) rest)

pub front_goes_on : {bytes rest : List ℕ} {count : ℕ} {lines : List AuditLine} → IsFront bytes count lines rest → length lines < count
    → (text more : List ℕ) (line : AuditLine) → parts_between 10 rest ≡ text ∷ parts_between 10 more → line_of (parts_between 32 text) ≡ Some line
    → IsFront bytes count (lines ++ line ∷ []) more
front_goes_on {bytes} {rest} {count} {lines} front below text more line cut read =
    let known = line_written text line read in
    let next : lines_of rest ≡ line_line line ∷ lines_of more = lines_of_cut rest text more cut ∙ ap (λ (t : List ℕ). ended t ∷ lines_of more) (sym known.0) in
    let longer : front_lines count (lines ++ line ∷ []) ≡ front_lines count lines ++ line_line line ∷ [] =
    ap (λ (ls : List (List ℕ)). ended (head_text count) ∷ ls) (map_push line_line lines line) in
    record {
      small = front.small;
      within = omega (arith, length-append lines (line ∷ []));
      are = All-push IsAuditLine lines line front.are known.1;
      begun = front.begun ∙ ap (λ (ls : List (List ℕ)). front_lines count lines ++ ls) next
          ∙ one_more (front_lines count lines) (line_line line) (lines_of more)
          ∙ ap (λ (ls : List (List ℕ)). ls ++ lines_of more) (sym longer);
    }

-- with its last line the bytes are the list's text
pub front_ends : {bytes : List ℕ} {count : ℕ} {lines : List AuditLine} (rest : List ℕ) → IsFront bytes count lines rest → count ≤ length lines → length rest ≡ 0
    → IsTextOf bytes (record { lines = lines })
unfolding audit_lines lines_of
front_ends {bytes} {count} {lines} [] front all none =
    let within = front.within in
    let small = front.small in
    let same : count ≡ length lines = omega arith in
    let begun : lines_of bytes ≡ front_lines count lines = front.begun ∙ append-nil (front_lines count lines) in
    record {
      is = record { count = omega arith; lines = front.are };
      text = ap (λ (n : ℕ). concat (front_lines n lines)) (sym same) ∙ ap concat (sym begun) ∙ lines_joined bytes;
    }
front_ends {bytes} {count} {lines} (b ∷ rest) front all none = absurd (omega arith)

-- ---- refusals

same_count : (m n : ℕ) → m < 2 ^ 64 → n < 2 ^ 64 → ended (head_text m) ≡ ended (head_text n) → m ≡ n
same_count m n small_m small_n same =
    let texts : head_text m ≡ head_text n = append_cancel_right (head_text m) (head_text n) (10 ∷ []) same in
    let both : Some m ≡ Some n = sym (head_read m small_m) ∙ ap (λ (t : List ℕ). head_of (parts_between 32 t)) texts ∙ head_read n small_n in
    cc

-- a list that begins so
filler : AuditLine
filler = record { index = 0; size = 0; verdict = Good }

filler_is : IsAuditLine filler
unfolding filler
filler_is = record { index = omega arith; size = omega arith; verdict = tt }

padded : ℕ → List AuditLine → AuditList
padded count lines = record { lines = lines ++ replicate (count - length lines) filler }

padded_length : (count : ℕ) (lines : List AuditLine) → length lines ≤ count → length (padded count lines).lines ≡ count
unfolding padded
padded_length count lines within =
    omega (arith, length-append lines (replicate (count - length lines) filler), length-replicate (count - length lines) filler)

padded_is : (count : ℕ) (lines : List AuditLine) → count < 2 ^ 64 → length lines ≤ count → All IsAuditLine lines → IsAuditList (padded count lines)
unfolding padded
padded_is count lines small within are =
    let long : length (lines ++ replicate (count - length lines) filler) ≡ count = padded_length count lines within in
    record {
      count = omega arith;
      lines = All-append IsAuditLine lines (replicate (count - length lines) filler) are (All-replicate IsAuditLine (count - length lines) filler filler_is);
    }

padded_lines : (count : ℕ) (lines : List AuditLine) → length lines ≤ count
    → audit_lines (padded count lines) ≡ front_lines count lines ++ map line_line (replicate (count - length lines) filler)
unfolding audit_lines padded
padded_lines count lines within =
    let pad = replicate (count - length lines) filler in
    let long : length (lines ++ pad) ≡ count = padded_length count lines within in
    ap (λ (n : ℕ). ended (head_text n) ∷ map line_line (lines ++ pad)) long
    ∙ ap (λ (ls : List (List ℕ)). ended (head_text count) ∷ ls) (map-append line_line lines pad)

front_length : (count : ℕ) (lines : List AuditLine) → length (front_lines count lines) ≡ length lines + 1
front_length count lines = omega (arith, length-map lines line_line)

shares : {bytes rest : List ℕ} {count : ℕ} {lines : List AuditLine} → IsFront bytes count lines rest → Share (length lines + 1) bytes (padded count lines)
shares {bytes} {rest} {count} {lines} front =
    let long = front_length count lines in
    let pad = map line_line (replicate (count - length lines) filler) in
    ap (take (length lines + 1)) front.begun ∙ take_at (front_lines count lines) (lines_of rest) (length lines + 1) long
    ∙ sym (take_at (front_lines count lines) pad (length lines + 1) long) ∙ ap (take (length lines + 1)) (sym (padded_lines count lines front.within))

-- another list with one line more in common has as many lines, and goes on as the bytes do
record GoesOn (rest : List ℕ) (count : ℕ) (lines : List AuditLine) (other : AuditList) : Type 0 where
  as_many : count ≡ length other.lines
  next : take 1 (lines_of rest) ≡ take 1 (map line_line (drop (length lines) other.lines))

first_line : (n : ℕ) (xs ys : List (List ℕ)) → take (n + 1) xs ≡ take (n + 1) ys → take 1 xs ≡ take 1 ys
first_line n xs ys same =
    let le : 1 ≤ n + 1 = omega arith in
    sym (take-take 1 (n + 1) xs le) ∙ ap (take 1) same ∙ take-take 1 (n + 1) ys le

line_behind : (n : ℕ) (xs ys : List (List ℕ)) → take (n + 1) xs ≡ take (n + 1) ys → take 1 (drop n xs) ≡ take 1 (drop n ys)
line_behind n xs ys same = sym (drop-take n 1 xs) ∙ ap (drop n) same ∙ drop-take n 1 ys

behind_first : (n : ℕ) (x : List ℕ) (xs : List (List ℕ)) → drop (n + 1) (x ∷ xs) ≡ drop n xs
behind_first n x xs = rw add-one refl

goes_on : {bytes rest : List ℕ} {count : ℕ} {lines : List AuditLine} → IsFront bytes count lines rest → (other : AuditList) → IsAuditList other
    → Share (length lines + 1 + 1) bytes other → GoesOn rest count lines other
unfolding audit_lines
goes_on {bytes} {rest} {count} {lines} front other is share =
    let front_part = front_lines count lines in
    let whole = front_part ++ lines_of rest in
    let same : take (length lines + 1 + 1) whole ≡ take (length lines + 1 + 1) (audit_lines other) = ap (take (length lines + 1 + 1)) (sym front.begun) ∙ share in
    let heads : ended (head_text count) ∷ [] ≡ ended (head_text (length other.lines)) ∷ [] = first_line (length lines + 1) whole (audit_lines other) same in
    let head : ended (head_text count) ≡ ended (head_text (length other.lines)) = cc in
    record {
      as_many = same_count count (length other.lines) front.small is.count head;
      next = ap (take 1) (sym (drop_at front_part (lines_of rest) (length lines + 1) (front_length count lines)))
          ∙ line_behind (length lines + 1) whole (audit_lines other) same
          ∙ ap (take 1) (behind_first (length lines) (ended (head_text (length other.lines))) (map line_line other.lines) ∙ drop-map line_line (length lines) other.lines);
    }

-- the bytes do not go on by a line of a list
pub record HasNoLine (bytes : List ℕ) : Type 0 where
  pub none : (line : AuditLine) → IsAuditLine line → (more : List (List ℕ)) → lines_of bytes ≡ line_line line ∷ more → ⊥

not_by : (lines : List (List ℕ)) (left : List AuditLine) → 0 < length left → All IsAuditLine left → ((line : AuditLine) → IsAuditLine line → (more : List (List ℕ)) → lines ≡ line_line line ∷ more → ⊥)
    → take 1 lines ≡ take 1 (map line_line left) → ⊥
not_by lines [] some are none same = absurd (omega arith)
not_by [] (line ∷ left) some are none same = absurd (let no = same in cc)
not_by (x ∷ lines) (line ∷ left) some are none same =
    let it : x ≡ line_line line = cc in
    none line (All-head IsAuditLine line left are) lines (ap (λ (t : List ℕ). t ∷ lines) it)

-- a line that is missing, or none of a list
pub refused_line : {bytes rest : List ℕ} {count : ℕ} {lines : List AuditLine} → IsFront bytes count lines rest → length lines < count → HasNoLine rest
    → IsRefusedAt bytes (length lines + 1)
refused_line {bytes} {rest} {count} {lines} front below none = record {
  list = padded count lines;
  is_list = padded_is count lines front.small front.within front.are;
  before = shares front;
  no_more = λ other is share.
      let on = goes_on front other is share in
      let as_many = on.as_many in
      let some : 0 < length (drop (length lines) other.lines) = omega (arith, length-drop (length lines) other.lines) in
      not_by (lines_of rest) (drop (length lines) other.lines) some (All-drop IsAuditLine (length lines) other.lines is.lines) none.none on.next;
}

no_line : (lines : List (List ℕ)) → take 1 lines ≡ [] → lines ≡ []
no_line [] none = refl
no_line (line ∷ lines) none = absurd (let no = none in cc)

some_line : (bytes : List ℕ) → 0 < length bytes → take 1 (lines_of bytes) ≡ [] → ⊥
some_line bytes some none =
    let empty : [] ≡ bytes = ap concat (sym (no_line (lines_of bytes) none)) ∙ lines_joined bytes in
    let long : 0 ≡ length bytes = ap length empty in
    omega arith

-- a line too many
pub refused_rest : {bytes rest : List ℕ} {count : ℕ} {lines : List AuditLine} → IsFront bytes count lines rest → count ≤ length lines → 0 < length rest
    → IsRefusedAt bytes (length lines + 1)
refused_rest {bytes} {rest} {count} {lines} front all some = record {
  list = padded count lines;
  is_list = padded_is count lines front.small front.within front.are;
  before = shares front;
  no_more = λ other is share.
      let on = goes_on front other is share in
      let as_many = on.as_many in
      let none : drop (length lines) other.lines ≡ [] = drop_all (length lines) other.lines (omega arith) in
      some_line rest some (on.next ∙ ap (λ (left : List AuditLine). take 1 (map line_line left)) none);
}

begins_by : (lines : List (List ℕ)) (head : List ℕ) (more : List (List ℕ)) → take 1 lines ≡ take 1 (head ∷ more) → (rest : List (List ℕ)) × (lines ≡ head ∷ rest)
begins_by [] head more same = absurd (let no = same in cc)
begins_by (x ∷ lines) head more same = (lines, (let it : x ≡ head = cc in ap (λ (t : List ℕ). t ∷ lines) it))

-- no first line of a list
refused_head : (bytes : List ℕ) → ((count : ℕ) → count < 2 ^ 64 → (more : List (List ℕ)) → lines_of bytes ≡ ended (head_text count) ∷ more → ⊥) → IsRefusedAt bytes 0
unfolding audit_lines
refused_head bytes none = record {
  list = record { lines = [] };
  is_list = record { count = omega arith; lines = All-nil IsAuditLine };
  before = refl;
  no_more = λ other is share.
      let first = begins_by (lines_of bytes) (ended (head_text (length other.lines))) (map line_line other.lines) share in
      none (length other.lines) is.count first.0 first.1;
}

-- ---- what a cut and a reading tell

same_line : (bytes line rest text : List ℕ) (more : List (List ℕ)) → parts_between 10 bytes ≡ line ∷ parts_between 10 rest → lines_of bytes ≡ ended text ∷ more → line ≡ text
same_line bytes line rest text more cut begins =
    let both : ended line ∷ lines_of rest ≡ ended text ∷ more = sym (lines_of_cut bytes line rest cut) ∙ begins in
    let ends : ended line ≡ ended text = cc in
    append_cancel_right line text (10 ∷ []) ends

pub no_line_ended : (bytes : List ℕ) → parts_between 10 bytes ≡ bytes ∷ [] → HasNoLine bytes
no_line_ended bytes whole = record { none = λ line is more begins. none_ended bytes (line_text line) more whole begins }

pub no_line_read : (bytes text rest : List ℕ) → parts_between 10 bytes ≡ text ∷ parts_between 10 rest → line_of (parts_between 32 text) ≡ None → HasNoLine bytes
no_line_read bytes text rest cut none = record {
  none = λ line is more begins.
      let same = same_line bytes text rest (line_text line) more cut begins in
      let read : None ≡ Some line = sym none ∙ ap (λ (t : List ℕ). line_of (parts_between 32 t)) same ∙ line_read line is in
      (let no = read in cc);
}

pub no_head_ended : (bytes : List ℕ) → parts_between 10 bytes ≡ bytes ∷ [] → IsRefusedAt bytes 0
no_head_ended bytes whole = refused_head bytes (λ count small more begins. none_ended bytes (head_text count) more whole begins)

other_head : (text : List ℕ) (count : ℕ) → head_of (parts_between 32 text) ≡ None → count < 2 ^ 64 → text ≡ head_text count → ⊥
other_head text count none small same =
    let read : None ≡ Some count = sym none ∙ ap (λ (t : List ℕ). head_of (parts_between 32 t)) same ∙ head_read count small in
    cc

pub no_head_read : (bytes text rest : List ℕ) → parts_between 10 bytes ≡ text ∷ parts_between 10 rest → head_of (parts_between 32 text) ≡ None → IsRefusedAt bytes 0
no_head_read bytes text rest cut none =
    refused_head bytes (λ count small more begins. other_head text count none small (same_line bytes text rest (head_text count) more cut begins))

-- ---- lists of one text

same_lines : (xs ys : List AuditLine) → All IsAuditLine xs → All IsAuditLine ys → map line_line xs ≡ map line_line ys → xs ≡ ys
same_lines [] [] are_x are_y same = refl
same_lines [] (y ∷ ys) are_x are_y same = absurd (let no = same in cc)
same_lines (x ∷ xs) [] are_x are_y same = absurd (let no = same in cc)
same_lines (x ∷ xs) (y ∷ ys) are_x are_y same =
    let lines : line_line x ≡ line_line y = cc in
    let rest : map line_line xs ≡ map line_line ys = cc in
    let texts : line_text x ≡ line_text y = append_cancel_right (line_text x) (line_text y) (10 ∷ []) lines in
    let read : Some x ≡ Some y =
    sym (line_read x (All-head IsAuditLine x xs are_x)) ∙ ap (λ (t : List ℕ). line_of (parts_between 32 t)) texts ∙ line_read y (All-head IsAuditLine y ys are_y) in
    let first : x ≡ y = cc in
    let others = same_lines xs ys (All-tail IsAuditLine x xs are_x) (All-tail IsAuditLine y ys are_y) rest in
    cc

same_list : (a b : AuditList) → IsAuditList a → IsAuditList b → audit_text a ≡ audit_text b → a ≡ b
unfolding audit_lines
same_list a b is_a is_b same =
    let lines : audit_lines a ≡ audit_lines b = sym (lines_of_text a is_a) ∙ ap lines_of same ∙ lines_of_text b is_b in
    let rest : map line_line a.lines ≡ map line_line b.lines = cc in
    ap (λ (ls : List AuditLine). record { lines = ls }) (same_lines a.lines b.lines is_a.lines is_b.lines rest)

-- the text of a list is read as it, unless memory ran out
pub reads_again : (bytes : List ℕ) (result : Result AuditList AuditTextFault) → Reads bytes result → (list : AuditList) → IsAuditList list → audit_text list ≡ bytes
    → (result ≡ Ok list) ⊎ (result ≡ Err Memory)
reads_again bytes (Ok found) reads list is text = inl (ap (λ (l : AuditList). Ok l) (same_list found list reads.is is (reads.text ∙ sym text)))
reads_again bytes (Err (Text line)) reads list is text =
    let lines : lines_of bytes ≡ audit_lines list = ap lines_of (sym text) ∙ lines_of_text list is in
    absurd (reads.no_more list is (ap (take (line + 1)) lines))
reads_again bytes (Err Memory) reads list is text = inr refl
