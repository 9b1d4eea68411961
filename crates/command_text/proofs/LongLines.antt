-- What is kept of a line tells what the line asks for.
use Rattle.std.proofs.Common.{◌≡◌, ◌≢◌, ◌==◌, ◌+◌, ◌-◌, ◌<◌, ◌≤◌, ℕ, List, [], ◌∷◌, ◌++◌, length, map, min, take, nat_le, Result, Err, refl, sym, ap, subst, zero, suc, ◌∙◌, inl, inr, arith, if◌then◌else◌, append_assoc}
use Rattle.std.specs.List.{All, join_with_byte, onto_first}
use Rattle.std.specs.Prelude.{slice_index}
use Rattle.std.specs.Str.Lines.{strip_carriage_return}
use Rattle.std.proofs.lemmas.Bool.{cases_Bool, cond-false, cond-true, eqb-false, false_from_ne_true, leb-true, leb-false, ne_eqb}
use Rattle.std.proofs.lemmas.List.{length-take-le, map-append, take_all, take-append-le, take_min}
use Rattle.std.proofs.lemmas.List.Elements.{All-append, All-cons, All-head, All-nil, All-tail}
use Rattle.std.proofs.lemmas.List.Splits.{join_with_byte-slice_split, slice_split-cons_no, slice_split-cons_yes}
use Rattle.small_types.specs.declared.limits.TheConstants.{LINE_LIMIT}
use Rattle.small_types.specs.Cuts.{parts_between}
use Rattle.small_types.proofs.CutLemmas.{some_part}
use Rattle.machine.specs.declared.command.Command.{Command}
use Rattle.machine.specs.declared.command.LineFault.{LineFault}
use Rattle.machine.specs.declared.command.LineFault.TheVariants.{LineTooLong}
use Rattle.machine.specs.declared.event.Event.{Event}
use Rattle.machine.specs.declared.event.Event.TheVariants.{Boot, Line, Unread}
use Rattle.command_text.specs.Input.{Cut, HasNoFeed, IsRead, KeptBytesTell, ended_of, fed, kept_of, last_of}
use Rattle.command_text.specs.Lines.{Fails, IsEvent, command_of}
use Rattle.command_text.proofs.InputLemmas.{cut_feed, cut_none, lines_cut}

-- ---- a first part

take_behind : (n : ℕ) (a b : List ℕ) → length a ≤ n → take n (a ++ b) ≡ a ++ take (n - length a) b
take_behind n [] b within =
    let all : n ≡ n - 0 = omega arith in
    ap (λ (k : ℕ). take k b) all
take_behind zero (x ∷ a) b within = absurd (omega arith)
take_behind (suc n) (x ∷ a) b within =
    let less : n - length a ≡ suc n - length (x ∷ a) = omega arith in
    ap (λ (l : List ℕ). x ∷ l) (take_behind n a b (omega arith) ∙ ap (λ (k : ℕ). a ++ take k b) less)

-- what is added to the first part is added to the whole
take_more_of : (n : ℕ) (a b : List ℕ) → take n (take n a ++ b) ≡ take n (a ++ b)
take_more_of n a b = elim (cases_Bool (nat_le (length a) n)) [
  | inl within ↦ ap (λ (l : List ℕ). take n (l ++ b)) (take_all n a (leb-true _ _ within))
  | inr beyond ↦
      let over = leb-false _ _ beyond in
      let full : length (take n a) ≡ n = length-take-le n a (omega arith) in
      take-append-le n (take n a) b (omega arith) ∙ take_all n (take n a) (omega arith) ∙ sym (take-append-le n a b (omega arith))
]

-- ---- what is kept

-- the rest with more bytes is kept as what is kept of it with these
pub kept_more : (rest part : List ℕ) → kept_of (kept_of rest ++ part) ≡ kept_of (rest ++ part)
kept_more rest part = take_more_of (LINE_LIMIT + 2) rest part

-- it is no longer than the limit
pub kept_within : (rest : List ℕ) → length (kept_of rest) ≤ LINE_LIMIT + 2
kept_within rest = elim (cases_Bool (nat_le (length rest) (LINE_LIMIT + 2))) [
  | inl within ↦ (let few = leb-true _ _ within in let whole = ap length (take_all (LINE_LIMIT + 2) rest few) in omega arith)
  | inr beyond ↦ (let over = leb-false _ _ beyond in let full = length-take-le (LINE_LIMIT + 2) rest (omega arith) in omega arith)
]

-- so many bytes more
pub kept_first : (pending part : List ℕ) (room n : ℕ) → length pending ≤ LINE_LIMIT + 2 → room ≡ LINE_LIMIT + 2 - length pending → n ≡ min (length part) room → pending ++ take n part ≡ kept_of (pending ++ part)
kept_first pending part room n within is least =
    let turned : n ≡ min room (length part) = omega (arith, least) in
    let same : take n part ≡ take room part = ap (λ (k : ℕ). take k part) turned ∙ take_min room part in
    ap (λ (l : List ℕ). pending ++ l) (same ∙ ap (λ (k : ℕ). take k part) is) ∙ sym (take_behind (LINE_LIMIT + 2) pending part within)

too_long : (line : List ℕ) → LINE_LIMIT < length line → command_of line ≡ Err LineTooLong
unfolding command_of
too_long line long =
    cond-false (nat_le (length line) LINE_LIMIT) _ _ (false_from_ne_true (nat_le (length line) LINE_LIMIT) (λ is. (let few = leb-true _ _ is in omega arith)))

-- a line loses one byte at most
strip_long : (line : List ℕ) → length line ≤ length (strip_carriage_return line) + 1
strip_long line = elim (cases_Bool (slice_index line (length line - 1) == 13)) [
  | inl is ↦
      let same = ap length (cond-true (slice_index line (length line - 1) == 13) (take (length line - 1) line) line is) in
      let less = length-take-le (length line - 1) line (omega arith) in
      omega (arith, same, less)
  | inr not ↦
      let same = ap length (cond-false (slice_index line (length line - 1) == 13) (take (length line - 1) line) line not) in
      omega (arith, same)
]

-- a line that has ended, without the carriage return at its end
pub same_ended : (line : List ℕ) → command_of (strip_carriage_return (kept_of line)) ≡ command_of (strip_carriage_return line)
same_ended line = elim (cases_Bool (nat_le (length line) (LINE_LIMIT + 2))) [
  | inl within ↦ ap (λ (l : List ℕ). command_of (strip_carriage_return l)) (take_all (LINE_LIMIT + 2) line (leb-true _ _ within))
  | inr beyond ↦
      let over = leb-false _ _ beyond in
      let full = length-take-le (LINE_LIMIT + 2) line (omega arith) in
      let first = strip_long (kept_of line) in
      let second = strip_long line in
      too_long (strip_carriage_return (kept_of line)) (omega arith) ∙ sym (too_long (strip_carriage_return line) (omega arith))
]

-- a last line without a line feed
pub same_last : (line : List ℕ) → command_of (kept_of line) ≡ command_of line
same_last line = elim (cases_Bool (nat_le (length line) (LINE_LIMIT + 2))) [
  | inl within ↦ ap command_of (take_all (LINE_LIMIT + 2) line (leb-true _ _ within))
  | inr beyond ↦
      let over = leb-false _ _ beyond in
      let full = length-take-le (LINE_LIMIT + 2) line (omega arith) in
      too_long (kept_of line) (omega arith) ∙ sym (too_long line (omega arith))
]

-- ---- events

-- lines that are read alike have the same events
pub event_as : (a b : List ℕ) (event : Event) → command_of a ≡ command_of b → IsEvent a event → IsEvent b event
event_as a b (Boot boot) same is = is
event_as a b (Line command now heard) same is = sym same ∙ is
event_as a b (Unread fault) same is = subst (λ (read : Result Command LineFault). Fails fault read) same is

-- the event of what was kept of a line is that of the line
pub ended_event : (line kept : List ℕ) (event : Event) → kept ≡ kept_of line → IsEvent (strip_carriage_return kept) event → IsEvent (strip_carriage_return line) event
ended_event line kept event is known =
    event_as (strip_carriage_return kept) (strip_carriage_return line) event (ap (λ (l : List ℕ). command_of (strip_carriage_return l)) is ∙ same_ended line) known

pub last_event : (line kept : List ℕ) (event : Event) → kept ≡ kept_of line → IsEvent kept event → IsEvent line event
last_event line kept event is known = event_as kept line event (ap command_of is ∙ same_last line) known

-- ---- reading on

pub read_none : IsRead [] [] []
read_none = record { rest = []; cut = cut_none; is = refl }

-- more bytes without a line feed
cut_part : {bytes : List ℕ} {raw : List (List ℕ)} {rest : List ℕ} (part : List ℕ) → Cut bytes raw rest → HasNoFeed part → Cut (bytes ++ part) raw (rest ++ part)
cut_part {bytes} {raw} {rest} part cut none = record {
  joined = ap (λ (front : List ℕ). front ++ part) cut.joined ∙ append_assoc (fed raw) rest part;
  whole = cut.whole;
  begun = All-append (λ b. b ≢ 10) rest part cut.begun none;
}

pub read_part : (bytes : List ℕ) (raw : List (List ℕ)) (kept part : List ℕ) → IsRead bytes raw kept → HasNoFeed part → IsRead (bytes ++ part) raw (kept_of (kept ++ part))
read_part bytes raw kept part read none = record {
  rest = read.rest ++ part;
  cut = cut_part part read.cut none;
  is = ap (λ (l : List ℕ). kept_of (l ++ part)) read.is ∙ kept_more read.rest part;
}

-- a line feed ends the line of which so much was kept
pub read_feed : (bytes : List ℕ) (raw : List (List ℕ)) (kept : List ℕ) → IsRead bytes raw kept → (line : List ℕ) × (kept ≡ kept_of line) × IsRead (bytes ++ 10 ∷ []) (raw ++ line ∷ []) []
read_feed bytes raw kept read = (read.rest, read.is, record { rest = []; cut = cut_feed read.cut; is = refl })

-- ---- what lines are read as

ended_as : (raw : List (List ℕ)) → map command_of (map strip_carriage_return raw) ≡ ended_of raw
ended_as [] = refl
ended_as (line ∷ raw) = ap (λ (read : Result Command LineFault). read ∷ map command_of (map strip_carriage_return raw)) (sym (same_ended line)) ∙ ap (λ (reads : List (Result Command LineFault)). command_of (strip_carriage_return (kept_of line)) ∷ reads) (ended_as raw)

-- of an empty rest nothing is kept, and of another one something
pub some_kept : (rest : List ℕ) → (length (kept_of rest) == 0) ≡ (length rest == 0)
some_kept rest = elim (cases_Bool (nat_le (length rest) (LINE_LIMIT + 2))) [
  | inl within ↦ ap (λ (l : List ℕ). length l == 0) (take_all (LINE_LIMIT + 2) rest (leb-true _ _ within))
  | inr beyond ↦
      let over = leb-false _ _ beyond in
      let full = length-take-le (LINE_LIMIT + 2) rest (omega arith) in
      ne_eqb (length (kept_of rest)) 0 (λ none. omega (arith, full, none)) ∙ sym (ne_eqb (length rest) 0 (λ none. omega (arith, over, none)))
]

last_as : (rest : List ℕ) → map command_of (if length rest == 0 then [] else rest ∷ []) ≡ last_of (kept_of rest)
last_as rest = elim (cases_Bool (length rest == 0)) [
  | inl none ↦
      ap (map command_of) (cond-true (length rest == 0) [] (rest ∷ []) none)
      ∙ sym (cond-true (length (kept_of rest) == 0) [] (command_of (kept_of rest) ∷ []) (some_kept rest ∙ none))
  | inr some ↦
      ap (map command_of) (cond-false (length rest == 0) [] (rest ∷ []) some)
      ∙ (ap (λ (read : Result Command LineFault). read ∷ []) (sym (same_last rest))
      ∙ sym (cond-false (length (kept_of rest) == 0) [] (command_of (kept_of rest) ∷ []) (some_kept rest ∙ some)))
]

pub kept_tell : KeptBytesTell
kept_tell bytes raw kept read =
    let whole = ap (map command_of) (lines_cut read.cut) ∙ map-append command_of (map strip_carriage_return raw) (if length read.rest == 0 then [] else read.rest ∷ []) in
    let ended = ap (λ (reads : List (Result Command LineFault)). reads ++ map command_of (if length read.rest == 0 then [] else read.rest ∷ [])) (ended_as raw) in
    let last = ap (λ (reads : List (Result Command LineFault)). ended_of raw ++ reads) (last_as read.rest ∙ ap last_of (sym read.is)) in
    whole ∙ (ended ∙ last)

-- ---- where a piece of the input has a line feed

first_free : (byte : ℕ) (parts : List (List ℕ)) → byte ≢ 10 → All HasNoFeed parts → All HasNoFeed (onto_first byte parts)
first_free byte [] other free = All-cons HasNoFeed (byte ∷ []) [] (All-cons (λ b. b ≢ 10) byte [] other (All-nil (λ b. b ≢ 10))) (All-nil HasNoFeed)
first_free byte (part ∷ parts) other free =
    All-cons HasNoFeed (byte ∷ part) parts (All-cons (λ b. b ≢ 10) byte part other (All-head HasNoFeed part parts free)) (All-tail HasNoFeed part parts free)

parts_free : (bytes : List ℕ) → All HasNoFeed (parts_between 10 bytes)
parts_free [] = All-cons HasNoFeed [] [] (All-nil (λ b. b ≢ 10)) (All-nil HasNoFeed)
parts_free (byte ∷ bytes) = elim (cases_Bool (byte == 10)) [
  | inl is ↦ subst (All HasNoFeed) (sym (slice_split-cons_yes (λ b. b == 10) byte bytes is)) (All-cons HasNoFeed [] (parts_between 10 bytes) (All-nil (λ b. b ≢ 10)) (parts_free bytes))
  | inr not ↦ subst (All HasNoFeed) (sym (slice_split-cons_no (λ b. b == 10) byte bytes not)) (first_free byte (parts_between 10 bytes) (eqb-false byte 10 not) (parts_free bytes))
]

joined_front : (part : List ℕ) (parts : List (List ℕ)) → 0 < length parts → join_with_byte 10 (part ∷ parts) ≡ part ++ 10 ∷ join_with_byte 10 parts
joined_front part [] some = absurd (omega arith)
joined_front part (next ∷ parts) some = refl

-- it is cut at its first one
pub at_feed : (piece part more : List ℕ) → parts_between 10 piece ≡ part ∷ parts_between 10 more → HasNoFeed part × (piece ≡ part ++ 10 ∷ more)
at_feed piece part more cut =
    let free = subst (All HasNoFeed) cut (parts_free piece) in
    let joined = sym (join_with_byte-slice_split 10 piece) ∙ ap (join_with_byte 10) cut ∙ joined_front part (parts_between 10 more) (some_part 10 more) in
    (All-head HasNoFeed part (parts_between 10 more) free, joined ∙ ap (λ (l : List ℕ). part ++ 10 ∷ l) (join_with_byte-slice_split 10 more))

-- it has none
pub without_feed : (piece : List ℕ) → parts_between 10 piece ≡ piece ∷ [] → HasNoFeed piece
without_feed piece whole = All-head HasNoFeed piece [] (subst (All HasNoFeed) whole (parts_free piece))
