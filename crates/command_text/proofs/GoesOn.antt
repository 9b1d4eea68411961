-- How reading goes on from what was kept of a line.
use Rattle.std.proofs.Common.{◌≡◌, ◌≢◌, ◌+◌, ℕ, List, [], ◌∷◌, ◌++◌, map, refl, sym, ap, subst, ◌∙◌, append_assoc}
use Rattle.std.specs.List.{All}
use Rattle.std.specs.Str.Lines.{strip_carriage_return}
use Rattle.std.proofs.lemmas.Grind.{flat_map-append}
use Rattle.std.proofs.lemmas.List.{append-nil, map-append}
use Rattle.std.proofs.lemmas.List.Elements.{All-append, All-cons, All-head, All-tail, All-take}
use Rattle.small_types.specs.declared.limits.TheConstants.{LINE_LIMIT}
use Rattle.machine.specs.declared.event.Event.{Event}
use Rattle.command_text.specs.Input.{Cut, HasNoFeed, IsRead, fed, kept_of}
use Rattle.command_text.specs.Lines.{AreEvents, command_of}
use Rattle.command_text.proofs.LongLines.{event_as, kept_more, read_part, same_ended}

-- ---- lines of which the same was kept

abbrev pub AreKeptAlike : List (List ℕ) → List (List ℕ) → Type 0
AreKeptAlike a b = map kept_of a ≡ map kept_of b

first_same : {X : Type 0} (x y : X) (xs ys : List X) → x ∷ xs ≡ y ∷ ys → (x ≡ y) × (xs ≡ ys)
first_same x y xs ys same = (cc, cc)

alike_read : (line other : List ℕ) → kept_of line ≡ kept_of other → command_of (strip_carriage_return line) ≡ command_of (strip_carriage_return other)
alike_read line other same = sym (same_ended line) ∙ ap (λ (l : List ℕ). command_of (strip_carriage_return l)) same ∙ same_ended other

-- the events of the ones are those of the others
pub events_alike : (a b : List (List ℕ)) (events : List Event) → AreKeptAlike a b → AreEvents (map strip_carriage_return a) events → AreEvents (map strip_carriage_return b) events
events_alike [] [] events same are = are
events_alike [] (other ∷ b) events same are = absurd (let no = same in cc)
events_alike (line ∷ a) [] events same are = absurd (let no = same in cc)
events_alike (line ∷ a) (other ∷ b) [] same are = absurd are
events_alike (line ∷ a) (other ∷ b) (event ∷ events) same are =
    let parts = first_same (kept_of line) (kept_of other) (map kept_of a) (map kept_of b) same in
    (event_as (strip_carriage_return line) (strip_carriage_return other) event (alike_read line other parts.0) are.0, events_alike a b events parts.1 are.1)

-- ---- cuts

cut_more : (before rest : List ℕ) (first second : List (List ℕ)) → All HasNoFeed first → Cut before second rest → Cut (fed first ++ before) (first ++ second) rest
cut_more before rest first second whole cut = record {
  joined = ap (λ (l : List ℕ). fed first ++ l) cut.joined ∙ sym (append_assoc (fed first) (fed second) rest) ∙ ap (λ (l : List ℕ). l ++ rest) (sym (flat_map-append (λ (line : List ℕ). line ++ 10 ∷ []) first second));
  whole = All-append HasNoFeed first second whole cut.whole;
  begun = cut.begun;
}

-- one behind the other
pub cuts_on : (bytes pending piece rest : List ℕ) (first second : List (List ℕ)) → Cut bytes first pending → Cut (pending ++ piece) second rest → Cut (bytes ++ piece) (first ++ second) rest
cuts_on bytes pending piece rest first second one two =
    subst (λ (l : List ℕ). Cut l (first ++ second) rest) (sym (ap (λ (l : List ℕ). l ++ piece) one.joined ∙ append_assoc (fed first) pending piece)) (cut_more (pending ++ piece) rest first second one.whole two)

free_behind : (a b : List ℕ) → HasNoFeed (a ++ b) → HasNoFeed b
free_behind [] b free = free
free_behind (byte ∷ a) b free = free_behind a b (All-tail (λ b. b ≢ 10) byte (a ++ b) free)

-- what stands before a line feed goes on from bytes without one
record GoesOn (kept piece line tail : List ℕ) : Type 0 where
  part : List ℕ
  first : line ≡ kept ++ part
  given : piece ≡ part ++ 10 ∷ tail

goes_on : (kept piece line tail : List ℕ) → HasNoFeed kept → kept ++ piece ≡ line ++ 10 ∷ tail → GoesOn kept piece line tail
goes_on [] piece line tail free same = record { part = line; first = refl; given = same }
goes_on (byte ∷ kept) piece [] tail free same =
    let parts = first_same byte 10 (kept ++ piece) tail same in
    absurd (All-head (λ b. b ≢ 10) byte kept free parts.0)
goes_on (byte ∷ kept) piece (other ∷ line) tail free same =
    let parts = first_same byte other (kept ++ piece) (line ++ 10 ∷ tail) same in
    let rest = goes_on kept piece line tail (All-tail (λ b. b ≢ 10) byte kept free) parts.1 in
    record {
      part = rest.part;
      first = ap (λ (b : ℕ). b ∷ line) (sym parts.0) ∙ ap (λ (l : List ℕ). byte ∷ l) rest.first;
      given = rest.given;
    }

fed_first : (line rest : List ℕ) (more : List (List ℕ)) → fed (line ∷ more) ++ rest ≡ line ++ 10 ∷ (fed more ++ rest)
fed_first line rest more = simp append_assoc

-- ---- reading on

kept_free : (rest kept : List ℕ) → kept ≡ kept_of rest → HasNoFeed rest → HasNoFeed kept
kept_free rest kept is free = subst HasNoFeed (sym is) (All-take (λ b. b ≢ 10) (LINE_LIMIT + 2) rest free)

-- A piece that goes on from what was kept was read as it would be from the whole line: the first line that it ends is
-- longer, and as much is kept of it.
pub record ReadsOn (bytes piece kept : List ℕ) (lines : List (List ℕ)) : Type 0 where
  pub raw : List (List ℕ)
  pub read : IsRead (bytes ++ piece) raw kept
  pub alike : AreKeptAlike lines raw

alike_behind : (first more : List (List ℕ)) (line other : List ℕ) → kept_of line ≡ kept_of other → AreKeptAlike (first ++ line ∷ more) (first ++ other ∷ more)
alike_behind first more line other same =
    map-append kept_of first (line ∷ more) ∙ ap (λ (l : List ℕ). map kept_of first ++ l ∷ map kept_of more) same ∙ sym (map-append kept_of first (other ∷ more))

pub reads_on : (bytes kept piece next : List ℕ) (first second : List (List ℕ)) → IsRead bytes first kept → IsRead (kept ++ piece) second next → ReadsOn bytes piece next (first ++ second)
reads_on bytes kept piece next first [] one two =
    let free = free_behind kept piece (subst HasNoFeed (sym two.cut.joined) two.cut.begun) in
    let is : kept_of (kept ++ piece) ≡ next = ap kept_of two.cut.joined ∙ sym two.is in
    record {
      raw = first;
      read = subst (IsRead (bytes ++ piece) first) is (read_part bytes first kept piece one free);
      alike = ap (map kept_of) (append-nil first);
    }
reads_on bytes kept piece next first (line ∷ more) one two =
    let tail = fed more ++ two.rest in
    let on = goes_on kept piece line tail (kept_free one.rest kept one.is one.cut.begun) (two.cut.joined ∙ fed_first line two.rest more) in
    let free = free_behind kept on.part (subst HasNoFeed on.first (All-head HasNoFeed line more two.cut.whole)) in
    let whole : Cut (one.rest ++ piece) ((one.rest ++ on.part) ∷ more) two.rest = record {
      joined = ap (λ (l : List ℕ). one.rest ++ l) on.given ∙ (sym (append_assoc one.rest on.part (10 ∷ tail)) ∙ sym (fed_first (one.rest ++ on.part) two.rest more));
      whole = All-cons HasNoFeed (one.rest ++ on.part) more (All-append (λ b. b ≢ 10) one.rest on.part one.cut.begun free) (All-tail HasNoFeed line more two.cut.whole);
      begun = two.cut.begun;
    } in
    let same : kept_of line ≡ kept_of (one.rest ++ on.part) = ap kept_of on.first ∙ (ap (λ (l : List ℕ). kept_of (l ++ on.part)) one.is ∙ kept_more one.rest on.part) in
    record {
      raw = first ++ (one.rest ++ on.part) ∷ more;
      read = record { rest = two.rest; cut = cuts_on bytes one.rest piece two.rest first ((one.rest ++ on.part) ∷ more) one.cut whole; is = two.is };
      alike = alike_behind first more line (one.rest ++ on.part) same;
    }

-- the same, where reading stopped within the piece
pub record StopsOn (bytes piece : List ℕ) (lines : List (List ℕ)) : Type 0 where
  pub before : List ℕ
  pub after : List ℕ
  pub split : bytes ++ piece ≡ before ++ after
  pub raw : List (List ℕ)
  pub rest : List ℕ
  pub cut : Cut before raw rest
  pub alike : AreKeptAlike lines raw

pub stops_on : (bytes kept piece before after rest : List ℕ) (first second : List (List ℕ)) → IsRead bytes first kept → kept ++ piece ≡ before ++ after → Cut before second rest → StopsOn bytes piece (first ++ second)
stops_on bytes kept piece before after rest first [] one split cut = record {
  before = bytes;
  after = piece;
  split = refl;
  raw = first;
  rest = one.rest;
  cut = one.cut;
  alike = ap (map kept_of) (append-nil first);
}
stops_on bytes kept piece before after rest first (line ∷ more) one split cut =
    let tail = fed more ++ rest in
    let is : before ≡ line ++ 10 ∷ tail = cut.joined ∙ fed_first line rest more in
    let all : kept ++ piece ≡ line ++ 10 ∷ (tail ++ after) = split ∙ (ap (λ (l : List ℕ). l ++ after) is ∙ append_assoc line (10 ∷ tail) after) in
    let on = goes_on kept piece line (tail ++ after) (kept_free one.rest kept one.is one.cut.begun) all in
    let front : List ℕ = on.part ++ 10 ∷ tail in
    let begun : before ≡ kept ++ front = is ∙ (ap (λ (l : List ℕ). l ++ 10 ∷ tail) on.first ∙ append_assoc kept on.part (10 ∷ tail)) in
    let reads = reads_on bytes kept front (kept_of rest) first (line ∷ more) one (record { rest = rest; cut = subst (λ (l : List ℕ). Cut l (line ∷ more) rest) begun cut; is = refl }) in
    record {
      before = bytes ++ front;
      after = after;
      split = ap (λ (l : List ℕ). bytes ++ l) (on.given ∙ sym (append_assoc on.part (10 ∷ tail) after)) ∙ sym (append_assoc bytes front after);
      raw = reads.raw;
      rest = reads.read.rest;
      cut = reads.read.cut;
      alike = reads.alike;
    }
