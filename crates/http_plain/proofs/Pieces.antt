-- What is sent and received on a connection, piece by piece.
use Rattle.std.proofs.Common.{◌≡◌, ◌≢◌, ◌≤◌, ◌<◌, ◌+◌, ℕ, suc, true, List, [], ◌∷◌, ◌++◌, length, take, drop, eqb, Option, Some, None, Result, Ok, Err, refl, inl, inr, ap, sym, subst, ◌∙◌, arith, append_assoc, take-append-drop, length-append, length-take}
use Rattle.std.specs.Option.{IsSome, IfSome}
use Rattle.std.specs.Result.{IfOk, IfErr}
use Rattle.std.proofs.lemmas.List.{append-nil, nil_from_length, take-append-le}
use Rattle.std.proofs.Math.Seq.{take-append-add}
use Rattle.small_types.specs.declared.target.Target.{Target}
use Rattle.connections.specs.Wire.{Made, begun, Connects, Receives, Sends}
use Rattle.http_plain.specs.declared.begun.Begun.{Begun}
use Rattle.http_plain.specs.declared.fault.ExchangeFault.{ExchangeFault}
use Rattle.http_plain.specs.declared.fault.ExchangeFault.TheVariants.{ReadFault, WriteFault, Cut, HeadTooLong, Malformed, Missing, Status, Encoded, NoLength, Memory}
use Rattle.http_plain.specs.Exchange.{request_text}
use Rattle.http_plain.specs.Begin.{Answers, Exchanges, ExchangesBy, IsHalfAsked, IsHalfHeard, IsMade, IsRead, IsReadFront, IsReadPart, IsSending, IsSent, IsSentPart, IsOwn}
use Rattle.http_plain.specs.declared.exchange.TheConstants.{ANSWER_PIECE}
use Rattle.http_plain.specs.Head.{head_end, IsEnough, IsNear}
use Rattle.http_plain.specs.declared.head.TheConstants.{HEAD_LIMIT}
use Rattle.http_plain.proofs.Ends.{near_piece, near_none, near_whole}

long_not_zero : (n : ℕ) → eqb (suc n) 0 ≡ true → ⊥
long_not_zero n e = grind arith

same_made : (a b : Made) → ◌≡◌ {A = Option Made} (Some a) (Some b) → a ≡ b
same_made a b e = cc

-- the connection, with so much sent
abbrev pub with_sent : Made → List ℕ → Made
with_sent made sent = record made { sent = sent }

pub send_more : (made : Made) (old new : Option Made) (bytes rest : List ℕ) (n : ℕ)
    → IsSending made old bytes rest → Sends old new (take n rest) → IsSending made new bytes (drop n rest)
send_more made old new bytes rest n so_far sends =
    let last : sends.last ≡ with_sent made (made.sent ++ so_far.done) = same_made _ _ (sym sends.before ∙ so_far.sent) in
    record {
      done = so_far.done ++ take n rest;
      split =
          so_far.split
          ∙ ap (λ l. so_far.done ++ l) (sym (take-append-drop n rest))
          ∙ sym (append_assoc so_far.done (take n rest) (drop n rest));
      sent =
          sends.after
          ∙ ap (λ (l : Made). Some (with_sent l (l.sent ++ take n rest))) last
          ∙ ap (λ l. Some (with_sent made l)) (append_assoc made.sent so_far.done (take n rest));
    }

pub send_done : (made : Made) (now : Option Made) (bytes rest : List ℕ) → eqb (length rest) 0 ≡ true → IsSending made now bytes rest → IsSent made now bytes
send_done made now bytes [] none so_far =
    so_far.sent ∙ ap (λ l. Some (with_sent made (made.sent ++ l))) (sym (so_far.split ∙ append-nil so_far.done))
send_done made now bytes (b ∷ rest) none so_far = absurd (long_not_zero (length rest) none)

-- the connection, with so much left
abbrev pub with_left : Made → List ℕ → Made
with_left made left = record made { left = left }

pub read_more : (made : Made) (old new : Option Made) (front buf : List ℕ) (n : ℕ)
    → IsRead made old front → Receives old new buf n → IsRead made new (front ++ take n buf)
read_more made old new front buf n so_far receives =
    let last : receives.last ≡ with_left made so_far.left = same_made _ _ (sym receives.before ∙ so_far.after) in
    record {
      left = receives.left;
      after = receives.after ∙ ap (λ (l : Made). Some (with_left l receives.left)) last;
      given =
          so_far.given
          ∙ ap (λ l. front ++ l) (sym (ap (λ (l : Made). l.left) last) ∙ receives.given.given)
          ∙ sym (append_assoc front (take n buf) receives.left);
    }

-- a piece behind the first bytes of a buffer lengthens them
pub front_grown : (old new buf tail : List ℕ) (used n : ℕ) → new ≡ take used old ++ (buf ++ tail) → used ≤ length old → n ≤ length buf
    → take (used + n) new ≡ take used old ++ take n buf
front_grown old new buf tail used n is within fits =
    let short : length (take used old) ≡ used = omega (arith, length-take used old) in
    ap (take (used + n)) is
    ∙ ap (λ k. take (k + n) (take used old ++ (buf ++ tail))) (sym short)
    ∙ take-append-add (take used old) (buf ++ tail) n
    ∙ ap (λ l. take used old ++ l) (take-append-le n buf tail fits)

-- a piece is received behind the first bytes of a buffer
pub piece_read : {E : Type 0} (r : Result ℕ E) (old new : Option Made) (front before buf tail : List ℕ) (used : ℕ) → used ≤ length front → length buf ≡ length before
    → IfOk r (λ n. n ≤ length before)
    → IfOk r (λ n. Receives old new buf n)
    → IfOk r (λ n. (made : Made) → IsRead made old (take used front) → IsRead made new (take (used + n) (take used front ++ (buf ++ tail))))
piece_read (Err e) old new front before buf tail used within same fits receives = tt
piece_read (Ok n) old new front before buf tail used within same fits receives = λ made read.
    subst (IsRead made new) (sym (front_grown front (take used front ++ (buf ++ tail)) buf tail used n refl within (omega (arith, fits, same))))
    (read_more made old new (take used front) buf n read receives)

-- nothing more came
pub read_end : (made : Made) (old new : Option Made) (front buf : List ℕ) (n : ℕ)
    → IsRead made old front → Receives old new buf n → n ≡ 0 → made.left ≡ front
read_end made old new front buf n so_far receives none =
    let last : receives.last ≡ with_left made so_far.left = same_made _ _ (sym receives.before ∙ so_far.after) in
    so_far.given ∙ ap (λ l. front ++ l) (sym (ap (λ (l : Made). l.left) last) ∙ receives.given.end none) ∙ append-nil front

-- all came
pub front_at_end : (made : Made) (now : Option Made) (front : List ℕ) → IsRead made now front → made.left ≡ front → IsNear ANSWER_PIECE front
    → IsReadFront made now front
front_at_end made now front so_far all near =
    record {
      left = so_far.left;
      after = so_far.after;
      given = so_far.given;
      enough = inl (nil_from_length so_far.left (omega (arith, length-append front so_far.left, ap length (sym so_far.given ∙ all))));
      near = near;
    }

pub front_at_mark : (made : Made) (now : Option Made) (front : List ℕ) → IsRead made now front → length front ≤ HEAD_LIMIT
    → IsSome (head_end front) → IsNear ANSWER_PIECE front → IsReadFront made now front
front_at_mark made now front so_far fits ended near =
    record { left = so_far.left; after = so_far.after; given = so_far.given; enough = inr (inr (fits, ended)); near = near }

pub front_at_limit : (made : Made) (now : Option Made) (front : List ℕ) → IsRead made now front → length front ≤ HEAD_LIMIT
    → HEAD_LIMIT ≤ length front → head_end front ≡ None → IsReadFront made now front
front_at_limit made now front so_far fits full none =
    record {
      left = so_far.left;
      after = so_far.after;
      given = so_far.given;
      enough = inr (inl (omega arith));
      near = near_none ANSWER_PIECE front none;
    }

pub exchanged : (target : Target) (one two three : Option Made) (request front : List ℕ) (result : Result Begun ExchangeFault)
    → Connects target.host target.port one
    → ((made : Made) → one ≡ Some made → IsSent made two request)
    → ((made : Made) → two ≡ Some made → IsReadFront made three front)
    → request ≡ request_text target
    → length front ≤ HEAD_LIMIT
    → ((left : List ℕ) → IsEnough front left → Answers (front ++ left) left result)
    → Exchanges target three result
exchanged target one two three request front result connects sends reads text fits answers =
    let first : Made = begun target.host target.port connects.answer in
    let second : Made = record first { sent = first.sent ++ request } in
    let read = reads second (sends first connects.made) in
    record {
      made = record second { left = read.left };
      is = read.after;
      asked = record { host = refl; port = refl; sent = text };
      answers = subst (λ answer. Answers answer read.left result) (sym read.given) (answers read.left read.enough);
      received = omega (arith, length-append front read.left, ap length read.given);
      near =
          subst (λ answer. IfSome (head_end answer) (λ end. length answer < length read.left + end + ANSWER_PIECE)) (sym read.given)
          (near_whole ANSWER_PIECE front read.left read.near);
    }

-- what the answer alone decides
pub exchanges : (target : Target) (present : Option Made) (result : Result Begun ExchangeFault)
    → IfErr result IsOwn → Exchanges target present result → ExchangesBy target present result
exchanges target present (Ok begun) own x = x
exchanges target present (Err ReadFault) own x = absurd own
exchanges target present (Err WriteFault) own x = absurd own
exchanges target present (Err Memory) own x = tt
exchanges target present (Err Cut) own x = x
exchanges target present (Err HeadTooLong) own x = x
exchanges target present (Err Malformed) own x = x
exchanges target present (Err Missing) own x = x
exchanges target present (Err (Status code)) own x = x
exchanges target present (Err Encoded) own x = x
exchanges target present (Err NoLength) own x = x

-- an answer is no want of memory
pub not_for_memory : (result : Result Begun ExchangeFault) → IfErr result IsOwn → result ≡ Err Memory → ⊥
not_for_memory result own is = subst (λ (r : Result Begun ExchangeFault). IfErr r IsOwn) is own

-- sending failed
pub half_asked : (target : Target) (one two : Option Made) (request : List ℕ)
    → Connects target.host target.port one
    → ((made : Made) → one ≡ Some made → IsSentPart made two request)
    → request ≡ request_text target
    → IsMade (IsHalfAsked target) two
half_asked target one two request connects sends text =
    let first : Made = begun target.host target.port connects.answer in
    let part = sends first connects.made in (
      record first { sent = first.sent ++ part.sending.done },
      part.sending.sent,
      record { host = refl; port = refl; rest = part.rest; some = part.some; sent = sym text ∙ part.sending.split; none = refl },
    )

-- receiving failed
pub half_heard : (target : Target) (one two three : Option Made) (request : List ℕ)
    → Connects target.host target.port one
    → ((made : Made) → one ≡ Some made → IsSent made two request)
    → ((made : Made) → two ≡ Some made → IsReadPart made three)
    → request ≡ request_text target
    → IsMade (IsHalfHeard target) three
half_heard target one two three request connects sends reads text =
    let first : Made = begun target.host target.port connects.answer in
    let second : Made = record first { sent = first.sent ++ request } in
    let part = reads second (sends first connects.made) in (
      record second { left = part.read.left },
      part.read.after,
      record {
        asked = record { host = refl; port = refl; sent = text };
        front = part.front;
        given = part.read.given;
        few = part.few;
        none = part.none;
      },
    )
