-- How a connection goes on while it is served.
use Rattle.std.proofs.Common.{◌≡◌, ◌≢◌, ℕ, ◌+◌, ◌<◌, ◌≤◌, List, [], ◌∷◌, ◌++◌, None, length, take, ap, sym, ◌∙◌, refl, inl, inr, arith, append_assoc, length-append, length-take}
use Rattle.std.specs.Prelude.{IsSome, Result, Ok, Err, IfOk, OnErr}
use Rattle.std.proofs.Common.{subst}
use Rattle.std.proofs.lemmas.List.{append-nil}
use Rattle.connections.specs.Door.{Accepted, ReceivesOnLast, SendsOnLast}
use Rattle.connections.proofs.Ends.{Ends, ends, SameEnd, same_end, ReceivedOn, received_on, sent_on}
use Rattle.http_plain.specs.Head.{head_end, IsNear}
use Rattle.http_plain.proofs.Ends.{near_none}
use Rattle.http_plain.proofs.Pieces.{front_grown}
use Rattle.http_plain.specs.declared.head.TheConstants.{HEAD_LIMIT}
use Rattle.plain_host.specs.Connection.{BreaksOff, Serving, SendsFront, SendsNothing, SendsPart, TakesAll, TakesFront}
use Rattle.plain_host.specs.declared.request.TheConstants.{REQUEST_PIECE}

some_there : (xs : List Accepted) → xs ≢ [] → 0 < length xs
some_there [] some = absurd (some refl)
some_there (x ∷ xs) some = omega arith

-- nothing was done yet
pub untouched : (old : List Accepted) → old ≢ [] → Serving old old [] []
untouched old some =
    let e : Ends old = ends old (some_there old some) in
    record {
      earlier = e.earlier;
      last = e.last;
      left = e.last.left;
      before = e.is;
      after = e.is ∙ ap (λ (s : List ℕ). e.earlier ++ record e.last { sent = s } ∷ []) (sym (append-nil e.last.sent));
      split = refl;
    }

-- a list that ends in an item is not empty
ends_in : (xs earlier : List Accepted) (last : Accepted) → xs ≡ earlier ++ last ∷ [] → xs ≢ []
ends_in xs [] last is none = let clash : last ∷ [] ≡ [] = sym is ∙ none in cc
ends_in xs (x ∷ earlier) last is none = let clash : x ∷ (earlier ++ last ∷ []) ≡ [] = sym is ∙ none in cc

-- the last connection stays
pub still_there : (old new : List Accepted) (taken sent : List ℕ) → Serving old new taken sent → new ≢ []
still_there old new taken sent s = ends_in new s.earlier (record s.last { left = s.left; sent = s.last.sent ++ sent }) s.after

-- more was received
pub takes_on : (old mid new : List Accepted) (taken sent buf : List ℕ) (n : ℕ) → Serving old mid taken sent → ReceivesOnLast mid new buf n
    → Serving old new (taken ++ take n buf) sent
takes_on old mid new taken sent buf n s r =
    let on : ReceivedOn s.earlier (record s.last { left = s.left; sent = s.last.sent ++ sent }) new buf n =
    received_on s.earlier (record s.last { left = s.left; sent = s.last.sent ++ sent }) mid new buf n s.after r in
    record {
      earlier = s.earlier;
      last = s.last;
      left = on.left;
      before = s.before;
      after = on.after;
      split = s.split ∙ ap (λ (l : List ℕ). taken ++ l) on.given.given ∙ sym (append_assoc taken (take n buf) on.left);
    }

-- more was sent
pub sends_on : (old mid new : List Accepted) (taken sent bytes : List ℕ) → Serving old mid taken sent → SendsOnLast mid new bytes
    → Serving old new taken (sent ++ bytes)
sends_on old mid new taken sent bytes s r =
    record {
      earlier = s.earlier;
      last = s.last;
      left = s.left;
      before = s.before;
      after =
          sent_on s.earlier (record s.last { left = s.left; sent = s.last.sent ++ sent }) mid new bytes s.after r
          ∙ ap (λ (b : List ℕ). s.earlier ++ record s.last { left = s.left; sent = b } ∷ []) (append_assoc s.last.sent sent bytes);
      split = s.split;
    }

-- two courses are one, where the second receives nothing
abbrev pub joined : (old mid new : List Accepted) (taken sent bytes : List ℕ) → Serving old mid taken sent → Serving mid new [] bytes
    → Serving old new taken (sent ++ bytes)
joined old mid new taken sent bytes s r =
    let here : Accepted = record s.last { left = s.left; sent = s.last.sent ++ sent } in
    let same : SameEnd r.earlier s.earlier r.last here = same_end r.earlier s.earlier r.last here (sym r.before ∙ s.after) in
    let left : r.left ≡ s.left = sym r.split ∙ ap (λ (c : Accepted). c.left) same.last in
    record {
      earlier = s.earlier;
      last = s.last;
      left = s.left;
      before = s.before;
      after =
          r.after
          ∙ ap (λ (e : List Accepted). e ++ record r.last { left = r.left; sent = r.last.sent ++ bytes } ∷ []) same.earlier
          ∙ ap (λ (l : List ℕ). s.earlier ++ record r.last { left = l; sent = r.last.sent ++ bytes } ∷ []) left
          ∙ ap (λ (c : Accepted). s.earlier ++ record c { left = s.left; sent = c.sent ++ bytes } ∷ []) same.last
          ∙ ap (λ (b : List ℕ). s.earlier ++ record s.last { left = s.left; sent = b } ∷ []) (append_assoc s.last.sent sent bytes);
      split = s.split;
    }

-- the first part grows
pub sends_more : (old mid new : List Accepted) (bytes rest now later : List ℕ) → rest ≡ now ++ later → SendsFront old mid bytes rest → SendsOnLast mid new now
    → SendsFront old new bytes later
sends_more old mid new bytes rest now later split f s = record {
  done = f.done ++ now;
  given = f.given ∙ ap (λ (r : List ℕ). f.done ++ r) split ∙ sym (append_assoc f.done now later);
  sent = sends_on old mid new [] f.done now f.sent s;
}

-- a piece is received behind the first bytes of a buffer
pub piece_taken : {E : Type 0} (r : Result ℕ E) (old new : List Accepted) (front before buf tail : List ℕ) (used : ℕ) → used ≤ length front → length buf ≡ length before
    → IfOk r (λ n. n ≤ length before)
    → IfOk r (λ n. ReceivesOnLast old new buf n)
    → IfOk r (λ n. (start : List Accepted) → Serving start old (take used front) [] → Serving start new (take (used + n) (take used front ++ (buf ++ tail))) [])
piece_taken (Err e) old new front before buf tail used within same fits received = tt
piece_taken (Ok n) old new front before buf tail used within same fits received = λ start s.
    subst (λ (f : List ℕ). Serving start new f []) (sym (front_grown front (take used front ++ (buf ++ tail)) buf tail used n refl within (omega (arith, fits, same))))
    (takes_on start old new (take used front) [] buf n s received)

-- nothing more came
nothing_more : (old mid new : List Accepted) (front buf : List ℕ) (n : ℕ) → Serving old mid front [] → ReceivesOnLast mid new buf n → n ≡ 0 → TakesAll old new front
nothing_more old mid new front buf n s r none =
    let on : ReceivedOn s.earlier (record s.last { left = s.left; sent = s.last.sent ++ [] }) new buf n =
    received_on s.earlier (record s.last { left = s.left; sent = s.last.sent ++ [] }) mid new buf n s.after r in
    let empty : s.left ≡ [] = on.given.end none in
    let nothing : take n buf ≡ [] = ap (λ (k : ℕ). take k buf) none in
    let last : on.left ≡ [] = sym (ap (λ (l : List ℕ). l ++ on.left) nothing) ∙ sym on.given.given ∙ empty in
    record {
      taken = record {
        earlier = s.earlier;
        last = s.last;
        left = on.left;
        before = s.before;
        after = on.after;
        split = s.split ∙ ap (λ (l : List ℕ). front ++ l) (empty ∙ sym last);
      };
      all = last;
    }

pub piece_ends : {E : Type 0} (r : Result ℕ E) (old new : List Accepted) (front buf tail : List ℕ) (used : ℕ) → used ≤ length front
    → IfOk r (λ n. ReceivesOnLast old new buf n)
    → IfOk r (λ n. n ≡ 0 → (start : List Accepted) → Serving start old (take used front) [] → TakesAll start new (take (used + n) (take used front ++ (buf ++ tail))))
piece_ends (Err e) old new front buf tail used within received = tt
piece_ends (Ok n) old new front buf tail used within received = λ none start s.
    let whole : take (used + n) (take used front ++ (buf ++ tail)) ≡ take used front ++ take n buf =
    front_grown front (take used front ++ (buf ++ tail)) buf tail used n refl within (omega (arith, none)) in
    let same : take (used + n) (take used front ++ (buf ++ tail)) ≡ take used front =
    whole ∙ ap (λ (k : ℕ). take used front ++ take k buf) none ∙ append-nil (take used front) in
    subst (TakesAll start new) (sym same) (nothing_more start old new (take used front) buf n s received none)

-- the request ends here
pub ends_here : (old new : List Accepted) (front : List ℕ) → TakesAll old new front → IsNear REQUEST_PIECE front → TakesFront old new front
ends_here old new front t near = record { taken = t.taken; enough = inl t.all; near = near }

-- the limit is reached
pub fills : (old new : List Accepted) (front : List ℕ) → Serving old new front [] → length front ≡ HEAD_LIMIT → IsNear REQUEST_PIECE front → TakesFront old new front
fills old new front s full near = record { taken = s; enough = inr (inl full); near = near }

-- the head's end is there
pub ends_head : (old new : List Accepted) (front : List ℕ) → Serving old new front [] → length front ≤ HEAD_LIMIT → IsSome (head_end front) → IsNear REQUEST_PIECE front
    → TakesFront old new front
ends_head old new front s within there near = record { taken = s; enough = inr (inr (within, there)); near = near }

-- nothing was sent yet
pub sends_nothing : (old new : List Accepted) (front : List ℕ) → length front ≤ HEAD_LIMIT → TakesFront old new front → SendsNothing old new
sends_nothing old new front few t = record { front = front; few = few; near = t.near; taken = t.taken }

pub breaks_silent : (old new : List Accepted) → BreaksOff old new → SendsNothing old new
breaks_silent old new b = record { front = b.front; few = omega (arith, b.few); near = near_none REQUEST_PIECE b.front b.none; taken = b.taken }

-- a part of what comes behind other bytes
part_behind : (old mid new : List Accepted) (first second : List ℕ) → Serving old mid [] first → SendsPart mid new second → SendsPart old new (first ++ second)
part_behind old mid new first second s p = record {
  rest = p.rest;
  some = p.some;
  front = record {
    done = first ++ p.front.done;
    given = ap (λ (b : List ℕ). first ++ b) p.front.given ∙ sym (append_assoc first p.front.done p.rest);
    sent = joined old mid new [] first p.front.done s p.front.sent;
  };
}

pub parts_behind : {T E : Type 0} (r : Result T E) (old mid new : List Accepted) (first second : List ℕ) → Serving old mid [] first
    → OnErr r (SendsPart mid new second) → OnErr r (SendsPart old new (first ++ second))
parts_behind (Ok x) old mid new first second s part = tt
parts_behind (Err e) old mid new first second s part = part_behind old mid new first second s part
