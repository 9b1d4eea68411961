-- What a link was asked, call by call.
use Rattle.std.proofs.Common.{◌≡◌, ℕ, ◌+◌, ◌<◌, ◌≤◌, List, [], ◌∷◌, ◌++◌, length, take, Result, Ok, Err, inl, inr, refl, sym, ap, subst, ◌∙◌, append_assoc, arith}
use Rattle.std.specs.Prelude.{IfOk, OnErr}
use Rattle.std.proofs.lemmas.List.{append-nil, length-append}
use Rattle.small_types.specs.declared.target.Target.{Target}
use Rattle.links.specs.declared.history.LinkCall.{LinkCall}
use Rattle.links.specs.declared.history.LinkCall.TheVariants.{Asked, Gave, Broke}
use Rattle.links.specs.declared.link.LinkFault.{LinkFault}
use Rattle.links.specs.Asked.{AskedOnce, Calls, GaveSome, StopAtEnd, bytes_given, targets_in}
use Rattle.links.specs.Link.{LinkState}
use Rattle.fetcher.specs.Once.{EndsEmpty, HasServed, IsAsked, Took, TookAtMost, TookPiece}

-- ---- lists of calls

targets_append : (xs ys : List LinkCall) → targets_in (xs ++ ys) ≡ targets_in xs ++ targets_in ys
targets_append [] ys = refl
targets_append (Asked target answer ∷ xs) ys = ap (λ (l : List Target). target ∷ l) (targets_append xs ys)
targets_append (Gave bytes ∷ xs) ys = targets_append xs ys
targets_append (Broke ∷ xs) ys = targets_append xs ys

given_append : (xs ys : List LinkCall) → bytes_given (xs ++ ys) ≡ bytes_given xs ++ bytes_given ys
given_append [] ys = refl
given_append (Asked target answer ∷ xs) ys = given_append xs ys
given_append (Gave bytes ∷ xs) ys =
    ap (λ (l : List ℕ). bytes ++ l) (given_append xs ys) ∙ sym (append_assoc bytes (bytes_given xs) (bytes_given ys))
given_append (Broke ∷ xs) ys = given_append xs ys

-- each of them gave a byte
abbrev pub AllGave : List LinkCall → Type 0
AllGave [] = Unit {0}
AllGave (call ∷ calls) = GaveSome call × AllGave calls

-- so nothing was asked for behind an end, and neither with one call more
pub gave_ends : (calls : List LinkCall) → AllGave calls → StopAtEnd calls
gave_ends [] all = tt
gave_ends (call ∷ calls) all = inr (all.0, gave_ends calls all.1)

pub ends_next : (call : LinkCall) (calls : List LinkCall) → AllGave calls → StopAtEnd (calls ++ call ∷ [])
ends_next call [] all = inl refl
ends_next call (one ∷ calls) all = inr (all.0, ends_next call calls all.1)

pub gave_next : (call : LinkCall) → GaveSome call → (calls : List LinkCall) → AllGave calls
    → AllGave (calls ++ call ∷ [])
gave_next call some [] all = (some, tt)
gave_next call some (one ∷ calls) all = (all.0, gave_next call some calls all.1)

-- with one more that gave nothing they end there
abbrev pub StopAtEmpty : List LinkCall → Type 0
StopAtEmpty calls = StopAtEnd calls × EndsEmpty calls

pub empty_next : (n : ℕ) (buf : List ℕ) → n ≡ 0 → (calls : List LinkCall) → AllGave calls
    → StopAtEmpty (calls ++ Gave (take n buf) ∷ [])
empty_next n buf none calls all = (
  ends_next (Gave (take n buf)) calls all,
  record { earlier = calls; is = ap (λ (k : ℕ). calls ++ Gave (take k buf) ∷ []) none },
)

pub gave_some : (bytes : List ℕ) → 0 < length bytes → GaveSome (Gave bytes)
gave_some [] some = absurd (omega arith)
gave_some (byte ∷ bytes) some = tt

-- ---- pieces

pub took_none : (link : LinkState) → Took AllGave link link []
took_none link = record {
  pieces = [];
  only = refl;
  calls = sym (append-nil link.history);
  ends = tt;
  given = refl;
}

-- one call more
pub took_next : (Ends : List LinkCall → Type 0) (a b c : LinkState) (xs ys : List ℕ) (call : LinkCall)
    → Took AllGave a b xs → Calls b c (call ∷ []) → targets_in (call ∷ []) ≡ []
    → bytes_given (call ∷ []) ≡ ys
    → ((calls : List LinkCall) → AllGave calls → Ends (calls ++ call ∷ [])) → Took Ends a c (xs ++ ys)
took_next Ends a b c xs ys call so calls only given ends = record {
  pieces = so.pieces ++ call ∷ [];
  only = targets_append so.pieces (call ∷ []) ∙ ap (λ (l : List Target). l ++ targets_in (call ∷ [])) so.only ∙ only;
  calls = calls ∙ ap (λ (l : List LinkCall). l ++ call ∷ []) so.calls ∙ append_assoc a.history so.pieces (call ∷ []);
  ends = ends so.pieces so.ends;
  given = given_append so.pieces (call ∷ []) ∙ ap (λ (l : List ℕ). l ++ bytes_given (call ∷ [])) so.given
      ∙ ap (λ (l : List ℕ). xs ++ l) given;
}

pub took_gave : (Ends : List LinkCall → Type 0) (a b c : LinkState) (xs ys : List ℕ)
    → Took AllGave a b xs → Calls b c (Gave ys ∷ [])
    → ((calls : List LinkCall) → AllGave calls → Ends (calls ++ Gave ys ∷ [])) → Took Ends a c (xs ++ ys)
took_gave Ends a b c xs ys so calls ends =
    took_next Ends a b c xs ys (Gave ys) so calls refl (append-nil ys) ends

-- the body was at its end
pub took_end : (a b c : LinkState) (xs : List ℕ) (n : ℕ) (buf : List ℕ) → Took AllGave a b xs
    → Calls b c (Gave (take n buf) ∷ []) → n ≡ 0 → Took StopAtEnd a c xs
took_end a b c xs n buf so calls none =
    let empty : Calls b c (Gave [] ∷ []) =
    subst (λ (k : ℕ). Calls b c (Gave (take k buf) ∷ [])) none calls in
    subst (Took StopAtEnd a c) (append-nil xs)
    (took_gave StopAtEnd a b c xs [] so empty (ends_next (Gave [])))

pub took_all : (a b : LinkState) (xs : List ℕ) → Took AllGave a b xs → Took StopAtEnd a b xs
took_all a b xs so = record {
  pieces = so.pieces;
  only = so.only;
  calls = so.calls;
  ends = gave_ends so.pieces so.ends;
  given = so.given;
}

pub most_took : (most : ℕ) (a b : LinkState) (xs : List ℕ) → Took StopAtEnd a b xs → length xs ≤ most
    → TookAtMost most a b
most_took most a b xs took within = record { bytes = xs; within = within; took = took }

pub most_next : (most n : ℕ) (a b c : LinkState) (xs : List ℕ) → Took AllGave a b xs → TookPiece n b c
    → length xs + n ≤ most → TookAtMost most a c
most_next most n a b c xs so piece within =
    let ys : List ℕ = bytes_given (piece.call ∷ []) in
    record {
      bytes = xs ++ ys;
      within = omega (arith, length-append xs ys, piece.within, within);
      took = took_next StopAtEnd a b c xs ys piece.call so piece.calls piece.only refl (ends_next piece.call);
    }

pub most_within : (m n : ℕ) (a b : LinkState) → TookAtMost m a b → m ≤ n → TookAtMost n a b
most_within m n a b so within = record {
  bytes = so.bytes;
  within = omega (arith, so.within, within);
  took = so.took;
}

-- a call for a piece that failed
pub piece_broke : (most : ℕ) (a b : LinkState) → Calls a b (Broke ∷ []) → TookPiece most a b
piece_broke most a b calls = record { call = Broke; only = refl; calls = calls; within = omega arith }

pub piece_gave : (most : ℕ) (a b : LinkState) (bytes : List ℕ) → length bytes ≤ most
    → Calls a b (Gave bytes ∷ []) → TookPiece most a b
piece_gave most a b bytes within calls = record {
  call = Gave bytes;
  only = refl;
  calls = calls;
  within = omega (arith, ap length (append-nil bytes), within);
}

-- ---- one link

on_none : {T E : Type 0} (result : Result T E) → OnErr result (◌≡◌ {A = List LinkCall} [] [])
on_none (Ok x) = tt
on_none (Err e) = refl

if_none : (Serves : ℕ → Type 0) (result : Result ℕ LinkFault)
    → IfOk result (λ n. ¬ Serves n → ◌≡◌ {A = List LinkCall} [] [])
if_none Serves (Ok n) = λ other. refl
if_none Serves (Err e) = tt

-- it was asked, and for no piece
pub asked_alone : (Serves : ℕ → Type 0) (most : ℕ) (target : Target) (a b : LinkState)
    (answer : Result ℕ LinkFault) → Calls a b (Asked target answer ∷ [])
    → IsAsked Serves most target a b
asked_alone Serves most target a b answer calls = record {
  answer = answer;
  pieces = [];
  once = record { only = refl; calls = calls };
  failed = on_none answer;
  unfit = if_none Serves answer;
  ends = tt;
  within = omega arith;
}

-- the pieces stand behind what it was asked
pub behind_ask : (target : Target) (answer : Result ℕ LinkFault) (a b c : LinkState) (pieces : List LinkCall)
    → Calls a b (Asked target answer ∷ []) → targets_in pieces ≡ [] → Calls b c pieces
    → AskedOnce target a c answer pieces
behind_ask target answer a b c pieces asks only calls = record {
  only = only;
  calls = calls ∙ ap (λ (l : List LinkCall). l ++ pieces) asks
      ∙ append_assoc a.history (Asked target answer ∷ []) pieces;
}

pub asked_pieces : (Serves : ℕ → Type 0) (most n : ℕ) (target : Target) (a b c : LinkState)
    → Calls a b (Asked target (Ok n) ∷ []) → Serves n → TookAtMost most b c
    → IsAsked Serves most target a c
asked_pieces Serves most n target a b c asks serves so = record {
  answer = Ok n;
  pieces = so.took.pieces;
  once = behind_ask target (Ok n) a b c so.took.pieces asks so.took.only so.took.calls;
  failed = tt;
  unfit = λ other. absurd (other serves);
  ends = so.took.ends;
  within = omega (arith, ap length so.took.given, so.within);
}

pub served_pieces : (Serves : ℕ → Type 0) (n : ℕ) (target : Target) (a b c : LinkState) (bytes : List ℕ)
    → Calls a b (Asked target (Ok n) ∷ []) → Serves n → Took StopAtEnd b c bytes
    → HasServed Serves target a c bytes
served_pieces Serves n target a b c bytes asks serves took = record {
  answered = n;
  serves = serves;
  pieces = took.pieces;
  once = behind_ask target (Ok n) a b c took.pieces asks took.only took.calls;
  ends = took.ends;
  given = took.given;
}

-- ---- by what it was before and after

module _ (a b c d : LinkState) (before : b.history ≡ a.history) (after : d.history ≡ c.history) where
  pub once_along : (target : Target) (answer : Result ℕ LinkFault) (pieces : List LinkCall)
      → AskedOnce target b c answer pieces → AskedOnce target a d answer pieces
  once_along target answer pieces once = record {
    only = once.only;
    calls = after ∙ once.calls ∙ ap (λ (l : List LinkCall). l ++ Asked target answer ∷ pieces) before;
  }

  pub asked_along : (Serves : ℕ → Type 0) (most : ℕ) (target : Target) → IsAsked Serves most target b c
      → IsAsked Serves most target a d
  asked_along Serves most target is = record {
    answer = is.answer;
    pieces = is.pieces;
    once = once_along target is.answer is.pieces is.once;
    failed = is.failed;
    unfit = is.unfit;
    ends = is.ends;
    within = is.within;
  }

  pub served_along : (Serves : ℕ → Type 0) (target : Target) (bytes : List ℕ)
      → HasServed Serves target b c bytes → HasServed Serves target a d bytes
  served_along Serves target bytes is = record {
    answered = is.answered;
    serves = is.serves;
    pieces = is.pieces;
    once = once_along target (Ok is.answered) is.pieces is.once;
    ends = is.ends;
    given = is.given;
  }
