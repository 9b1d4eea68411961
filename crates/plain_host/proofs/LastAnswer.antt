-- What is answered on a connection.
use Rattle.std.proofs.Common.{◌≡◌, ◌≢◌, ℕ, ◌≤◌, List, [], ◌∷◌, ◌++◌, length, Bool, true, false, Option, Some, None, Result, Ok, Err, ap, sym, ◌∙◌, refl, subst, inl, arith}
use Rattle.std.specs.Prelude.{◌↔◌, ◌||◌, not, codes, if◌then◌else◌}
use Rattle.std.specs.Result.{IsErr, IsErrAnd}
use Rattle.std.specs.Str.{bytes_eq}
use Rattle.std.proofs.lemmas.Grind.{common_steps}
use Rattle.std.proofs.lemmas.Slice.Eq.{bytes_eq-Decides}
use Rattle.connections.specs.Door.{Accepted}
use Rattle.folders.specs.declared.folder.Held.{Held}
use Rattle.folders.specs.Files.{file_in, is_named}
use Rattle.http_plain.specs.declared.demand.Demand.{Demand}
use Rattle.http_plain.specs.declared.demand.Demand.TheVariants.{File, Refused}
use Rattle.http_plain.specs.declared.refusals.Refusal.TheVariants.{BadRequest, MethodNotAllowed}
use Rattle.http_plain.specs.declared.request.Asked.{Asked}
use Rattle.http_plain.specs.Head.{IsEnough, Front, Whole, TooLong, Short, front_of}
use Rattle.http_plain.specs.declared.head.TheConstants.{HEAD_LIMIT}
use Rattle.http_plain.specs.Path.{name_in_path}
use Rattle.http_plain.specs.Served.{Asks, AsksForFile, Demands, Answer, answer_of, found_answer, demand_by, demand_of, file_demand, lacks_host, is_get, Serves}
use Rattle.plain_host.specs.declared.answer.Prepared.{Prepared}
use Rattle.plain_host.specs.declared.answer.Prepared.TheVariants.{Nothing, Found}
use Rattle.plain_host.specs.declared.answer.Prepared.TheVariants.{Refused as refused}
use Rattle.plain_host.specs.declared.fault.Served.{Served}
use Rattle.plain_host.specs.declared.fault.Served.TheVariants.{Answered, Silent}
use Rattle.plain_host.specs.Prepared.{answer_in, Answers, AnswersFront, FrontAsksFile, served_by}
use Rattle.plain_host.specs.Connection.{AsksFile, Serving, SendsPart, TakesFront, ServesLast, ServesPart, ServesSome, SilentAtEnd, answered_code}
use Rattle.plain_host.proofs.Steps.{joined}

-- a folder of one file
pub one_file : (name bytes : List ℕ) → file_in name (record { name = name; bytes = bytes } ∷ []) ≡ Some bytes
one_file name bytes =
    let file : Held = record { name = name; bytes = bytes } in
    let same : is_named name file ≡ true = (bytes_eq-Decides name name).1 refl in
    grind (arith, common_steps)

-- a file that was read makes the answer with it
pub found_known : (files : List Held) (name into sent : List ℕ) (whole found : Bool) (p : Prepared) → sent ≡ into → found ≡ true
    → file_in name files ≡ (if found then Some into else None) → answer_in p sent ≡ found_answer name whole (Some sent)
    → Answers files (File name whole) p into
found_known files name into sent whole found p same holds is made =
    subst (λ (f : List ℕ). answer_in p f ≡ found_answer name whole (Some f)) same made
    ∙ ap (found_answer name whole) (sym (is ∙ ap (λ (b : Bool). if b then Some into else None) holds))

-- ---- when there is no answer

-- there is a code
abbrev has_code : Option ℕ → Type 0
has_code code = code ≡ None → ⊥

found_code : (name : List ℕ) (whole : Bool) (found : Option (List ℕ)) → has_code (found_answer name whole found).code
found_code name whole None none = cc
found_code name whole (Some bytes) none = cc

file_code : (files : List Held) (whole : Bool) (name : Option (List ℕ)) → has_code (answer_of files (file_demand whole name)).code
file_code files whole None none = cc
file_code files whole (Some name) none = found_code name whole (file_in name files) none

choice_code : (files : List Held) (a b : Bool) (whole : Bool) (name : Option (List ℕ))
    → has_code (answer_of files (if a then Refused BadRequest else if b then Refused MethodNotAllowed else file_demand whole name)).code
choice_code files true b whole name none = cc
choice_code files false true whole name none = cc
choice_code files false false whole name none = file_code files whole name none

asked_code : (files : List Held) (asked : Option Asked) → has_code (answer_of files (demand_by asked)).code
unfolding demand_of
asked_code files None none = cc
asked_code files (Some asked) none =
    choice_code files (lacks_host asked) (not (is_get asked.method || bytes_eq asked.method (codes "HEAD"))) (is_get asked.method) (name_in_path asked.target) none

front_code : (files : List Held) (front : Front) (demand : Demand) → Demands front demand → has_code (answer_of files demand).code
front_code files TooLong demand is none = let same = ap (λ (d : Demand). (answer_of files d).code) is in cc
front_code files Short demand is none = let same = ap (λ (d : Demand). (answer_of files d).code) is in cc
front_code files (Whole head) demand is none =
    asked_code files is.0 (sym (ap (λ (d : Demand). (answer_of files d).code) is.2) ∙ none)

no_code : (files : List Held) (request : List ℕ) (demand : Demand) → Asks request demand → (answer_of files demand).code ≡ None → request ≡ []
no_code files [] demand asks none = refl
no_code files (b ∷ bytes) demand asks none = absurd (front_code files (front_of (b ∷ bytes)) demand asks none)

empty_code : (files : List Held) (request : List ℕ) (demand : Demand) → Asks request demand → request ≡ [] → (answer_of files demand).code ≡ None
empty_code files [] demand asks none = ap (λ (d : Demand). (answer_of files d).code) asks
empty_code files (b ∷ bytes) demand asks none = cc

silent_code : (served : Served) → answered_code served ≡ None → served ≡ Silent
silent_code (Answered code) none = cc
silent_code Silent none = refl

-- the code of an answer is that with which a connection is served
pub code_known : (p : Prepared) (file : List ℕ) → answered_code (served_by p) ≡ (answer_in p file).code
code_known Nothing file = refl
code_known (refused why) file = refl
code_known (Found first follows) file = refl

silent_exact : (files : List Held) (request file : List ℕ) (p : Prepared) → Serves files request (answer_in p file) → (served_by p ≡ Silent) ↔ (request ≡ [])
silent_exact files request file p s =
    let code : answered_code (served_by p) ≡ (answer_of files s.demand).code = code_known p file ∙ ap (λ (a : Answer). a.code) s.answers in
    (λ is. no_code files request s.demand s.asks (sym code ∙ ap answered_code is), λ none. silent_code (served_by p) (code ∙ empty_code files request s.demand s.asks none))

-- ---- what was sent

module _ (files : List Held) (old mid new : List Accepted) (front file : List ℕ) (p : Prepared) (served : Served) (is : served ≡ served_by p) (few : length front ≤ HEAD_LIMIT) (t : TakesFront old mid front) (a : AnswersFront files front p file) where
  serves : Serves files t.taken.last.left (answer_in p file)
  serves = subst (λ (r : List ℕ). Serves files r (answer_in p file)) (sym t.taken.split) (a t.taken.left t.enough)

  pub serves_last : Serving mid new [] (answer_in p file).bytes → ServesLast files old new (answered_code served)
  serves_last s = record {
    front = front;
    few = few;
    near = t.near;
    bytes = (answer_in p file).bytes;
    sent = joined old mid new front [] (answer_in p file).bytes t.taken s;
    enough = t.enough;
    serves = subst (λ (code : Option ℕ). Serves files t.taken.last.left (record { code = code; bytes = (answer_in p file).bytes })) (sym (ap answered_code is ∙ code_known p file)) serves;
  }

  pub serves_part : SendsPart mid new (answer_in p file).bytes → ServesPart files old new
  serves_part s = record {
    front = front;
    few = few;
    near = t.near;
    answer = answer_in p file;
    done = s.front.done;
    rest = s.rest;
    given = s.front.given;
    some = s.some;
    sent = joined old mid new front [] s.front.done t.taken s.front.sent;
    enough = t.enough;
    serves = serves;
  }

  pub silent_at_end : SilentAtEnd old served
  silent_at_end = record {
    earlier = t.taken.earlier;
    last = t.taken.last;
    before = t.taken.before;
    exact = subst (λ (s : Served). (s ≡ Silent) ↔ (t.taken.last.left ≡ [])) (sym is) (silent_exact files t.taken.last.left file p serves);
  }

-- a request that ends with what was read
pub serves_some : (files : List Held) (front file : List ℕ) (p : Prepared) (served : Served) → served ≡ served_by p → AnswersFront files front p file
    → ServesSome files (answered_code served)
serves_some files front file p served is a = record {
  request = front ++ [];
  bytes = (answer_in p file).bytes;
  serves = subst (λ (code : Option ℕ). Serves files (front ++ []) (record { code = code; bytes = (answer_in p file).bytes })) (sym (ap answered_code is ∙ code_known p file)) (a [] (inl refl));
}

-- a request whose front asks for a file asks for it
pub asks_file : (old new : List Accepted) (front : List ℕ) → length front ≤ HEAD_LIMIT → TakesFront old new front → FrontAsksFile front → AsksFile old new
asks_file old new front few t asks =
    let asked : AsksForFile t.taken.last.left = subst AsksForFile (sym t.taken.split) (asks t.taken.left t.enough) in
    record {
      front = front;
      few = few;
      near = t.near;
      taken = t.taken;
      name = asked.file.name;
      whole = asked.file.whole;
      asks = subst (λ (d : Demand). Asks t.taken.last.left d) asked.file.is asked.asks;
    }
