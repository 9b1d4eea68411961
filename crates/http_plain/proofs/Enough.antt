-- From the front of a message to the whole.
use Rattle.std.proofs.Common.{◌≡◌, ◌≤◌, ◌<◌, ◌+◌, ℕ, zero, suc, min, Bool, true, false, cond, List, [], ◌∷◌, ◌++◌, length, take, drop, ltb, eqb, codes, Option, Some, None, Result, Ok, Err, refl, inl, inr, ap, sym, subst, ◌∙◌, arith, length-take}
use Rattle.std.specs.Result.{IfOk, OnErr}
use Rattle.std.specs.Option.{IfSome, IsSome}
use Rattle.std.proofs.lemmas.List.{take_all}
use Rattle.httparse.specs.Grammar.{ResponseHead, status_code}
use Rattle.http_plain.specs.declared.begun.Begun.{Begun}
use Rattle.http_plain.specs.declared.demand.Demand.{Demand}
use Rattle.http_plain.specs.declared.demand.Demand.TheVariants.{Silent, Refused}
use Rattle.http_plain.specs.declared.fault.ExchangeFault.{ExchangeFault}
use Rattle.http_plain.specs.declared.fault.ExchangeFault.TheVariants.{ReadFault, WriteFault, Cut, HeadTooLong, Malformed, Missing, Status, Encoded, NoLength, Memory}
use Rattle.http_plain.specs.declared.lengths.Named.{Named}
use Rattle.http_plain.specs.declared.refusals.Refusal.{Refusal}
use Rattle.http_plain.specs.declared.refusals.Refusal.TheVariants.{BadRequest, FieldsTooLarge}
use Rattle.http_plain.specs.declared.request.Asked.{Asked}
use Rattle.http_plain.specs.Asked.{AsksBy}
use Rattle.http_plain.specs.Begin.{Comes, IsRefusedBy}
use Rattle.http_plain.specs.Exchange.{Gives, GivesBy, given, is_encoded, length_in, named_by}
use Rattle.http_plain.specs.Fields.{pairs_of, values_of}
use Rattle.http_plain.specs.Head.{head_end, Whole, TooLong, Short, front_at, front_of, behind_head, IsEnough, IsNear}
use Rattle.http_plain.specs.declared.head.TheConstants.{HEAD_LIMIT}
use Rattle.http_plain.specs.Served.{Asks, AsksForFile, Demands, DemandsFile, IsFile, demand_of}
use Rattle.http_plain.proofs.Ends.{end_bounds, no_end}
use Rattle.http_plain.proofs.Fronts.{front_longer, behind_longer}

elim_none : (end : Option ℕ) → end ≡ None → IsSome end → ⊥
elim_none None e some = cc
elim_none (Some n) e some = cc

long_not_zero : (n : ℕ) → eqb (suc n) 0 ≡ true → ⊥
long_not_zero n e = grind arith

-- ---- the end within the limit

pub take_min : (n : ℕ) (bytes : List ℕ) → take (min (length bytes) n) bytes ≡ take n bytes
take_min zero [] = refl
take_min (suc n) [] = let none : min 0 (suc n) ≡ 0 = omega arith in ap (λ k. take {A = ℕ} k []) none
take_min zero (b ∷ bytes) = let none : min (suc (length bytes)) 0 ≡ 0 = omega arith in ap (λ k. take k (b ∷ bytes)) none
take_min (suc n) (b ∷ bytes) =
    let one : min (suc (length bytes)) (suc n) ≡ suc (min (length bytes) n) = omega arith in
    ap (λ k. take k (b ∷ bytes)) one ∙ ap (λ rest. b ∷ rest) (take_min n bytes)

pub end_in : (bytes : List ℕ) (end : Option ℕ) → end ≡ head_end (take HEAD_LIMIT bytes) → IfSome end (λ n. n ≤ length bytes)
end_in bytes None e = tt
end_in bytes (Some n) e = omega (arith, end_bounds (take HEAD_LIMIT bytes) n (sym e), length-take HEAD_LIMIT bytes)

pub front_by : (bytes : List ℕ) (end : Option ℕ) → end ≡ head_end (take HEAD_LIMIT bytes) → front_of bytes ≡ front_at bytes end
unfolding front_of
front_by bytes end e = ap (front_at bytes) (sym e)

-- ---- requests

pub asked_demands : (head : List ℕ) (asked : Asked) {E : Type 0} (r : Result Demand E) → AsksBy head (Some asked)
    → IfOk r (λ demand. demand ≡ demand_of asked) → IfOk r (Demands (Whole head))
asked_demands head asked (Ok demand) asks e = (Some asked, asks, e)
asked_demands head asked (Err fault) asks e = tt

-- a head that asks for a file
pub asked_file : (head : List ℕ) (asked : Asked) {E : Type 0} (r : Result Demand E) → AsksBy head (Some asked)
    → OnErr r (IsFile (demand_of asked)) → OnErr r (DemandsFile (Whole head))
asked_file head asked (Ok demand) asks file = tt
asked_file head asked (Err fault) asks file = record { demand = demand_of asked; demands = (Some asked, asks, refl); file = file }

pub head_file : (bytes : List ℕ) (n : ℕ) {E : Type 0} (r : Result Demand E) → Some n ≡ head_end (take HEAD_LIMIT bytes)
    → OnErr r (DemandsFile (Whole (take n bytes))) → OnErr r (DemandsFile (front_of bytes))
head_file bytes n r e file = subst (λ front. OnErr r (DemandsFile front)) (sym (front_by bytes (Some n) e)) file

pub head_demands : (bytes : List ℕ) (n : ℕ) {E : Type 0} (r : Result Demand E) → Some n ≡ head_end (take HEAD_LIMIT bytes)
    → IfOk r (Demands (Whole (take n bytes))) → IfOk r (Demands (front_of bytes))
head_demands bytes n r e demands = subst (λ front. IfOk r (Demands front)) (sym (front_by bytes (Some n) e)) demands

unended_why : (short : Bool) (why : Refusal) → why ≡ cond short BadRequest FieldsTooLarge → Demands (cond short Short TooLong) (Refused why)
unended_why true why e = ap Refused e
unended_why false why e = ap Refused e

pub unended_demands : (bytes : List ℕ) (why : Refusal) → None ≡ head_end (take HEAD_LIMIT bytes)
    → why ≡ cond (ltb (length bytes) HEAD_LIMIT) BadRequest FieldsTooLarge → Demands (front_of bytes) (Refused why)
unended_demands bytes why e is =
    subst (λ front. Demands front (Refused why)) (sym (front_by bytes None e)) (unended_why (ltb (length bytes) HEAD_LIMIT) why is)

asks_longer : (front left : List ℕ) (demand : Demand) → eqb (length front) 0 ≡ false → IsEnough front left → Demands (front_of front) demand
    → Asks (front ++ left) demand
asks_longer [] left demand some enough demands = cc
asks_longer (b ∷ front) left demand some enough demands =
    subst (λ f. Demands f demand) (sym (front_longer (b ∷ front) left enough)) demands

pub asks_in : (front : List ℕ) {E : Type 0} (r : Result Demand E) → eqb (length front) 0 ≡ false → IfOk r (Demands (front_of front))
    → IfOk r (λ demand. (left : List ℕ) → IsEnough front left → Asks (front ++ left) demand)
asks_in front (Ok demand) some demands = λ left enough. asks_longer front left demand some enough demands
asks_in front (Err fault) some demands = tt

pub file_in_front : (front : List ℕ) {E : Type 0} (r : Result Demand E) → eqb (length front) 0 ≡ false → OnErr r (DemandsFile (front_of front))
    → OnErr r ((left : List ℕ) → IsEnough front left → AsksForFile (front ++ left))
file_in_front front (Ok demand) some file = tt
file_in_front front (Err fault) some file = λ left enough.
    record { demand = file.demand; asks = asks_longer front left file.demand some enough file.demands; file = file.file }

no_end_some : IsSome (head_end []) → ⊥
no_end_some some = elim_none (head_end []) no_end some

nothing_enough : (left : List ℕ) → IsEnough [] left → left ≡ []
nothing_enough left (inl none) = none
nothing_enough left (inr (inl full)) = absurd (omega (arith, full))
nothing_enough left (inr (inr (fits, ended))) = absurd (no_end_some ended)

pub asks_nothing : (front left : List ℕ) → eqb (length front) 0 ≡ true → IsEnough front left → Asks (front ++ left) Silent
asks_nothing [] left none enough = subst (λ (l : List ℕ). Asks l Silent) (sym (nothing_enough left enough)) refl
asks_nothing (b ∷ front) left none enough = absurd (long_not_zero (length front) none)

-- ---- answers

pub judged : (h : ResponseHead) (code : ℕ) (encoded : Bool) (named : Named) (pairs : List (List ℕ × List ℕ))
    → code ≡ status_code h → pairs ≡ pairs_of h.fields → encoded ≡ is_encoded pairs → named ≡ named_by (values_of (codes "content-length") pairs)
    → given code encoded named ≡ length_in h
unfolding length_in
judged h code encoded named pairs e p q r =
    ap (λ c. given c encoded named) e
    ∙ ap (λ b. given (status_code h) b named) (q ∙ ap is_encoded p)
    ∙ ap (given (status_code h) (is_encoded (pairs_of h.fields))) (r ∙ ap (λ x. named_by (values_of (codes "content-length") x)) p)

pub gives_longer : (front left : List ℕ) (n : ℕ) (r : Result ℕ ExchangeFault) → Some n ≡ head_end (take HEAD_LIMIT front) → IsEnough front left
    → GivesBy (Whole (take n front)) r → Gives (front ++ left) r
gives_longer front left n r e enough gives =
    subst (λ f. GivesBy f r) (sym (front_longer front left enough ∙ front_by front (Some n) e)) gives

unended_gives : (short : Bool) (answer : List ℕ) (fault : ExchangeFault) → fault ≡ cond short Cut HeadTooLong → front_of answer ≡ cond short Short TooLong
    → Gives answer (Err fault)
unended_gives true answer fault is e = subst (λ f. GivesBy f (Err fault)) (sym e) (ap Err is)
unended_gives false answer fault is e = subst (λ f. GivesBy f (Err fault)) (sym e) (ap Err is)

-- a refusal that the answer gives
pub refused_by : (answer : List ℕ) (fault : ExchangeFault) → Gives answer (Err fault) → IsRefusedBy answer fault
refused_by answer ReadFault gives = tt
refused_by answer WriteFault gives = tt
refused_by answer Memory gives = tt
refused_by answer Cut gives = gives
refused_by answer HeadTooLong gives = gives
refused_by answer Malformed gives = gives
refused_by answer Missing gives = gives
refused_by answer (Status code) gives = gives
refused_by answer Encoded gives = gives
refused_by answer NoLength gives = gives

pub unended_refuses : (front left : List ℕ) (fault : ExchangeFault) → None ≡ head_end (take HEAD_LIMIT front)
    → fault ≡ cond (ltb (length front) HEAD_LIMIT) Cut HeadTooLong → IsEnough front left → IsRefusedBy (front ++ left) fault
unended_refuses front left fault e is enough =
    refused_by (front ++ left) fault
    (unended_gives (ltb (length front) HEAD_LIMIT) (front ++ left) fault is (front_longer front left enough ∙ front_by front None e))

-- the end of a head that lies within the limit
end_is : (front : List ℕ) (end : ℕ) → length front ≤ HEAD_LIMIT → Some end ≡ head_end (take HEAD_LIMIT front) → head_end front ≡ Some end
end_is front end fits e = ap head_end (sym (take_all HEAD_LIMIT front fits)) ∙ sym e

-- fewer bytes than a piece stand behind it
pub near_room : (piece : ℕ) (front : List ℕ) (end : ℕ) → length front ≤ HEAD_LIMIT → Some end ≡ head_end (take HEAD_LIMIT front)
    → IsNear piece front → length front < end + piece
near_room piece front end fits e near =
    subst (λ (found : Option ℕ). IfSome found (λ n. length front < n + piece)) (end_is front end fits e) near

-- what is left may as well stand behind all that came
take_early : (n : ℕ) (bytes left : List ℕ) → take n (take n bytes ++ left) ≡ take n (bytes ++ left)
take_early zero bytes left = refl
take_early (suc n) [] left = refl
take_early (suc n) (b ∷ bytes) left = ap (λ rest. b ∷ rest) (take_early n bytes left)

pub comes : (front left : List ℕ) (end : ℕ) (begun : Begun) (size : ℕ) → length front ≤ HEAD_LIMIT → Some end ≡ head_end (take HEAD_LIMIT front)
    → IsEnough front left → GivesBy (Whole (take end front)) (Ok size)
    → begun.length ≡ size → begun.early ≡ take size (drop end front) → Comes (front ++ left) left begun
comes front left end begun size fits e enough gives is_length is_early =
    let ends : head_end front ≡ Some end = end_is front end fits e in
    record {
      gives = subst (λ n. Gives (front ++ left) (Ok n)) (sym is_length) (gives_longer front left end (Ok size) e enough gives);
      within = omega (arith, length-take size (drop end front), ap length is_early, is_length);
      body =
          ap (λ n. take n (begun.early ++ left)) is_length
          ∙ ap (λ early. take size (early ++ left)) is_early
          ∙ take_early size (drop end front) left
          ∙ ap (take size) (sym (behind_longer front left end ends))
          ∙ ap (λ n. take n (behind_head (front ++ left))) (sym is_length);
    }
