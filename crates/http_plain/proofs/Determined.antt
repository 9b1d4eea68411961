-- What the definitions determine.
use Rattle.std.proofs.Common.{◌≡◌, ℕ, List, [], ◌∷◌, Option, Some, None, Result, refl, ap, sym, ◌∙◌}
use Rattle.httparse.specs.Grammar.{RequestHead, ResponseHead}
use Rattle.httparse.proofs.GrammarLemmas.{request_unique, response_unique}
use Rattle.folders.specs.declared.folder.Held.{Held}
use Rattle.http_plain.specs.declared.demand.Demand.{Demand}
use Rattle.http_plain.specs.declared.fault.ExchangeFault.{ExchangeFault}
use Rattle.http_plain.specs.declared.request.Asked.{Asked}
use Rattle.http_plain.specs.Asked.{AsksBy, IsRequest, asked_of}
use Rattle.http_plain.specs.Exchange.{Gives, GivesBy, IsHeadBy, IsResponse, length_by}
use Rattle.http_plain.specs.Head.{Front, Whole, TooLong, Short, front_of}
use Rattle.http_plain.specs.Served.{Asks, Demands, demand_by, Answer, answer_of, Serves}

pub one_request : (bytes : List ℕ) (h k : RequestHead) → IsRequest bytes h → IsRequest bytes k → h ≡ k
one_request bytes h k x y = (request_unique bytes h k [] [] x.reads y.reads).0

pub one_response : (bytes : List ℕ) (h k : ResponseHead) → IsResponse bytes h → IsResponse bytes k → h ≡ k
one_response bytes h k x y = (response_unique bytes h k [] [] x.reads y.reads).0

one_asked : (head : List ℕ) (a b : Option Asked) → AsksBy head a → AsksBy head b → a ≡ b
one_asked head None None x y = refl
one_asked head None (Some b) x y = absurd (x y.0 y.1)
one_asked head (Some a) None x y = absurd (y x.0 x.1)
one_asked head (Some a) (Some b) x y =
    ap Some (x.2 ∙ ap asked_of (one_request head x.0 y.0 x.1 y.1) ∙ sym y.2)

one_by_front : (front : Front) (one other : Demand) → Demands front one → Demands front other → one ≡ other
one_by_front (Whole head) one other x y = x.2 ∙ ap demand_by (one_asked head x.0 y.0 x.1 y.1) ∙ sym y.2
one_by_front TooLong one other x y = x ∙ sym y
one_by_front Short one other x y = x ∙ sym y

pub one_demand : (request : List ℕ) (one other : Demand) → Asks request one → Asks request other → one ≡ other
one_demand [] one other x y = x ∙ sym y
one_demand (b ∷ bytes) one other x y = one_by_front (front_of (b ∷ bytes)) one other x y

pub one_answer : (files : List Held) (request : List ℕ) (one other : Answer)
    → Serves files request one → Serves files request other → one ≡ other
one_answer files request one other x y =
    x.answers ∙ ap (answer_of files) (one_demand request x.demand y.demand x.asks y.asks) ∙ sym y.answers

one_head : (head : List ℕ) (a b : Option ResponseHead) → IsHeadBy head a → IsHeadBy head b → a ≡ b
one_head head None None x y = refl
one_head head None (Some b) x y = absurd (x b y)
one_head head (Some a) None x y = absurd (y a x)
one_head head (Some a) (Some b) x y = ap Some (one_response head a b x y)

one_given : (front : Front) (one other : Result ℕ ExchangeFault) → GivesBy front one → GivesBy front other → one ≡ other
one_given (Whole head) one other x y = x.2 ∙ ap length_by (one_head head x.0 y.0 x.1 y.1) ∙ sym y.2
one_given TooLong one other x y = x ∙ sym y
one_given Short one other x y = x ∙ sym y

pub one_outcome : (answer : List ℕ) (one other : Result ℕ ExchangeFault) → Gives answer one → Gives answer other → one ≡ other
one_outcome answer one other x y = one_given (front_of answer) one other x y
