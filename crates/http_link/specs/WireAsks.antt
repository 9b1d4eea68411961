-- What comes of asking over a wire.
use Rattle.std.specs.Prelude.{◌≡◌, ◌⊎◌, ◌<◌, ◌+◌, ℕ, Bool, true, false, List, length, take, Option, Result, Ok, Err, IfOk, IfSome}
use Rattle.small_types.specs.declared.target.Target.{Target}
use Rattle.connections.specs.Wire.{Made}
use Rattle.http_plain.specs.declared.fault.ExchangeFault.{ExchangeFault}
use Rattle.http_plain.specs.declared.fault.ExchangeFault.TheVariants.{ReadFault, WriteFault, Missing as NotFound, Memory as NoMemory}
use Rattle.http_plain.specs.Begin.{ExchangesBy, IsAsked, IsMade}
use Rattle.http_plain.specs.Exchange.{Gives}
use Rattle.http_plain.specs.declared.exchange.TheConstants.{ANSWER_PIECE}
use Rattle.http_plain.specs.Head.{behind_head, head_end}
use Rattle.links.specs.declared.link.LinkFault.{LinkFault}
use Rattle.links.specs.declared.link.LinkFault.TheVariants.{Missing, Down, Memory}
use Rattle.http_link.specs.Counts.{Tally, IsOfAnswer, IsOfWire}

-- what a fault of an exchange is to a link
abbrev pub fault_of : ExchangeFault → LinkFault
fault_of NotFound = Missing
fault_of NoMemory = Memory
fault_of _ = Down

abbrev pub is_memory : ExchangeFault → Bool
is_memory NoMemory = true
is_memory _ = false

-- an answer is refused: the wire did not fail, and there was memory
abbrev pub is_refusal : ExchangeFault → Bool
is_refusal ReadFault = false
is_refusal WriteFault = false
is_refusal NoMemory = false
is_refusal _ = true

-- what a link answers where an answer gives this
abbrev pub heard : Result ℕ ExchangeFault → Result ℕ LinkFault
heard (Ok n) = Ok n
heard (Err fault) = Err (fault_of fault)

-- exactly the request for the target was sent on this connection, to its host and port; the result
-- is what the answer gives, and where that is a length, what stands behind the answer's head, up to
-- this length, is the rest; no piece of the answer was received once the end of its head had come
pub record IsHeard (target : Target) (rest : List ℕ) (result : Result ℕ LinkFault) (made : Made)
    : Type 0 where
  pub asked : IsAsked target made
  pub outcome : Result ℕ ExchangeFault
  pub gives : Gives made.answer outcome
  pub told : result ≡ heard outcome
  pub body : IfOk result (λ n. rest ≡ take n (behind_head made.answer))
  pub near : IfSome (head_end made.answer)
      (λ end. length made.answer < length made.left + end + ANSWER_PIECE)

-- the wire failed: no connection was made, or the request was sent in part, or the head did not
-- come whole
pub record IsLost (target : Target) (present : Option Made) (old new : Tally) : Type 0 where
  pub raised : IsOfWire old new
  pub cut : ExchangesBy target present (Err ReadFault) ⊎ ExchangesBy target present (Err WriteFault)

-- the answer was refused
pub record IsRefused (target : Target) (present : Option Made) (rest : List ℕ) (old new : Tally)
    : Type 0 where
  pub raised : IsOfAnswer old new
  pub heard : IsMade (IsHeard target rest (Err Down)) present

-- what comes of asking for a target over a wire that tells: by the present connection and what is
-- left of the body afterwards, and by what was counted before and after
abbrev pub AsksOverWire
    : Target → Option Made → List ℕ → Tally → Tally → Result ℕ LinkFault → Type 0
AsksOverWire target present rest old new (Ok n) = IsMade (IsHeard target rest (Ok n)) present
AsksOverWire target present rest old new (Err Missing) =
    IsMade (IsHeard target rest (Err Missing)) present
AsksOverWire target present rest old new (Err Down) =
    IsLost target present old new ⊎ IsRefused target present rest old new
AsksOverWire target present rest old new (Err Memory) = Unit {0}

-- how many bytes are to come: as many as were answered, and none where the target was not served
abbrev pub Owes : ℕ → Result ℕ LinkFault → Type 0
Owes left (Ok n) = left ≡ n
Owes left (Err Missing) = left ≡ 0
Owes left (Err Down) = left ≡ 0
Owes left (Err Memory) = Unit {0}
