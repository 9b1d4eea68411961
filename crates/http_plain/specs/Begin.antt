-- How an exchange begins on a wire.
use Rattle.std.specs.Prelude.{◌≡◌, ◌≢◌, ◌<◌, ◌≤◌, ◌+◌, ◌⊎◌, ℕ, List, ◌++◌, length, take, Option, Some, None, Result, Ok, Err, IfErr, IfSome}
use Rattle.outside.specs.Streams.{Rose}
use Rattle.small_types.specs.declared.target.Target.{Target}
use Rattle.connections.specs.Wire.{Made}
use Rattle.http_plain.specs.declared.begun.Begun.{Begun}
use Rattle.http_plain.specs.declared.fault.ExchangeFault.{ExchangeFault}
use Rattle.http_plain.specs.declared.fault.ExchangeFault.TheVariants.{ReadFault, WriteFault, Memory}
use Rattle.http_plain.specs.Exchange.{Gives, request_text}
use Rattle.http_plain.specs.Head.{behind_head, head_end, IsEnough, IsNear}
use Rattle.http_plain.specs.declared.exchange.TheConstants.{ANSWER_PIECE}
use Rattle.http_plain.specs.declared.head.TheConstants.{HEAD_LIMIT}

-- the connection leads to the target's host and port, and exactly the request for the target was
-- sent there
pub record IsAsked (target : Target) (made : Made) : Type 0 where
  pub host : made.host ≡ target.host
  pub port : made.port ≡ target.port
  pub sent : made.sent ≡ request_text target

-- sending failed: a first part of the request for the target was sent, and not all, and nothing of
-- the answer was received
pub record IsHalfAsked (target : Target) (made : Made) : Type 0 where
  pub host : made.host ≡ target.host
  pub port : made.port ≡ target.port
  pub rest : List ℕ
  pub some : 0 < length rest
  pub sent : request_text target ≡ made.sent ++ rest
  pub none : made.left ≡ made.answer

-- receiving failed: the whole request was sent, and what was received of the answer is shorter than
-- a head may be, and has no end of one
pub record IsHalfHeard (target : Target) (made : Made) : Type 0 where
  pub asked : IsAsked target made
  pub front : List ℕ
  pub given : made.answer ≡ front ++ made.left
  pub few : length front < HEAD_LIMIT
  pub none : head_end front ≡ None

-- the present connection was made, and it is so
abbrev pub IsMade : (Made → Type 0) → Option Made → Type 0
IsMade P present = (made : Made) × (present ≡ Some made) × P made

-- the body of the answer, up to its length, is what came early and then what is left
pub record Comes (answer left : List ℕ) (begun : Begun) : Type 0 where
  pub gives : Gives answer (Ok begun.length)
  pub within : length begun.early ≤ begun.length
  pub body : take begun.length (begun.early ++ left) ≡ take begun.length (behind_head answer)

-- a refusal is what the answer gives; a fault of the wire and want of memory say nothing of the
-- answer
abbrev pub IsRefusedBy : List ℕ → ExchangeFault → Type 0
IsRefusedBy answer ReadFault = Unit {0}
IsRefusedBy answer WriteFault = Unit {0}
IsRefusedBy answer Memory = Unit {0}
IsRefusedBy answer fault = Gives answer (Err fault)

-- what came of an answer
abbrev pub Answers : List ℕ → List ℕ → Result Begun ExchangeFault → Type 0
Answers answer left (Ok begun) = Comes answer left begun
Answers answer left (Err fault) = IsRefusedBy answer fault

-- what came of the exchange for a target over a present connection, of whose answer at most 65,536
-- bytes were received, and no piece once the end of the head had come
pub record Exchanges (target : Target) (present : Option Made) (result : Result Begun ExchangeFault)
    : Type 0 where
  pub made : Made
  pub is : present ≡ Some made
  pub asked : IsAsked target made
  pub answers : Answers made.answer made.left result
  pub received : length made.answer ≤ length made.left + HEAD_LIMIT
  pub near : IfSome (head_end made.answer)
      (λ end. length made.answer < length made.left + end + ANSWER_PIECE)

-- there is a present connection of this exchange, of which less is said where the wire failed, and
-- nothing where memory ran out; there is none where connecting failed
abbrev pub ExchangesBy : Target → Option Made → Result Begun ExchangeFault → Type 0
ExchangesBy target present (Err ReadFault) =
    (present ≡ None) ⊎ IsMade (IsHalfHeard target) present
ExchangesBy target present (Err WriteFault) = IsMade (IsHalfAsked target) present
ExchangesBy target present (Err Memory) = Unit {0}
ExchangesBy target present result = Exchanges target present result

-- a count of faults never falls; the two faults of a wire come only where it rose, and all else
-- leaves it
pub record FailsCounted {T : Type 0} (old new : ℕ) (result : Result T ExchangeFault) : Type 0 where
  pub later : old ≤ new
  pub read : IfErr result (λ e. e ≡ ReadFault → Rose old new)
  pub write : IfErr result (λ e. e ≡ WriteFault → Rose old new)
  pub quiet : result ≢ Err ReadFault → result ≢ Err WriteFault → new ≡ old

-- an error that the answer alone decides
abbrev pub IsOwn : ExchangeFault → Type 0
IsOwn ReadFault = ⊥
IsOwn WriteFault = ⊥
IsOwn Memory = ⊥
IsOwn _ = Unit {0}

-- ---- on the way

-- the connection has sent these bytes besides
abbrev pub IsSent : Made → Option Made → List ℕ → Type 0
IsSent made now bytes = now ≡ Some (record made { sent = made.sent ++ bytes })

-- some of the bytes were sent, and the rest was not yet
pub record IsSending (made : Made) (now : Option Made) (bytes rest : List ℕ) : Type 0 where
  pub done : List ℕ
  pub split : bytes ≡ done ++ rest
  pub sent : IsSent made now done

-- these bytes of what the connection had left were received
pub record IsRead (made : Made) (now : Option Made) (bytes : List ℕ) : Type 0 where
  pub left : List ℕ
  pub after : now ≡ Some (record made { left = left })
  pub given : made.left ≡ bytes ++ left

-- and they are enough of an answer, with no piece behind the end of its head
pub record IsReadFront (made : Made) (now : Option Made) (bytes : List ℕ) : Type 0 where
  pub left : List ℕ
  pub after : now ≡ Some (record made { left = left })
  pub given : made.left ≡ bytes ++ left
  pub enough : IsEnough bytes left
  pub near : IsNear ANSWER_PIECE bytes

-- a first part of the bytes was sent besides, and not all
pub record IsSentPart (made : Made) (now : Option Made) (bytes : List ℕ) : Type 0 where
  pub rest : List ℕ
  pub some : 0 < length rest
  pub sending : IsSending made now bytes rest

-- what was received is shorter than a head may be, and has no end of one
pub record IsReadPart (made : Made) (now : Option Made) : Type 0 where
  pub front : List ℕ
  pub read : IsRead made now front
  pub few : length front < HEAD_LIMIT
  pub none : head_end front ≡ None
