-- The present connection of a client in memory.
use Rattle.std.specs.Prelude.{◌≡◌, ℕ, ◌-◌, List, [], Option, Some, None, length, take, drop, slice_index_or}
use Rattle.connections.specs.declared.mem_wire.Present.{Present}
use Rattle.connections.specs.Wire.{Made}
use Rattle.outside.specs.Streams.{Consumes}

-- the present connection, on which the last of these was sent
abbrev pub present_of : Option Present → List (List ℕ) → Option Made
present_of None sent = None
present_of (Some p) sent =
    Some (record {
      host = p.host;
      port = p.port;
      answer = p.answer;
      left = drop p.place p.answer;
      sent = slice_index_or sent (length sent - 1) [];
    })

-- what was sent on the connections that are over
abbrev pub over_of : Option Present → List (List ℕ) → List (List ℕ)
over_of None sent = sent
over_of (Some p) sent = take (length sent - 1) sent

-- the first n bytes that were left of the answer stand in the buffer
pub record ReceivesHere (old new : Option Present) (buf : List ℕ) (n : ℕ) : Type 0 where
  pub here : Present
  pub next : ℕ
  pub before : old ≡ Some here
  pub after : new ≡ Some (record here { place = next })
  pub given : Consumes (drop here.place here.answer) (drop next here.answer) buf n
