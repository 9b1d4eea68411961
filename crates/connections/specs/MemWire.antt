use Rattle.std.specs.Prelude.{◌≡◌, ℕ, List, ◌∷◌, Bool, Option, Some, length, drop}
use Rattle.outside.specs.FailingCalls.{fails_next}
use Rattle.connections.specs.declared.mem_wire.MemWire.{MemWire}
use Rattle.connections.specs.Present.{present_of, over_of}
use Rattle.connections.specs.Wire.{Made, begun}

-- what the connections to come answer
abbrev pub wire_answers : MemWire → List (List ℕ)
wire_answers w = drop (length w.sent) w.answers

-- what was sent on the connections that are over
abbrev pub wire_over : MemWire → List (List ℕ)
wire_over w = over_of w.present w.sent

-- the present connection
abbrev pub wire_present : MemWire → Option Made
wire_present w = present_of w.present w.sent

abbrev pub wire_faults : MemWire → ℕ
wire_faults w = w.failing.faults

-- how many calls failed for want of memory
abbrev pub wire_starved : MemWire → ℕ
wire_starved w = w.starved

-- how many calls there were
abbrev pub wire_calls : MemWire → ℕ
wire_calls w = w.failing.calls

-- the numbers of the calls that are to fail
abbrev pub wire_failing : MemWire → List ℕ
wire_failing w = w.failing.numbers

-- whether the next call is one of them
abbrev pub wire_fails : MemWire → Bool
wire_fails w = fails_next w.failing

-- the connection to the host's port that gives the next answer was made
pub record ConnectsNext (host : List ℕ) (port : ℕ) (old new : MemWire) : Type 0 where
  pub answer : List ℕ
  pub answers : wire_answers old ≡ answer ∷ wire_answers new
  pub made : wire_present new ≡ Some (begun host port answer)
