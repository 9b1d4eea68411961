use Rattle.std.specs.Prelude.{◌≡◌, ℕ, List, [], ◌∷◌, ◌++◌, Bool, length, drop}
use Rattle.outside.specs.FailingCalls.{fails_next}
use Rattle.connections.specs.declared.mem_door.MemDoor.{MemDoor}
use Rattle.connections.specs.Door.{Accepted, fresh}
use Rattle.connections.specs.Places.{accepted_of}

-- the connections that were accepted
abbrev pub door_accepted : MemDoor → List Accepted
door_accepted d = accepted_of d.places.items d.requests d.sent

-- what the connections to come request
abbrev pub door_requests : MemDoor → List (List ℕ)
door_requests d = drop (length d.places.items) d.requests

-- what was sent on each connection
abbrev pub door_sent : MemDoor → List (List ℕ)
door_sent d = d.sent

abbrev pub door_faults : MemDoor → ℕ
door_faults d = d.failing.faults

abbrev pub door_missed : MemDoor → ℕ
door_missed d = d.missed

-- how many calls failed for want of memory
abbrev pub door_starved : MemDoor → ℕ
door_starved d = d.starved

-- how many calls there were
abbrev pub door_calls : MemDoor → ℕ
door_calls d = d.failing.calls

-- the numbers of the calls that are to fail
abbrev pub door_failing : MemDoor → List ℕ
door_failing d = d.failing.numbers

-- whether the next call is one of them
abbrev pub door_fails : MemDoor → Bool
door_fails d = fails_next d.failing

-- the connection of the next request was accepted
pub record AcceptsNext (old new : MemDoor) : Type 0 where
  pub request : List ℕ
  pub requests : door_requests old ≡ request ∷ door_requests new
  pub made : door_accepted new ≡ door_accepted old ++ fresh request ∷ []
