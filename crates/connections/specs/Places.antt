-- What was received of requests.
use Rattle.std.specs.Prelude.{◌≡◌, ℕ, List, [], ◌∷◌, ◌++◌, length, drop, slice_index_or}
use Rattle.connections.specs.Door.{Accepted}
use Rattle.outside.specs.Streams.{Consumes}

-- a connection of whose request so many bytes were received
abbrev pub connection : ℕ → List ℕ → List ℕ → Accepted
connection place request sent = record { request = request; left = drop place request; sent = sent }

-- the connections, by how much was received of each request and by what was sent on each
abbrev pub accepted_of : List ℕ → List (List ℕ) → List (List ℕ) → List Accepted
accepted_of [] _ _ = []
accepted_of (place ∷ places) [] _ = []
accepted_of (place ∷ places) (request ∷ requests) [] = []
accepted_of (place ∷ places) (request ∷ requests) (one ∷ sent) =
    connection place request one ∷ accepted_of places requests sent

-- the request behind those of the earlier connections
abbrev pub last_request : List (List ℕ) → List ℕ → List ℕ
last_request requests earlier = slice_index_or requests (length earlier) []

-- the first n bytes that were left of the last request stand in the buffer
pub record ReceivesAt (requests : List (List ℕ)) (old new buf : List ℕ) (n : ℕ) : Type 0 where
  pub earlier : List ℕ
  pub place : ℕ
  pub next : ℕ
  pub before : old ≡ earlier ++ place ∷ []
  pub after : new ≡ earlier ++ next ∷ []
  pub given : Consumes (drop place (last_request requests earlier))
      (drop next (last_request requests earlier)) buf n
