-- What the calls of a host's connections do.
use Rattle.std.specs.Prelude.{◌≡◌, ℕ, List, [], ◌∷◌, ◌++◌}
use Rattle.outside.specs.Streams.{Consumes}

-- a connection: its whole request, what is left of it to receive, and what was sent
pub record Accepted : Type 0 where
  pub request : List ℕ
  pub left : List ℕ
  pub sent : List ℕ

-- a connection on which nothing was received or sent
abbrev pub fresh : List ℕ → Accepted
fresh request = record { request = request; left = request; sent = [] }

-- one more connection was accepted
pub record Accepts (old new : List Accepted) : Type 0 where
  pub request : List ℕ
  pub made : new ≡ old ++ fresh request ∷ []

-- the first n bytes that the last connection had left stand in the buffer
pub record ReceivesOnLast (old new : List Accepted) (buf : List ℕ) (n : ℕ) : Type 0 where
  pub earlier : List Accepted
  pub last : Accepted
  pub left : List ℕ
  pub before : old ≡ earlier ++ last ∷ []
  pub after : new ≡ earlier ++ record last { left = left } ∷ []
  pub given : Consumes last.left left buf n

-- the bytes were sent on the last connection
pub record SendsOnLast (old new : List Accepted) (bytes : List ℕ) : Type 0 where
  pub earlier : List Accepted
  pub last : Accepted
  pub before : old ≡ earlier ++ last ∷ []
  pub after : new ≡ earlier ++ record last { sent = last.sent ++ bytes } ∷ []
