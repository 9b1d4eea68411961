-- What the calls of a client's connections do.
use Rattle.std.specs.Prelude.{◌≡◌, ℕ, List, [], ◌∷◌, ◌++◌, Option, Some, None}
use Rattle.outside.specs.Streams.{Consumes}

-- a connection: where it leads, all that the other side sends, what is left of that to receive, and
-- what was sent
pub record Made : Type 0 where
  pub host : List ℕ
  pub port : ℕ
  pub answer : List ℕ
  pub left : List ℕ
  pub sent : List ℕ

-- a connection on which nothing was received or sent
abbrev pub begun : List ℕ → ℕ → List ℕ → Made
begun host port answer =
    record { host = host; port = port; answer = answer; left = answer; sent = [] }

-- what was sent on each connection, the present one last, if there is one
abbrev pub all_sent : List (List ℕ) → Option Made → List (List ℕ)
all_sent over None = over
all_sent over (Some c) = over ++ c.sent ∷ []

-- the present connection leads there, and nothing was received or sent on it
pub record Connects (host : List ℕ) (port : ℕ) (new : Option Made) : Type 0 where
  pub answer : List ℕ
  pub made : new ≡ Some (begun host port answer)

-- the first n bytes that the present connection had left stand in the buffer
pub record Receives (old new : Option Made) (buf : List ℕ) (n : ℕ) : Type 0 where
  pub last : Made
  pub left : List ℕ
  pub before : old ≡ Some last
  pub after : new ≡ Some (record last { left = left })
  pub given : Consumes last.left left buf n

-- the bytes were sent on the present connection
pub record Sends (old new : Option Made) (bytes : List ℕ) : Type 0 where
  pub last : Made
  pub before : old ≡ Some last
  pub after : new ≡ Some (record last { sent = last.sent ++ bytes })

-- the bytes were added to the last piece, and nothing to the others
pub record SendsLast (old new : List (List ℕ)) (bytes : List ℕ) : Type 0 where
  pub earlier : List (List ℕ)
  pub last : List ℕ
  pub before : old ≡ earlier ++ last ∷ []
  pub after : new ≡ earlier ++ (last ++ bytes) ∷ []
