-- What a link over HTTP shows.
use Rattle.std.specs.Prelude.{◌≡◌, ℕ, List, [], ◌++◌, take, drop, Option, Some, None}
use Rattle.outside.specs.Streams.{total}
use Rattle.connections.specs.Wire.{Made}
use Rattle.links.specs.declared.history.LinkCall.{LinkCall}
use Rattle.links.specs.History.{calls_of}
use Rattle.links.specs.Link.{LinkState}
use Rattle.http_link.specs.declared.link.HttpLink.{HttpLink}
use Rattle.http_link.specs.Counts.{Tally}

-- what the present connection has left
abbrev pub left_on : Option Made → List ℕ
left_on None = []
left_on (Some made) = made.left

abbrev pub wire_of : {W : Type 0} → HttpLink W → W
wire_of link = link.wire

-- how many bytes of the body that was asked for last are to come
abbrev pub owed : {W : Type 0} → HttpLink W → ℕ
owed link = link.left

-- how often an answer was of no use
abbrev pub unread_of : {W : Type 0} → HttpLink W → ℕ
unread_of link = link.unread

-- what it was asked
abbrev pub history_of : {W : Type 0} → HttpLink W → List LinkCall
history_of link = calls_of link.history

-- nothing changed but what is noted of its calls
abbrev pub OnlyNotes : {W : Type 0} → HttpLink W → HttpLink W → Type 0
OnlyNotes old new = new ≡ record old { history = new.history }

-- what is to be had next, by the present connection of the wire: the bytes of the body that came
-- early and were not given yet, and then what the connection has left
abbrev pub coming : {W : Type 0} → Option Made → HttpLink W → List ℕ
coming present link = drop link.at link.early ++ left_on present

-- what is left of the body: as much of that as was answered
abbrev pub body_left : {W : Type 0} → Option Made → HttpLink W → List ℕ
body_left present link = take link.left (coming present link)

-- what is counted, by how often the wire failed
abbrev pub tally : {W : Type 0} → ℕ → HttpLink W → Tally
tally count link = record { wire = count; unread = link.unread }

-- the link, by the present connection of its wire and how often that failed; it tells no site
abbrev pub http_state : {W : Type 0} → Option Made → ℕ → HttpLink W → LinkState
http_state present count link =
    record {
      tells = ⊥;
      site = λ target. None;
      rest = body_left present link;
      count = total count link.unread;
      history = history_of link;
    }
