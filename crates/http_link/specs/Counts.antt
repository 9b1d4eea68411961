-- What a link over HTTP counts.
use Rattle.std.specs.Prelude.{◌≡◌, ◌⊎◌, ℕ, Result, Ok, Err}
use Rattle.outside.specs.Streams.{Rose, total}
use Rattle.links.specs.declared.link.LinkFault.{LinkFault}
use Rattle.links.specs.declared.link.LinkFault.TheVariants.{Missing, Down, Memory}

-- how often the wire failed, and how often an answer was of no use: it was refused, or its body
-- ended early
pub record Tally : Type 0 where
  pub wire : ℕ
  pub unread : ℕ

-- nothing is counted
pub record Unraised (old new : Tally) : Type 0 where
  pub wire : new.wire ≡ old.wire
  pub unread : new.unread ≡ old.unread

-- the wire failed, and the link counts nothing besides
pub record IsOfWire (old new : Tally) : Type 0 where
  pub wire : Rose old.wire new.wire
  pub unread : new.unread ≡ old.unread

-- an answer was of no use, and the wire did not fail
pub record IsOfAnswer (old new : Tally) : Type 0 where
  pub wire : new.wire ≡ old.wire
  pub unread : new.unread ≡ total old.unread 1

-- what asking counts
abbrev pub CountsAsk : Tally → Tally → Result ℕ LinkFault → Type 0
CountsAsk old new (Ok n) = Unraised old new
CountsAsk old new (Err Missing) = IsOfAnswer old new
CountsAsk old new (Err Down) = IsOfWire old new ⊎ IsOfAnswer old new
CountsAsk old new (Err Memory) = Unraised old new
