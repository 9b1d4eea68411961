-- What comes of taking a piece of a body over a wire.
use Rattle.std.specs.Prelude.{◌≡◌, ◌⊎◌, ◌<◌, ◌≤◌, ℕ, ◌+◌, List, [], length, Option}
use Rattle.connections.specs.Wire.{Made}
use Rattle.http_link.specs.Counts.{Tally, IsOfAnswer, IsOfWire}
use Rattle.http_link.specs.States.{left_on}

-- n of the bytes that were to come were given, and zero only once all were
pub record GivesPiece (n old new : ℕ) : Type 0 where
  pub fewer : new + n ≡ old
  pub end : n ≡ 0 → old ≡ 0

-- of what the present connection had left, at most n bytes were received
abbrev pub ReceivesAtMost : Option Made → Option Made → ℕ → Type 0
ReceivesAtMost old new n = length (left_on old) ≤ n + length (left_on new)

-- the body ended early: bytes of it were to come, and over a wire that tells none are left
pub record IsShort (tells : Type 0) (rest : List ℕ) (left : ℕ) (old new : Tally) : Type 0 where
  pub some : 0 < left
  pub none : tells → rest ≡ []
  pub raised : IsOfAnswer old new

-- why no piece was given, by what was left of the body and how many bytes were to come; none are to
-- come afterwards
pub record Stops (tells : Type 0) (rest : List ℕ) (before after : ℕ) (old new : Tally)
    : Type 0 where
  pub why : IsOfWire old new ⊎ IsShort tells rest before old new
  pub closed : after ≡ 0
