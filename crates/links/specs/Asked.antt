-- What was asked of a link between two moments.
use Rattle.std.specs.Prelude.{◌≡◌, ◌⊎◌, ℕ, List, [], ◌∷◌, ◌++◌, Result}
use Rattle.small_types.specs.declared.target.Target.{Target}
use Rattle.links.specs.declared.history.LinkCall.{LinkCall}
use Rattle.links.specs.declared.history.LinkCall.TheVariants.{Asked, Gave, Broke}
use Rattle.links.specs.declared.link.LinkFault.{LinkFault}
use Rattle.links.specs.History.{piece_call}
use Rattle.links.specs.Link.{LinkState}

-- these calls were made, and no other
abbrev pub Calls : LinkState → LinkState → List LinkCall → Type 0
Calls old new calls = new.history ≡ old.history ++ calls

-- it was asked for the target, and answered so
abbrev pub NotesAsk : Target → LinkState → LinkState → Result ℕ LinkFault → Type 0
NotesAsk target old new result = Calls old new (Asked target result ∷ [])

-- it was asked for a piece, and gave what the buffer has afterwards
abbrev pub NotesPiece : LinkState → LinkState → List ℕ → Result ℕ LinkFault → Type 0
NotesPiece old new after result = Calls old new (piece_call after result ∷ [])

-- the targets that calls asked for, in order
abbrev pub targets_in : List LinkCall → List Target
targets_in [] = []
targets_in (Asked target answer ∷ calls) = target ∷ targets_in calls
targets_in (Gave bytes ∷ calls) = targets_in calls
targets_in (Broke ∷ calls) = targets_in calls

-- the bytes that calls gave, one piece after another
abbrev pub bytes_given : List LinkCall → List ℕ
bytes_given [] = []
bytes_given (Asked target answer ∷ calls) = bytes_given calls
bytes_given (Gave bytes ∷ calls) = bytes ++ bytes_given calls
bytes_given (Broke ∷ calls) = bytes_given calls

-- the call gave a byte at least
abbrev pub GaveSome : LinkCall → Type 0
GaveSome (Asked target answer) = ⊥
GaveSome (Gave []) = ⊥
GaveSome (Gave (byte ∷ bytes)) = Unit {0}
GaveSome Broke = ⊥

-- each of the calls is the last one or gave a byte, so no call came behind the end of a body or
-- behind a failure
abbrev pub StopAtEnd : List LinkCall → Type 0
StopAtEnd [] = Unit {0}
StopAtEnd (call ∷ calls) = (calls ≡ []) ⊎ (GaveSome call × StopAtEnd calls)

-- it was asked for the target once, which it answered so, and then for these pieces alone, each of
-- which stands there, an empty one too
pub record AskedOnce (target : Target) (old new : LinkState) (result : Result ℕ LinkFault)
    (pieces : List LinkCall) : Type 0 where
  pub only : targets_in pieces ≡ []
  pub calls : Calls old new (Asked target result ∷ pieces)
