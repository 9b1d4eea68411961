-- How the bytes of an input are cut into lines, and what is kept of a line that has not ended.
use Rattle.std.specs.Prelude.{◌≡◌, ◌≢◌, ◌+◌, ◌==◌, ℕ, List, [], ◌∷◌, ◌++◌, All, if◌then◌else◌, length, map, take, Result}
use Rattle.std.specs.List.{flat_map}
use Rattle.std.specs.Str.Lines.{lines, strip_carriage_return}
use Rattle.small_types.specs.declared.limits.TheConstants.{LINE_LIMIT}
use Rattle.machine.specs.declared.command.Command.{Command}
use Rattle.machine.specs.declared.command.LineFault.{LineFault}
use Rattle.command_text.specs.Lines.{command_of}

-- no line feed stands in it
abbrev pub HasNoFeed : List ℕ → Type 0
HasNoFeed line = All (λ b. b ≢ 10) line

-- the lines, each followed by a line feed
abbrev pub fed : List (List ℕ) → List ℕ
fed raw = flat_map (λ line. line ++ 10 ∷ []) raw

-- The bytes are the raw lines, each followed by a line feed, and then the rest, which no line feed
-- has ended yet.
pub record Cut (bytes : List ℕ) (raw : List (List ℕ)) (rest : List ℕ) : Type 0 where
  pub joined : bytes ≡ fed raw ++ rest
  pub whole : All HasNoFeed raw
  pub begun : HasNoFeed rest

-- What the lines of an input are read as, whatever its length. A line ends at a line feed, and one
-- carriage return before that is dropped. A last line without a line feed counts, and keeps a
-- carriage return at its end.
abbrev pub lines_of : List ℕ → List (Result Command LineFault)
lines_of input = map command_of (lines input)

-- Of a line that has not ended as many bytes are kept as the longest one has, and two more: it may
-- end in a carriage return, and one byte behind that shows that it is too long. What follows is
-- passed over.
abbrev pub kept_of : List ℕ → List ℕ
kept_of rest = take (LINE_LIMIT + 2) rest

-- The bytes were read: they end the raw lines, and that much is kept of the rest.
pub record IsRead (bytes : List ℕ) (raw : List (List ℕ)) (kept : List ℕ) : Type 0 where
  pub rest : List ℕ
  pub cut : Cut bytes raw rest
  pub is : kept ≡ kept_of rest

-- what the raw lines are read as by what was kept of them
abbrev pub ended_of : List (List ℕ) → List (Result Command LineFault)
ended_of raw = map (λ line. command_of (strip_carriage_return (kept_of line))) raw

-- what a last line without a line feed is, where there is one
abbrev pub last_of : List ℕ → List (Result Command LineFault)
last_of kept = if length kept == 0 then [] else command_of kept ∷ []

-- whoever keeps no more reads each line of any input as what it is
abbrev pub KeptBytesTell : Type 0
KeptBytesTell =
    (bytes : List ℕ) (raw : List (List ℕ)) (kept : List ℕ) → IsRead bytes raw kept
    → lines_of bytes ≡ ended_of raw ++ last_of kept
