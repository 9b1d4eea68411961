-- The calls of a real file with their answers, and what a file that keeps to the model answers.
use Rattle.std.specs.Prelude.{◌≡◌, ℕ, List, [], ◌∷◌, length, take, drop}
use Rattle.disks.specs.declared.call.Call.{Call}
use Rattle.disks.specs.declared.answer.Answer.{Answer}
use Rattle.disks.specs.declared.answer.Answer.TheVariants.{Measured, Gave, Changed}
use Rattle.disks.specs.Moves.{moved, until, IsImage}

-- the answer is that of a file of these bytes
abbrev pub Agrees : List ℕ → Answer → Type 0
Agrees bytes (Measured n) = n ≡ length bytes
Agrees bytes (Gave place room given) = given ≡ take room (drop place bytes)
Agrees bytes (Changed call) = Unit {0}

-- what reads give after an answer
abbrev pub after : Answer → List ℕ → List ℕ
after (Measured n) bytes = bytes
after (Gave place room given) bytes = bytes
after (Changed call) bytes = moved call.act bytes

-- and after all of these, the first of them first
abbrev pub seen_after : List ℕ → List Answer → List ℕ
seen_after bytes [] = bytes
seen_after bytes (answer ∷ answers) = seen_after (after answer bytes) answers

-- each answer was that of a file that held these bytes before the first of them
abbrev pub IsHonest : List ℕ → List Answer → Type 0
IsHonest bytes [] = Unit {0}
IsHonest bytes (answer ∷ answers) = Agrees bytes answer × IsHonest (after answer bytes) answers

-- the calls that may have changed it
abbrev pub changes : List Answer → List Call
changes [] = []
changes (Measured n ∷ answers) = changes answers
changes (Gave place room given ∷ answers) = changes answers
changes (Changed call ∷ answers) = call ∷ changes answers

-- what a stop at a moment may leave of a file that held the first bytes, where a stop then could
-- leave any of `left`
abbrev pub LeftAfter : List ℕ → (List ℕ → Type 0) → List Answer → ℕ → List ℕ → Type 0
LeftAfter first left answers t c = (image : List ℕ) × left image
    × IsImage first image (until t (changes answers)) c
