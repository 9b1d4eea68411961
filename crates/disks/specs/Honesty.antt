-- That the answers of a file can be honest, and what it says of one that they are.
use Rattle.std.specs.Prelude.{◌≡◌, ◌≤◌, ℕ, List, [], ◌∷◌, ◌++◌, length, take, drop}
use Rattle.disks.specs.declared.call.Call.{Call}
use Rattle.disks.specs.declared.answer.Answer.{Answer}
use Rattle.disks.specs.declared.answer.Answer.TheVariants.{Measured, Gave, Changed}
use Rattle.disks.specs.Disk.{Gives}
use Rattle.disks.specs.Answers.{seen_after, IsHonest}

-- a file of which nothing was asked yet
abbrev pub HonestAtFirst : Type 0
HonestAtFirst = (first : List ℕ) → IsHonest first []

-- a length that is that of the model
abbrev pub HonestLength : Type 0
HonestLength = (first : List ℕ) (answers : List Answer) → IsHonest first answers
    → IsHonest first (answers ++ Measured (length (seen_after first answers)) ∷ [])

-- a read that gives what the model does
abbrev pub HonestRead : Type 0
HonestRead = (first : List ℕ) (answers : List Answer) (place n : ℕ) (old new : List ℕ)
    → IsHonest first answers → Gives (seen_after first answers) place old new n
    → IsHonest first (answers ++ Gave place (length old) (take n new) ∷ [])

-- a write, a cut or a sync, whatever its end
abbrev pub HonestChange : Type 0
HonestChange = (first : List ℕ) (answers : List Answer) (call : Call) → IsHonest first answers
    → IsHonest first (answers ++ Changed call ∷ [])

-- what was told is told: no answer makes up for an earlier one
abbrev pub HonestBefore : Type 0
HonestBefore = (first : List ℕ) (answers : List Answer) (answer : Answer)
    → IsHonest first (answers ++ answer ∷ []) → IsHonest first answers

-- an honest length is that of the model
abbrev pub LengthIsTrue : Type 0
LengthIsTrue = (first : List ℕ) (answers : List Answer) (n : ℕ)
    → IsHonest first (answers ++ Measured n ∷ []) → n ≡ length (seen_after first answers)

-- an honest read of n bytes gives what the model does
abbrev pub ReadIsTrue : Type 0
ReadIsTrue = (first : List ℕ) (answers : List Answer) (place n : ℕ) (old new : List ℕ)
    → n ≤ length old → length new ≡ length old → drop n new ≡ drop n old
    → IsHonest first (answers ++ Gave place (length old) (take n new) ∷ [])
    → Gives (seen_after first answers) place old new n
