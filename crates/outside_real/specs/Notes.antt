-- What the answer of a call told. One that failed told nothing.
use Rattle.std.specs.Prelude.{ℕ, List, [], ◌∷◌, length, take, Result, Ok, Err}
use Rattle.disks.specs.declared.answer.Answer.{Answer}
use Rattle.disks.specs.declared.answer.Answer.TheVariants.{Measured, Gave}

-- the length of a file
abbrev pub told_length : {E : Type 0} → Result ℕ E → List Answer
told_length (Ok n) = Measured n ∷ []
told_length (Err e) = []

-- a read: the first n bytes of the buffer are those that the file gave
abbrev pub told_read : {E : Type 0} → ℕ → List ℕ → Result ℕ E → List Answer
told_read place buf (Ok n) = Gave place (length buf) (take n buf) ∷ []
told_read place buf (Err e) = []

-- a write to an output: it took the first n of the bytes
abbrev pub taken_part : {E : Type 0} → List ℕ → Result ℕ E → List ℕ
taken_part bytes (Ok n) = take n bytes
taken_part bytes (Err e) = []
