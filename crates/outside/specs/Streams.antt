-- What the calls of a source and a sink do.
use Rattle.std.specs.Prelude.{◌≡◌, ◌⊎◌, ℕ, ◌+◌, ◌<◌, ◌≤◌, min, List, [], ◌++◌, length, take, Result, OnOk, OnErr}

-- a count of faults rose; at its type's end it stands still and counts as risen
abbrev pub Rose : ℕ → ℕ → Type 0
Rose old new = (old < new) ⊎ (0xffff_ffff_ffff_ffff ≤ old)

-- a count of faults never falls; an error comes only where it rose, and an answer leaves it
pub record Causes {T E : Type 0} (old new : ℕ) (result : Result T E) : Type 0 where
  pub later : old ≤ new
  pub rose : OnErr result (Rose old new)
  pub quiet : OnOk result (new ≡ old)

-- the sum of two counts, which ends at the greatest number of its type
abbrev pub total : ℕ → ℕ → ℕ
total a b = min (a + b) 0xffff_ffff_ffff_ffff

-- the first n bytes that were left stand in the buffer, and zero is the end
pub record Consumes (old new buf : List ℕ) (n : ℕ) : Type 0 where
  pub given : old ≡ take n buf ++ new
  pub end : n ≡ 0 → old ≡ []

-- some of them were taken
pub record TakesSome (n : ℕ) (bytes : List ℕ) : Type 0 where
  pub some : 0 < n
  pub fits : n ≤ length bytes

-- all the bytes were taken
abbrev pub Appends : List ℕ → List ℕ → List ℕ → Type 0
Appends old new bytes = new ≡ old ++ bytes

-- the bytes are those that were taken and those that are left
pub record Takes (old new bytes rest : List ℕ) : Type 0 where
  pub done : List ℕ
  pub given : bytes ≡ done ++ rest
  pub appended : new ≡ old ++ done

-- a first part of the bytes was taken, and not all
pub record AppendsPart (old new bytes : List ℕ) : Type 0 where
  pub rest : List ℕ
  pub some : 0 < length rest
  pub takes : Takes old new bytes rest

-- what was left is what was taken and what is left now, and at most so many bytes were taken
pub record TakesAtMost (limit : ℕ) (old new : List ℕ) : Type 0 where
  pub taken : List ℕ
  pub given : old ≡ taken ++ new
  pub few : length taken ≤ limit
