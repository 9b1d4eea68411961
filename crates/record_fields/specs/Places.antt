-- Fields at places.
use Rattle.std.specs.Prelude.{◌≡◌, ℕ, ◌+◌, ◌≤◌, List, ◌++◌, length, take, drop}

-- the field stands at the place, and next is the place behind it
pub record Stands (bytes : List ℕ) (place : ℕ) (field : List ℕ) (next : ℕ) : Type 0 where
  pub behind : next ≡ place + length field
  pub within : next ≤ length bytes
  pub parts : drop place bytes ≡ field ++ drop next bytes

-- the field stands at the place now, and all other bytes are as they were
abbrev pub written : List ℕ → ℕ → List ℕ → List ℕ
written old place field = take place old ++ (field ++ drop (place + length field) old)

-- the field was written at the place, which leaves all other bytes, and next is the place behind it
pub record WritesField (old : List ℕ) (place : ℕ) (field new : List ℕ) (next : ℕ) : Type 0 where
  pub text : new ≡ written old place field
  pub behind : next ≡ place + length field
  pub within : next ≤ length old
