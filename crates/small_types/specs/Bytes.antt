-- Bytes that are written over a range.
use Rattle.std.specs.Prelude.{ℕ, ◌+◌, ◌-◌, min, List, ◌++◌, length, take, drop, replicate}

-- these bytes at a place, with zeros in a gap before them
abbrev pub put : ℕ → List ℕ → List ℕ → List ℕ
put place bytes old = take place old
    ++ (replicate (place - length old) 0 ++ (bytes ++ drop (place + length bytes) old))

-- the range of n bytes at a place filled with one byte, and the gap before it where it begins past
-- the end
abbrev pub fill : ℕ → ℕ → ℕ → List ℕ → List ℕ
fill place n byte old = take place old
    ++ (replicate (place + n - min place (length old)) byte ++ drop (place + n) old)
