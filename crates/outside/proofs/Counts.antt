-- Counts of faults, and their sums.
use Rattle.std.proofs.Common.{inl, inr, ℕ, ◌≤◌, arith}
use Rattle.outside.specs.Streams.{Rose, total}

-- a rise stays a rise, whatever comes before and after it
pub rose_within : (a b c d : ℕ) → a ≤ b → b ≤ c → Rose b c → c ≤ d → Rose a d
rose_within a b c d ab bc (inl less) cd = inl (omega arith)
rose_within a b c d ab bc (inr full) cd = grind arith

-- where one side's count rose and the other's did not fall, the sum rose
pub total_rose_left : (a b c d : ℕ) → Rose a c → b ≤ d → Rose (total a b) (total c d)
total_rose_left a b c d (inl less) bd = grind arith
total_rose_left a b c d (inr full) bd = grind arith

pub total_rose_right : (a b c d : ℕ) → a ≤ c → Rose b d → Rose (total a b) (total c d)
total_rose_right a b c d ac (inl less) = grind arith
total_rose_right a b c d ac (inr full) = grind arith

-- where neither falls, the sum does not
pub total_later : (a b c d : ℕ) → a ≤ c → b ≤ d → total a b ≤ total c d
total_later a b c d ac bd = grind arith
