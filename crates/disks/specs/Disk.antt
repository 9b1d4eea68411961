-- What the calls of a disk do, and what a stop may leave.
use Rattle.std.specs.Prelude.{◌≡◌, ◌⊎◌, ℕ, ◌+◌, ◌-◌, ◌<◌, ◌≤◌, min, max, List, ◌++◌, length, take, drop, Result, OnOk}

-- after a write of n bytes that a stop cuts short: any bytes in the range and past the old end, the
-- same elsewhere
pub record Torn (place n : ℕ) (old new : List ℕ) : Type 0 where
  pub before : take (min place (length old)) new ≡ take place old
  pub after : drop (place + n) new ≡ drop (place + n) old
  pub size : (length new ≡ length old) ⊎ (length new ≡ max (length old) (place + n))

-- after a cut that a stop cuts short: any bytes past the new length, which holds or not
pub record CutOff (n : ℕ) (old new : List ℕ) : Type 0 where
  pub before : take (min n (length old)) new ≡ take n old
  pub size : (length new ≡ length old) ⊎ (length new ≡ n)

-- each new outcome of a stop is an old one after a step
abbrev pub Follows : (List ℕ → List ℕ → Type 0) → (List ℕ → Type 0) → (List ℕ → Type 0) → Type 0
Follows step old new = (c : List ℕ) → new c → (d : List ℕ) × old d × step d c

-- a stop leaves this and nothing else
abbrev pub Only : List ℕ → (List ℕ → Type 0) → Type 0
Only bytes left = (c : List ℕ) → left c → c ≡ bytes

-- what a stop could leave at a moment that has been stays what it was
pub record Elapses (before : ℕ) (past since : ℕ → List ℕ → Type 0) : Type 0 where
  pub same : (t : ℕ) (c : List ℕ) → t ≤ before → since t c → past t c
  pub keeps : (t : ℕ) (c : List ℕ) → t ≤ before → past t c → since t c

-- the count of calls goes on by one and that of bytes by n, where neither passes its end; else both
-- stay
pub record Ticks {T E : Type 0} (old new total_old total_new n : ℕ) (result : Result T E)
    : Type 0 where
  pub later : old ≤ new
  pub once : new ≤ old + 1
  pub ok : OnOk result (new ≡ old + 1)
  pub exact : ((new ≡ old + 1) × (total_new ≡ total_old + n) × (old < 0xffff_ffff_ffff_ffff)
      × (total_old + n ≤ 0xffff_ffff_ffff_ffff))
      ⊎ ((new ≡ old) × (total_new ≡ total_old)
      × ((0xffff_ffff_ffff_ffff ≤ old) ⊎ (0xffff_ffff_ffff_ffff < total_old + n)))

pub record IsStill (moment_old moment_new total_old total_new : ℕ) : Type 0 where
  pub moment : moment_new ≡ moment_old
  pub total : total_new ≡ total_old

-- a read gave the n bytes that stand at a place, and left the rest of the buffer
abbrev pub Gives : List ℕ → ℕ → List ℕ → List ℕ → ℕ → Type 0
Gives bytes place buf_old buf_new n =
    (n ≡ min (length bytes - place) (length buf_old))
    × (buf_new ≡ take n (drop place bytes) ++ drop n buf_old)
