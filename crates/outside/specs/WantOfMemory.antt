-- Calls of a device in memory for which there may be no memory.
use Rattle.std.specs.Prelude.{◌≡◌, ℕ, Result, Ok, Err}
use Rattle.outside.specs.declared.failed.Failed.{Failed}
use Rattle.outside.specs.Streams.{total}

-- the call works, or it fails for want of memory, which is counted
abbrev pub WorksOrStarves : {T : Type 0} → ℕ → ℕ → Result T Failed → Type 0
WorksOrStarves old new (Ok _) = new ≡ old
WorksOrStarves old new (Err _) = new ≡ total old 1
