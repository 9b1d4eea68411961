-- What was found on a disk.
use Rattle.std.specs.Prelude.{◌≡◌, ℕ, List, length}
use Rattle.journal.specs.declared.read.Found.{Found}
use Rattle.journal.specs.Layout.{HalvesStand, log_of, half_head}

-- the bytes are the journal that was found, and its first closed gate stands there
pub record Finds (found : Found) (bytes : List ℕ) : Type 0 where
  pub stands : HalvesStand found.side found.serial found.both found.blocks found.half found.tables
      found.changes bytes
  pub at : found.gate ≡ length (log_of (half_head found.serial found.tables) found.changes)
