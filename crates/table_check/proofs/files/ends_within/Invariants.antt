use Rattle.std.proofs.Common.{◌≡◌, ℕ, ◌+◌, ◌-◌, ◌*◌, ◌<◌, ◌≤◌, min, get_or}
use Rattle.small_types.specs.Blocks.{place_of}
use Rattle.table_check.proofs.files.ends_within.Given as goal

abbrev pub invariant-loop-block : goal.invariant-loop-block
invariant-loop-block l = (l.left ≡ l.size - 4096 * l.block-index)
    × ((i : ℕ) → i < l.block-index
    → place_of l.start (get_or l.blocks i 0) + min 4096 (l.size - 4096 * i) ≤ l.disk_length)
