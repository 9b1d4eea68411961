-- Bytes of a content that stand behind one another on the disk.
use Rattle.std.specs.Prelude.{◌≡◌, ℕ, ◌+◌, ◌<◌, ◌≤◌, slice_index, List}
use Rattle.small_types.specs.Blocks.{place_at}

-- so many bytes from one on stand behind one another
unfoldable pub IsStretch : List ℕ → ℕ → ℕ → Type 0
IsStretch blocks from n =
    (base i : ℕ) → i < n → place_at base blocks (from + i) ≡ place_at base blocks from + i

-- from the first to the last of them, blocks that follow each other in the list do so on the disk
unfoldable pub AreNeighbours : List ℕ → ℕ → ℕ → Type 0
AreNeighbours blocks first last = (i : ℕ) → first ≤ i → i < last
    → slice_index blocks (i + 1) ≡ slice_index blocks i + 1
