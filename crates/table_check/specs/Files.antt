-- Whether a disk has all bytes of the files of tables.
use Rattle.std.specs.Prelude.{◌≡◌, ◌+◌, ◌-◌, ◌*◌, ◌<◌, ◌≤◌, ◌↔◌, ℕ, List, All, length, min, slice_index}
use Rattle.small_types.specs.Blocks.{bytes_in, count_for, place_of}
use Rattle.small_types.specs.declared.limits.TheConstants.{BLOCK_SIZE}
use Rattle.small_types.specs.declared.room.Room.{Room}
use Rattle.store_state.specs.Stored.{HasContents, HasLocals}
use Rattle.store_state.specs.Tables.{Tables}

-- the image has all bytes of each content, and of each data file of each view
abbrev pub HasFiles : Room → List ℕ → Tables → Type 0
HasFiles room image tables =
    HasContents room image tables.contents
    × All (λ view. HasLocals room image view.locals) tables.views

-- Where the block 0 begins at the start, each block of a file of so many bytes ends within a disk of
-- that length, as far as the file has bytes in it.
abbrev pub EndsWithin : ℕ → ℕ → ℕ → List ℕ → Type 0
EndsWithin start disk_length size blocks = (i : ℕ) → i < length blocks
    → place_of start (slice_index blocks i) + min BLOCK_SIZE (size - BLOCK_SIZE * i) ≤ disk_length

-- An image has all bytes of a file exactly then.
abbrev pub WholeFilesEndWithin : Type 0
WholeFilesEndWithin = (start size : ℕ) (blocks image : List ℕ) → length blocks ≡ count_for size
    → EndsWithin start (length image) size blocks
    ↔ length (bytes_in start blocks size image) ≡ size
