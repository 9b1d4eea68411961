-- A put that the tables do not refuse finds free blocks.
use Rattle.std.proofs.Common.{◌≡◌, ◌+◌, ◌≤◌, ℕ, List, [], map, length, arith}
use Rattle.small_types.specs.Blocks.{count_for}
use Rattle.small_types.specs.declared.room.Room.{Room}
use Rattle.machine.specs.Blocks.{blocks_of, free_blocks, used_blocks}
use Rattle.store_state.specs.Tables.{Tables, bare_row, table_shape}
use Rattle.file_store.specs.Stores.{free_of}
use Rattle.file_store.specs.declared.store.FileStore.{FileStore}
use Rattle.table_files.specs.Held.{held_by}
use Rattle.install_plan.specs.Blocks.{UsesBlocks}

pub put_room : (files : FileStore) (room : Room) (tables : Tables) (n : ℕ)
    → UsesBlocks files room (held_by tables)
    → length (held_by tables) ≡ used_blocks (map bare_row tables.views)
    → blocks_of n ≤ free_blocks (table_shape room tables) → count_for n ≤ length (free_of files)
put_room files room tables n uses long enough = omega (arith, uses.all, long, enough)
