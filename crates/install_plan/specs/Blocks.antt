-- Which blocks are in use, and which are free.
use Rattle.std.specs.Prelude.{◌≡◌, ℕ, ◌+◌, List, length}
use Rattle.small_types.specs.Blocks.{blocks_start}
use Rattle.small_types.specs.declared.room.Room.{Room}
use Rattle.file_store.specs.Stores.{AreUsed, block_count, free_of, store_base}
use Rattle.file_store.specs.declared.store.FileStore.{FileStore}

-- Of the blocks of a store of this room these are in use, and all others are free.
pub record UsesBlocks (files : FileStore) (room : Room) (blocks : List ℕ) : Type 0 where
  pub used : AreUsed files blocks
  pub all : length blocks + length (free_of files) ≡ room.blocks
  pub number : block_count files ≡ room.blocks
  pub base : store_base files ≡ blocks_start room.half
