-- The blocks of a file store and of a draft.
use Rattle.std.specs.Prelude.{◌≡◌, ℕ, ◌<◌, List, ◌++◌, length, reverse, All}
use Rattle.std.specs.List.{flat_map}
use Rattle.small_types.specs.Blocks.{AreApart, IsContent}
use Rattle.file_store.specs.declared.store.FileStore.{FileStore}
use Rattle.file_store.specs.declared.draft.Draft.{Draft}

-- the free blocks, in the order in which they are handed out
abbrev pub free_of : FileStore → List ℕ
free_of store = reverse store.free.items

-- how many blocks there are
abbrev pub block_count : FileStore → ℕ
block_count store = store.blocks

-- where the first of them begins
abbrev pub store_base : FileStore → ℕ
store_base store = store.base

-- the blocks are the same ones, at the same place
pub record SameRange (old new : FileStore) : Type 0 where
  pub number : block_count new ≡ block_count old
  pub base : store_base new ≡ store_base old

-- the blocks of a draft, in the order of its bytes
abbrev pub draft_blocks : Draft → List ℕ
draft_blocks draft = draft.blocks

-- the blocks of all these drafts, those of the first one first
abbrev pub blocks_of_all : List Draft → List ℕ
blocks_of_all drafts = flat_map draft_blocks drafts

-- how many bytes it is to have
abbrev pub draft_size : Draft → ℕ
draft_size draft = draft.size

-- how many it was given
abbrev pub filled_of : Draft → ℕ
filled_of draft = draft.filled

-- the draft was given these bytes, and the image has them in its blocks
pub record DraftHolds (base : ℕ) (draft : Draft) (bytes image : List ℕ) : Type 0 where
  pub count : filled_of draft ≡ length bytes
  pub content : IsContent base (draft_blocks draft) bytes image

-- These blocks are in use: they differ, each is one of the store's, and none of them is free.
pub record AreUsed (store : FileStore) (blocks : List ℕ) : Type 0 where
  pub within : All (λ block. block < block_count store) blocks
  pub apart : AreApart (blocks ++ free_of store)
