-- How the bytes of files are held: in blocks.
use Rattle.std.specs.Prelude.{◌≡◌, ℕ, List, All, length}
use Rattle.small_types.specs.Blocks.{blocks_start, bytes_in, count_for}
use Rattle.small_types.specs.declared.room.Room.{Room}
use Rattle.store_state.specs.declared.view.Content.{Content}
use Rattle.store_state.specs.declared.view.LocalFile.{LocalFile}

-- The bytes of a file of so many bytes that is held in these blocks, on a disk of this room with this
-- image: those of its blocks, in their order, cut at its length. They are fewer where the image ends
-- before one of them.
abbrev pub stored_bytes : Room → List ℕ → List ℕ → ℕ → List ℕ
stored_bytes room image held size = bytes_in (blocks_start room.half) held size image

-- there are as many blocks as a file of so many bytes needs
abbrev pub IsHeldFor : ℕ → List ℕ → Type 0
IsHeldFor size held = length held ≡ count_for size

abbrev pub content_bytes : Room → List ℕ → Content → List ℕ
content_bytes room image content = stored_bytes room image content.held content.size

abbrev pub data_bytes : Room → List ℕ → LocalFile → List ℕ
data_bytes room image file = stored_bytes room image file.held file.length

-- both images have the same bytes of each of these contents
abbrev pub SameContents : Room → List ℕ → List ℕ → List Content → Type 0
SameContents room image later contents =
    All (λ content. content_bytes room later content ≡ content_bytes room image content) contents

-- both images have the same bytes of each of these data files
abbrev pub SameLocals : Room → List ℕ → List ℕ → List LocalFile → Type 0
SameLocals room image later files =
    All (λ file. data_bytes room later file ≡ data_bytes room image file) files

-- the image has as many bytes of each of these contents as its size says
abbrev pub HasContents : Room → List ℕ → List Content → Type 0
HasContents room image contents =
    All (λ content. length (content_bytes room image content) ≡ content.size) contents

-- the image has as many bytes of each of these data files as its length says
abbrev pub HasLocals : Room → List ℕ → List LocalFile → Type 0
HasLocals room image files =
    All (λ file. length (data_bytes room image file) ≡ file.length) files
