-- What a draft holds as the basket of a fetch.
use Rattle.std.specs.Prelude.{◌≡◌, ℕ, ◌+◌, ◌<◌, ◌≤◌, List, [], length, Bool, true, false}
use Rattle.disks.specs.declared.disk.Disk.{Ghosts}
use Rattle.small_types.specs.Blocks.{bytes_in}
use Rattle.file_store.specs.Stores.{draft_blocks, draft_size, filled_of}
use Rattle.file_store.specs.Writes.{WritesOnly}
use Rattle.file_store.specs.declared.draft.Draft.{Draft}

-- the bytes of a draft in what reads give
abbrev pub held_bytes : ℕ → Draft → List ℕ → List ℕ
held_bytes base draft seen = bytes_in base (draft_blocks draft) (filled_of draft) seen

-- none of them is missing
abbrev pub ReadsWhole : ℕ → Draft → List ℕ → Type 0
ReadsWhole base draft seen = length (held_bytes base draft seen) ≡ filled_of draft

-- Bytes that the draft has no room for: none until there are too many, and from then on so many
-- that they and those of the draft are more than its size.
pub record ArePast (draft : Draft) (is_over : Bool) (past : List ℕ) : Type 0 where
  pub none : is_over ≡ false → past ≡ []
  pub many : is_over ≡ true → draft_size draft < filled_of draft + length past

-- What calls of the basket that hand it so many bytes make of its draft and of the disk: only the
-- draft's blocks are written, and no more bytes than these.
pub record Turned {D : Type 0} (on : Ghosts D) (base n : ℕ) (draft_old draft_new : Draft)
    (disk_old disk_new : D) : Type 0 where
  pub blocks : draft_blocks draft_new ≡ draft_blocks draft_old
  pub size : draft_size draft_new ≡ draft_size draft_old
  pub only : WritesOnly on base (draft_blocks draft_old) disk_old disk_new
  pub told : on.tells disk_new → on.tells disk_old
  pub total : on.total disk_old ≤ on.total disk_new
  pub within : on.total disk_new ≤ on.total disk_old + n
