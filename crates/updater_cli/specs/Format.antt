-- What a new store is.
use Rattle.std.specs.Prelude.{◌≡◌, ◌⊎◌, ℕ, ◌+◌, List, [], length}
use Rattle.small_types.specs.declared.limits.TheConstants.{HEAD_BLOCK_SIZE}
use Rattle.small_types.specs.declared.room.Room.{Room}
use Rattle.disks.specs.declared.disk.Disk.{Ghosts}
use Rattle.disks.specs.Spends.{Spends}
use Rattle.journal.specs.declared.piece.TheConstants.{AROUND_TABLES}
use Rattle.journal.specs.Format.{Formats}
use Rattle.journal.specs.Layout.{IsHalvedJournal, NoJournal}
use Rattle.machine.specs.Store as stores
use Rattle.store_state.specs.Tables.{empty}
use Rattle.table_codec.specs.Spelled.{state_text}
use Rattle.updater.specs.StandsFor.{StandsFor, StandsForNone}
use Rattle.updater_cli.specs.declared.status.Status.TheVariants.{Done, DiskFault, Memory}
use Rattle.updater_cli.specs.Status.{code_of}

-- the bytes are the journal of a new store of this room, of the empty tables and of no change,
-- and so stand for the empty store
pub record StandsForNew (room : Room) (image : List ℕ) : Type 0 where
  pub journal : IsHalvedJournal room.blocks room.half (state_text empty) [] image
  pub stands : StandsFor image (stores.empty room)

-- What stops leave over a format is what they leave over that of the journal. The new journal is
-- the new store, and what is no journal stands for no store.
pub record Renews {D : Type 0} (on : Ghosts D) (old new : D) (room : Room) : Type 0 where
  pub formats : Formats on old new room.blocks room.half (state_text empty)
  pub stands : (image : List ℕ)
      → (IsHalvedJournal room.blocks room.half (state_text empty) [] image
      → StandsForNew room image)
      × (NoJournal image → StandsForNone image)

-- a format that is done: each image that a stop may leave now, and what reads give, is the new
-- store
pub record IsNew {D : Type 0} (on : Ghosts D) (room : Room) (disk : D) : Type 0 where
  pub images : (image : List ℕ) → on.left_at disk (on.moment disk) image → StandsForNew room image
  pub reads : StandsForNew room (on.seen disk)

-- A format of this room. With status 0 it is done. At most seven calls are made, which write
-- a head block, the first half with the empty tables, the second one's gate, and the head's own
-- gate anew. The count of faults rises with status 4 alone. Without memory, which is status 6, no
-- call is made.
pub record MakesStore {D : Type 0} (on : Ghosts D) (room : Room) (status : ℕ) (old new : D)
    : Type 0 where
  pub done : status ≡ code_of Done → IsNew on room new
  pub spends : Spends on 7 (HEAD_BLOCK_SIZE + AROUND_TABLES + length (state_text empty) + 2) old new
      (status ≡ code_of DiskFault)
  pub stop : Renews on old new room
  pub memory : status ≡ code_of Memory → new ≡ old
  pub statuses : (status ≡ code_of Done)
      ⊎ ((status ≡ code_of DiskFault) ⊎ (status ≡ code_of Memory))
