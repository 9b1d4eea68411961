-- A format of the journal is one of the store.
use Rattle.std.proofs.Common.{List, ℕ, []}
use Rattle.disks.specs.declared.disk.Disk.{Ghosts}
use Rattle.small_types.specs.declared.room.Room.{Room}
use Rattle.journal.specs.Format.{Formats}
use Rattle.journal.specs.Layout.{AreLimits, IsHalvedJournal, NoJournal}
use Rattle.store_state.specs.Tables.{empty}
use Rattle.table_codec.specs.Spelled.{state_text}
use Rattle.table_log.proofs.Images.{new_reads, none_reads}
use Rattle.updater.specs.StandsFor.{StandsForNone}
use Rattle.updater.proofs.HeldStore.{new_stands}
use Rattle.updater_cli.specs.Format.{Renews, StandsForNew}

-- what is no journal stands for no store
stands_none : (image : List ℕ) → NoJournal image → StandsForNone image
stands_none image none store stands =
    none_reads image none store.room stands.tables stands.reads

module _ (room : Room) (limits : AreLimits room.blocks room.half) where
  -- a new journal stands for the empty store
  pub stands_new : (image : List ℕ)
      → IsHalvedJournal room.blocks room.half (state_text empty) [] image
      → StandsForNew room image
  stands_new image journal = record {
    journal = journal;
    stands = new_stands image room (new_reads room image journal) limits.most limits;
  }

  -- what stops leave over a format of the journal they leave over one of the store
  pub renews : {D : Type 0} (on : Ghosts D) (old new : D)
      → Formats on old new room.blocks room.half (state_text empty)
      → Renews on old new room
  renews on old new formats = record {
    formats = formats;
    stands = λ image. (stands_new image, stands_none image);
  }
