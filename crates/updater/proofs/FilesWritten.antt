-- Files are written into free blocks before a change.
use Rattle.std.proofs.Common.{◌≡◌, ◌∙◌, ap, ℕ}
use Rattle.small_types.specs.Blocks.{blocks_start}
use Rattle.small_types.specs.declared.room.Room.{Room}
use Rattle.disks.specs.declared.disk.Disk.{Ghosts}
use Rattle.file_store.specs.Stores.{free_of, store_base}
use Rattle.file_store.specs.Writes.{WritesOnly}
use Rattle.file_store.specs.declared.store.FileStore.{FileStore}
use Rattle.line_drafts.specs.Works.{SpendsWithin}
use Rattle.machine.specs.Store.{Session}
use Rattle.table_files.specs.Held.{held_by}
use Rattle.table_log.specs.Laws.{StaysAsFront}
use Rattle.table_log.proofs.Images.{stays_front}
use Rattle.install_plan.specs.Blocks.{UsesBlocks}
use Rattle.updater.specs.Shown.{Updater}
use Rattle.updater.specs.Updater.{Holds, room_of, tables_of}
use Rattle.updater.proofs.BlockFrames.{holds_written, stands_written}
use Rattle.updater.proofs.CommandEnds.{left_on}
use Rattle.updater.proofs.Passed.{Passed}

module _ {D : Type 0} (on : Ghosts D) (updater : Updater) (files : FileStore) (old new : D)
    (most : ℕ) (fault : Type 0) (seen_left : left_on on old (on.seen old))
    (uses : UsesBlocks files (room_of updater) (held_by (tables_of updater)))
    (only : WritesOnly on (store_base files) (free_of files) old new)
    (spends : SpendsWithin on most old new fault) where
  law : StaysAsFront on
  law = λ log room tables first last place late run is.
      stays_front on log room tables first last place late run is

  base : (session : Session) → Holds on updater old session
      → store_base files ≡ blocks_start session.store.room.half
  base session holds = uses.base ∙ ap (λ (r : Room). blocks_start r.half) holds.room

  pub passed_writing : Passed on updater old new most fault
  passed_writing = record {
    holds = λ session holds. holds_written on updater files old new session uses.used
        (base session holds) only law holds seen_left;
    stop = λ session holds. stands_written on updater files old new session uses.used
        (base session holds) only law holds;
    spends = spends;
  }
