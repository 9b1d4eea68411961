-- Which store an updater holds.
use Rattle.std.specs.Prelude.{◌≡◌, []}
use Rattle.small_types.specs.declared.room.Room.{Room}
use Rattle.disks.specs.declared.disk.Disk.{Ghosts}
use Rattle.disks.specs.Moments.{Each}
use Rattle.machine.specs.Store.{Session}
use Rattle.machine.specs.Valid.{Valid}
use Rattle.store_state.specs.Measured.{AreMeasured}
use Rattle.store_state.specs.Tables.{Tables}
use Rattle.store_state.specs.Shows.{SameFiles, Shows}
use Rattle.table_log.specs.ReadsAs.{IsOpenAs}
use Rattle.table_files.specs.Held.{held_by}
use Rattle.updater.specs.Shown.{Updater}
use Rattle.updater.specs.StandsFor.{ArePlaced}

-- its tables, as `state` shows them
abbrev pub tables_of : Updater → Tables
tables_of updater = updater.state

-- the room that it keeps
abbrev pub room_of : Updater → Room
room_of updater = updater.room

-- The updater holds the session's store on the disk. Its log is open as its tables, on a journal of
-- the store's room, which it keeps, and with each image that a stop leaves now the tables show the
-- store. All these images have the same bytes of its files as what reads give. Each file has as many
-- blocks as its length needs, and its own. The session has no open job: no command opens one yet.
pub record Holds {D : Type 0} (on : Ghosts D) (updater : Updater) (disk : D) (session : Session)
    : Type 0 where
  pub log : IsOpenAs on updater.log session.store.room (tables_of updater) disk
  pub room : room_of updater ≡ session.store.room
  pub shows : Each on disk
      (λ image. Shows session.store.room (tables_of updater) image session.store)
  pub same : Each on disk (SameFiles session.store.room (tables_of updater) (on.seen disk))
  pub valid : Valid session.store
  pub jobs : session.jobs ≡ []
  pub measured : AreMeasured (tables_of updater)
  pub placed : ArePlaced session.store.room (held_by (tables_of updater))
