-- Which tables an image reads as, and which a log is open as.
use Rattle.std.specs.Prelude.{◌≡◌, ◌⊎◌, ℕ, List}
use Rattle.small_types.specs.declared.room.Room.{Room}
use Rattle.disks.specs.declared.disk.Disk.{Ghosts}
use Rattle.journal.specs.declared.log.Log.{Log}
use Rattle.journal.specs.Layout.{IsHalvedJournal}
use Rattle.journal.specs.Log.{IsOpen, half_of}
use Rattle.store_state.specs.Tables.{Tables}
use Rattle.table_log.specs.Texts.{LeadTo}

-- The image reads as these tables of this room: it is a journal of the room's blocks and half,
-- whose current half spells tables from which its changes lead to these.
pub record ReadsAs (room : Room) (image : List ℕ) (tables : Tables) : Type 0 where
  pub text : List ℕ
  pub changes : List (List ℕ)
  pub journal : IsHalvedJournal room.blocks room.half text changes image
  pub lead : LeadTo text changes tables

-- the image reads as no tables
abbrev pub ReadsAsNone : List ℕ → Type 0
ReadsAsNone image = (room : Room) (tables : Tables) → ReadsAs room image tables → ⊥

-- the image reads as one of two
abbrev pub ReadsAsEither : Room → Tables → Tables → List ℕ → Type 0
ReadsAsEither room old new image = ReadsAs room image old ⊎ ReadsAs room image new

-- The log on the disk is open as these tables of this room: it is open behind texts that lead to
-- them. Each stop now leaves an image that reads so.
pub record IsOpenAs {D : Type 0} (on : Ghosts D) (log : Log) (room : Room) (tables : Tables)
    (disk : D) : Type 0 where
  pub text : List ℕ
  pub changes : List (List ℕ)
  pub opened : IsOpen on log room.blocks text changes disk
  pub half : half_of log ≡ room.half
  pub lead : LeadTo text changes tables
