-- A new store is opened by a boot.
use Rattle.std.proofs.Common.{◌≡◌, ◌≢◌, ℕ, List, [], Bool, None, Result, Ok, Err, refl, subst, arith}
use Rattle.small_types.specs.declared.room.Room.{Room}
use Rattle.small_types.specs.Room.{new_room}
use Rattle.disks.specs.declared.disk.Disk.{Ghosts}
use Rattle.disks.specs.Spends.{Spends}
use Rattle.machine.specs.declared.event.Event.TheVariants.{Boot}
use Rattle.machine.specs.Machine.{Step}
use Rattle.journal.specs.declared.fault.LogFault.{LogFault}
use Rattle.journal.specs.declared.fault.LogFault.TheVariants as log
use Rattle.journal.specs.Layout.{AreLimits, IsHalvedJournal}
use Rattle.machine.specs.Store.{booted, empty, session_over}
use Rattle.machine.proofs.KeptStores.{empty_sound}
use Rattle.machine.proofs.Lightness.{least_light}
use Rattle.machine.proofs.KeptSteps.{step_sound}
use Rattle.store_state.specs.Tables as tables
use Rattle.table_codec.specs.Spelled.{state_text}
use Rattle.table_log.specs.ReadsAs.{ReadsAs}
use Rattle.table_log.proofs.Images.{new_reads}
use Rattle.table_log.proofs.NewRooms.{new_limits}
use Rattle.updater.specs.declared.fault.RecoverFault.{RecoverFault}
use Rattle.updater.specs.declared.fault.RecoverFault.TheVariants as recover
use Rattle.updater.specs.Shown.{Updater}
use Rattle.updater.specs.Opened.{Opened}
use Rattle.updater.specs.StandsFor.{StandsFor}
use Rattle.updater.proofs.HeldStore.{new_stands}
use Rattle.demo.specs.declared.fault.DemoFault.{DemoFault}
use Rattle.demo.specs.declared.fault.DemoFault.TheVariants.{DiskFault, Memory, NotAStore}
use Rattle.demo.specs.declared.run.TheConstants.{STORE_BLOCKS}
use Rattle.demo.specs.Parts.{OpensNew, Touches}
use Rattle.demo.specs.Run.{start}

-- the new room
abbrev room : Room
room = new_room STORE_BLOCKS

-- a journal may have it
room_limits : AreLimits room.blocks room.half
room_limits = new_limits STORE_BLOCKS (omega arith) (omega arith)

-- its new journal reads as the empty tables
pub reads_new : (made : Room) (image : List ℕ) → made ≡ room
    → IsHalvedJournal made.blocks made.half (state_text tables.empty) [] image
    → ReadsAs room image tables.empty
reads_new made image is journal = subst (λ (r : Room). ReadsAs r image tables.empty) is
    (new_reads made image journal)

-- and so stands for the empty store
fresh : (image : List ℕ) → ReadsAs room image tables.empty → StandsFor image (empty room)
fresh image reads = new_stands image room reads (omega arith) room_limits

module _ {D : Type 0} (on : Ghosts D) (disk disk_new : D) where
  -- an opening touches the disk as it says
  touches : {T : Type 0} (result : Result (Updater × Bool) RecoverFault) (ends : Result T DemoFault)
      → Opened on 1 disk result disk_new
      → (result ≡ Err recover.DiskFault → ends ≡ Err DiskFault)
      → (ends ≡ Err DiskFault → result ≡ Err recover.DiskFault)
      → (on.tells disk_new → ends ≢ Err NotAStore)
      → Touches on disk ends disk_new
  touches result ends opened there back stands = record {
    told = opened.spent.spends.told;
    later = opened.spent.spends.later;
    count = opened.spent.spends.count;
    cause = λ is. opened.spent.spends.cause (back is);
    quiet = λ other. opened.spent.spends.quiet (λ is. other (there is));
    store = stands;
  }

  -- the new store is opened
  pub begins : (r : Updater × Bool) → Opened on 1 disk (Ok r) disk_new
      → ReadsAs room (on.seen disk) tables.empty → OpensNew on disk (Ok r.0) disk_new
  begins r opened reads = record {
    begins = λ tells.
        let last = session_over (booted 1 (empty room)) in
        let step : Step 0 start (Boot 1) None last = (refl, refl) in
        record {
          session = last;
          is = step;
          holds = opened.holds.stored tells (empty room) (fresh (on.seen disk) reads);
          sound = step_sound 0 start (Boot 1) None last (omega arith) step
              (empty_sound room (omega arith) (omega arith)
              (least_light room (λ some. room_limits.least)));
        };
    touches = touches (Ok r) (Ok r.0) opened (λ is. cc (is)) (λ is. cc (is)) (λ tells is. cc (is));
  }

  -- the disk failed, the store does not read as one, or there was no memory
  pub breaks : Opened on 1 disk (Err recover.DiskFault) disk_new → OpensNew on disk (Err DiskFault) disk_new
  breaks opened = record {
    begins = λ tells. tt;
    touches = touches (Err recover.DiskFault) (Err DiskFault) opened (λ is. refl) (λ is. refl)
        (λ tells is. cc (is));
  }

  pub reads_none : Opened on 1 disk (Err recover.NotAStore) disk_new
      → ReadsAs room (on.seen disk) tables.empty → OpensNew on disk (Err NotAStore) disk_new
  reads_none opened reads = record {
    begins = λ tells. tt;
    touches = touches (Err recover.NotAStore) (Err NotAStore) opened (λ is. cc (is)) (λ is. cc (is))
        (λ tells is. opened.holds.not_a_store tells refl (empty room) (fresh (on.seen disk) reads));
  }

  pub lacks : Opened on 1 disk (Err recover.Memory) disk_new → OpensNew on disk (Err Memory) disk_new
  lacks opened = record {
    begins = λ tells. tt;
    touches = touches (Err recover.Memory) (Err Memory) opened (λ is. cc (is)) (λ is. cc (is))
        (λ tells is. cc (is));
  }

  -- a format touches the disk as it says
  pub format_touches : {S T : Type 0} (result : Result S LogFault) (ends : Result T DemoFault)
      (bytes : ℕ) → Spends on 7 bytes disk disk_new (result ≡ Err log.DiskFault)
      → (result ≡ Err log.DiskFault → ends ≡ Err DiskFault)
      → (ends ≡ Err DiskFault → result ≡ Err log.DiskFault)
      → ends ≢ Err NotAStore
      → Touches on disk ends disk_new
  format_touches result ends bytes spends there back stands = record {
    told = spends.told;
    later = spends.later;
    count = spends.count;
    cause = λ is. spends.cause (back is);
    quiet = λ other. spends.quiet (λ is. other (there is));
    store = λ tells. stands;
  }
