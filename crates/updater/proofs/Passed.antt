-- What comes before a change: the disk is only read, or written in free blocks alone.
use Rattle.std.proofs.Common.{◌≡◌, ◌+◌, ◌≤◌, ℕ, List, refl, sym, subst, arith}
use Rattle.disks.specs.declared.disk.Disk.{Ghosts}
use Rattle.disks.specs.Moments.{Each, LeavesOnly, Rests, Untouched}
use Rattle.disks.specs.Spends.{Spends}
use Rattle.disks.proofs.Books.{spends_as, spends_none, spends_then}
use Rattle.disks.proofs.MomentLemmas.{each_still, reads_on, started, then_on, untouched_start}
use Rattle.line_drafts.specs.Works.{SpendsWithin}
use Rattle.machine.specs.Store.{Session}
use Rattle.store_state.specs.Shows.{SameFiles, Shows}
use Rattle.table_log.proofs.Images.{stays_read}
use Rattle.updater.specs.Shown.{Updater}
use Rattle.updater.specs.StandsFor.{StandsFor}
use Rattle.updater.specs.Updater.{Holds, tables_of}
use Rattle.updater.proofs.HeldStore.{stored_stands}

-- Each session that was held is held still, a stop leaves its store, and at most so many bytes are
-- written.
pub record Passed {D : Type 0} (on : Ghosts D) (updater : Updater) (disk mid : D) (most : ℕ) (fault : Type 0) : Type 0 where
  pub holds : (old : Session) → Holds on updater disk old → Holds on updater mid old
  pub stop : (old : Session) → Holds on updater disk old → LeavesOnly on disk mid (λ image. StandsFor image old.store)
  pub spends : SpendsWithin on most disk mid fault

module _ {D : Type 0} (on : Ghosts D) where
  -- nothing was done
  pub passed_none : (updater : Updater) (disk : D) → Passed on updater disk disk 0 ⊥
  passed_none updater disk = record {
    holds = λ old holds. holds;
    stop = λ old holds. started on disk (λ image. StandsFor image old.store) (stored_stands on updater disk old holds);
    spends = (0, spends_none on disk);
  }

  pub rests_none : (disk : D) → Rests on disk disk
  rests_none disk = record { untouched = untouched_start on disk; total = refl }

  held_reading : (updater : Updater) (disk mid : D) (old : Session) → Untouched on disk mid → Holds on updater disk old
      → Holds on updater mid old
  held_reading updater disk mid old still holds = record {
    log = stays_read on updater.log old.store.room (tables_of updater) disk mid holds.log still;
    room = holds.room;
    shows = each_still on disk mid (λ image. Shows old.store.room (tables_of updater) image old.store) holds.shows still;
    same = subst (λ (seen : List ℕ). Each on mid (SameFiles old.store.room (tables_of updater) seen)) (sym still.same_reads)
        (each_still on disk mid (SameFiles old.store.room (tables_of updater) (on.seen disk)) holds.same still);
    valid = holds.valid;
    jobs = holds.jobs;
    measured = holds.measured;
    placed = holds.placed;
  }

  -- the disk was only read
  pub passed_reading : (updater : Updater) (disk mid : D) (fault : Type 0) → Untouched on disk mid → Spends on 0 0 disk mid fault
      → Passed on updater disk mid 0 fault
  passed_reading updater disk mid fault still spends = record {
    holds = λ old holds. held_reading updater disk mid old still holds;
    stop = λ old holds. reads_on on disk disk mid (λ image. StandsFor image old.store)
        (started on disk (λ image. StandsFor image old.store) (stored_stands on updater disk old holds)) still;
    spends = (0, spends);
  }

  pub rests_reading : (disk mid : D) (fault : Type 0) → Untouched on disk mid → Spends on 0 0 disk mid fault → Rests on disk mid
  rests_reading disk mid fault still spends = record { untouched = still; total = omega (arith, spends.total_later, spends.total_within) }

  -- one after another
  pub passed_then : (updater : Updater) (disk mid last : D) (few more : ℕ) (first second : Type 0) → (first → ⊥)
      → Passed on updater disk mid few first → Passed on updater mid last more second
      → Passed on updater disk last (few + more) second
  passed_then updater disk mid last few more first second none one two = record {
    holds = λ old holds. two.holds old (one.holds old holds);
    stop = λ old holds. then_on on disk mid last (λ image. StandsFor image old.store) (one.stop old holds)
        (two.stop old (one.holds old holds));
    spends = (
      one.spends.0 + two.spends.0,
      spends_then on one.spends.0 few two.spends.0 more disk mid last second
          (spends_as on one.spends.0 few disk mid first ⊥ none (λ no. absurd no) one.spends.1) two.spends.1,
    );
  }
