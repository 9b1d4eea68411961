-- What an updater that holds a store says of images.
use Rattle.std.proofs.Common.{◌≡◌, ◌∙◌, ◌<◌, ◌≤◌, ℕ, List, [], inl, sym, ap, subst, arith}
use Rattle.std.proofs.lemmas.List.Elements.{All-nil}
use Rattle.small_types.specs.declared.limits.TheConstants.{BLOCK_LIMIT}
use Rattle.small_types.specs.declared.room.Room.{Room}
use Rattle.disks.specs.declared.disk.Disk.{Ghosts}
use Rattle.disks.specs.Moments.{Each, LeavesOnly, Untouched}
use Rattle.disks.proofs.MomentLemmas.{each_still, started}
use Rattle.machine.specs.Store as stores
use Rattle.machine.specs.Store.{Session, Store}
use Rattle.machine.specs.Valid.{Valid}
use Rattle.machine.proofs.KeptStores.{empty_valid}
use Rattle.machine.proofs.Lightness.{least_light}
use Rattle.journal.specs.Layout.{AreLimits}
use Rattle.store_state.specs.Shows.{SameFiles, Shows}
use Rattle.store_state.specs.Tables.{Tables, empty}
use Rattle.store_state.proofs.MeasuredTables.{empty_measured}
use Rattle.store_state.proofs.ShownTables.{one_shown, shows_empty}
use Rattle.table_files.specs.Held.{held_by}
use Rattle.table_log.specs.Laws.{ReadsAsOne, StaysAsRead}
use Rattle.table_log.specs.ReadsAs.{IsOpenAs, ReadsAs}
use Rattle.table_log.proofs.Images.{reads_each}
use Rattle.updater.specs.Shown.{Updater}
use Rattle.updater.specs.StandsFor.{ArePlaced, StandsFor, StandsForEither}
use Rattle.updater.specs.Updater.{Holds, tables_of}

module _ {D : Type 0} (on : Ghosts D) (updater : Updater) (disk : D) where
  -- each image that a stop may leave now stands for the store
  pub stored_stands : (session : Session) → Holds on updater disk session → Each on disk (λ image. StandsFor image session.store)
  stored_stands session holds image left = record {
    tables = tables_of updater;
    reads = reads_each on updater.log session.store.room (tables_of updater) disk holds.log image left;
    shows = holds.shows image left;
    valid = holds.valid;
    measured = holds.measured;
    placed = holds.placed;
  }

  -- where the disk is as it was
  pub still_stands : (session : Session) (other : Store) → Holds on updater disk session → LeavesOnly on disk disk (StandsForEither session.store other)
  still_stands session other holds = started on disk (StandsForEither session.store other) (λ image left. inl (stored_stands session holds image left))

  -- it holds each session without jobs over the same store
  pub holds_as : (old new : Session) → Holds on updater disk old → new.store ≡ old.store → new.jobs ≡ [] → Holds on updater disk new
  holds_as old new holds same none = record {
    log = subst (λ (s : Store). IsOpenAs on updater.log s.room (tables_of updater) disk) (sym same) holds.log;
    room = holds.room ∙ ap (λ (s : Store). s.room) (sym same);
    shows = subst (λ (s : Store). Each on disk (λ image. Shows s.room (tables_of updater) image s)) (sym same) holds.shows;
    same = subst (λ (s : Store). Each on disk (SameFiles s.room (tables_of updater) (on.seen disk))) (sym same) holds.same;
    valid = subst Valid (sym same) holds.valid;
    jobs = none;
    measured = holds.measured;
    placed = subst (λ (s : Store). ArePlaced s.room (held_by (tables_of updater))) (sym same) holds.placed;
  }

  -- it holds it still where the disk was only read
  pub holds_read : StaysAsRead on → (later : D) (session : Session) → Untouched on disk later → Holds on updater disk session → Holds on updater later session
  holds_read law later session rests holds = record {
    log = law updater.log session.store.room (tables_of updater) disk later holds.log rests;
    room = holds.room;
    shows = each_still on disk later (λ image. Shows session.store.room (tables_of updater) image session.store) holds.shows rests;
    same = subst (λ (bytes : List ℕ). Each on later (SameFiles session.store.room (tables_of updater) bytes)) (sym rests.same_reads)
        (each_still on disk later (SameFiles session.store.room (tables_of updater) (on.seen disk)) holds.same rests);
    valid = holds.valid;
    jobs = holds.jobs;
    measured = holds.measured;
    placed = holds.placed;
  }

-- bytes stand for one store
pub one_stands : ReadsAsOne → (image : List ℕ) (a b : Store) → StandsFor image a → StandsFor image b → a ≡ b
one_stands once image a b first second =
    let one = once image a.room b.room first.tables second.tables first.reads second.reads in
    let shows : Shows b.room second.tables image a =
    subst (λ (t : Tables). Shows b.room t image a) one.1 (subst (λ (r : Room). Shows r first.tables image a) one.0 first.shows) in
    one_shown b.room second.tables image a b shows second.shows

-- an image that reads as the empty tables stands for the empty store
pub new_stands : (image : List ℕ) (room : Room) → ReadsAs room image empty → room.blocks ≤ BLOCK_LIMIT → AreLimits room.blocks room.half → StandsFor image (stores.empty room)
new_stands image room reads few limits = record {
  tables = empty;
  reads = reads;
  shows = shows_empty room image;
  valid = empty_valid room limits.some few (least_light room (λ some. limits.least));
  measured = empty_measured;
  placed = record { within = All-nil (λ b. b < room.blocks); apart = λ i j d lt within. absurd (omega arith) };
}
