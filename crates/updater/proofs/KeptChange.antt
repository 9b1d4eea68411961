-- A change that is made durable leads from one store that the tables show to another.
use Rattle.std.proofs.Common.{◌≡◌, ◌≢◌, ◌⊎◌, ◌<◌, ◌≤◌, ◌+◌, ◌++◌, ℕ, List, All, Result, Ok, Err, drop, inl, inr, refl, sym, ap, subst, ◌∙◌, arith}
use Rattle.std.specs.Prelude.{OnOk}
use Rattle.std.proofs.lemmas.Bool.{cases_lt}
use Rattle.std.proofs.lemmas.List.{get_or_append_left, length-append}
use Rattle.small_types.specs.Blocks.{blocks_start}
use Rattle.small_types.specs.declared.room.Room.{Room}
use Rattle.disks.specs.declared.disk.Disk.{Ghosts}
use Rattle.disks.specs.Disk.{Only}
use Rattle.disks.specs.Moments.{LeavesOnly}
use Rattle.disks.specs.Outside.{AgreesOutside}
use Rattle.disks.specs.Spends.{Spends}
use Rattle.disks.proofs.Books.{spends_as, spends_none, spends_within}
use Rattle.file_store.specs.Stores.{block_count, free_of}
use Rattle.file_store.specs.declared.store.FileStore.{FileStore}
use Rattle.file_store.proofs.Apart.{apart_front}
use Rattle.machine.specs.Store.{Session, Store}
use Rattle.machine.specs.Weight.{IsLight}
use Rattle.machine.proofs.Lightness.{lighter}
use Rattle.journal.specs.declared.log.Log.{Log}
use Rattle.journal.specs.declared.piece.TheConstants.{AROUND, AROUND_TABLES, BEFORE}
use Rattle.journal.specs.Log.{FitsHalf, half_of, used_of}
use Rattle.store_state.specs.declared.change.Change.{Change}
use Rattle.store_state.specs.Change.{Fits, effect}
use Rattle.store_state.specs.Kept.{AreTables}
use Rattle.store_state.specs.Laws.{MeasuredTablesStay}
use Rattle.store_state.specs.Measured.{AreMeasured, BringsMeasured}
use Rattle.store_state.specs.Shows.{SameFiles, Shows}
use Rattle.store_state.specs.Tables.{Tables}
use Rattle.store_state.proofs.Images.{same_image}
use Rattle.store_state.proofs.ShownTables.{shows_same}
use Rattle.table_files.specs.Freed.{LetsGo}
use Rattle.table_files.specs.Held.{held_by}
use Rattle.table_weight.specs.Laws.{BringsNothing, LightenOthers}
use Rattle.table_weight.specs.Weight.{tables_weight}
use Rattle.table_codec.specs.Laws.{AreWithinTableWeights, ChangesAreWithinWeights, HadFields, StayEncodable}
use Rattle.table_log.specs.declared.fault.StepFault.{StepFault}
use Rattle.table_log.specs.declared.fault.StepFault.TheVariants.{DiskFault, Memory}
use Rattle.table_log.specs.MakesDurable as table_log
use Rattle.table_log.specs.MakesDurable.{FitsNewHalf, IsOldBehind, change_size, tables_size}
use Rattle.table_log.specs.ReadsAs.{IsOpenAs, ReadsAs, ReadsAsEither}
use Rattle.install_plan.specs.Blocks.{UsesBlocks}
use Rattle.updater.specs.KeepsChange.{BringsNow, LeadsBetween, KeepsChange, MayKeep}
use Rattle.updater.specs.Shown.{IsKept, Updater}
use Rattle.updater.specs.StandsFor.{ArePlaced, StandsForEither}
use Rattle.updater.specs.StepCosts.{CostsOf, checkpoint_cost, entry_cost}
use Rattle.updater.specs.Updater.{Holds, room_of, tables_of}
use Rattle.updater.proofs.BlockFrames.{files_behind, new_behind, same_then}
use Rattle.updater.proofs.HeldStore.{still_stands}

-- ---- room

-- what tables with room may weigh, where there are halves
pub most_weight : (room : Room) (weight : ℕ) → 65536 < room.half → IsLight room weight → weight + 65536 ≤ room.half
unfolding IsLight
most_weight room weight long light = by (cases_lt room.half (weight + 65536))
  where
    by : (room.half < weight + 65536) ⊎ (weight + 65536 ≤ room.half) → weight + 65536 ≤ room.half
    by (inl over) = absurd (light ((λ none. omega (arith, long, none)), omega (arith, over)))
    by (inr fits) = fits

module _ (log : Log) (room : Room) (tables : Tables) (change : Change) (is : IsKept log room tables) (are : AreTables tables) (may : MayKeep (record { log = log; room = room; state = tables }) change) where
  old_weight : tables_weight tables + 65536 ≤ room.half
  old_weight = let least = is.limits.least in most_weight room (tables_weight tables) (omega (arith, least)) is.light

  new_weight : tables_weight (effect change tables) + 65536 ≤ room.half
  new_weight = let least = is.limits.least in most_weight room (tables_weight (effect change tables)) (omega (arith, least)) may.light

  -- the changed tables are kept as well
  pub still_kept : StayEncodable → MeasuredTablesStay → (log_new : Log) (tables_new : Tables) → half_of log_new ≡ half_of log → tables_new ≡ effect change tables → IsKept log_new room tables_new
  still_kept stay measures log_new tables_new half same = subst (IsKept log_new room) (sym same) (record {
    encodable = stay tables change are is.encodable may.fits may.has (let most = is.limits.greatest in omega (arith, new_weight, most));
    light = may.light;
    limits = is.limits;
    half = half ∙ is.half;
    measured = measures tables change is.measured may.measured;
  })

  -- the tables and the change's entry fit a half together
  pub new_half_fits : HadFields → AreWithinTableWeights → ChangesAreWithinWeights → FitsNewHalf log tables change
  new_half_fits had within changes =
      omega (arith, within tables are (had tables is.encodable) is.measured, changes tables change are is.encodable may.fits may.has may.measured may.short, old_weight, new_weight, is.half)

  -- and where there was no memory nothing has changed
  pub kept_after : {D T : Type 0} (on : Ghosts D) → StayEncodable → MeasuredTablesStay → (disk : D) (result : Result T StepFault) (log_new : Log) (tables_new : Tables) (disk_new : D) → table_log.MakesDurable on change log tables disk result log_new tables_new disk_new → IsKept log_new room tables_new
  kept_after on stay measures disk (Ok done) log_new tables_new disk_new makes = still_kept stay measures log_new tables_new makes.stores.half (makes.made (λ e. absurd (cc)))
  kept_after on stay measures disk (Err DiskFault) log_new tables_new disk_new makes = still_kept stay measures log_new tables_new makes.stores.half (makes.made (λ e. absurd (cc)))
  kept_after on stay measures disk (Err Memory) log_new tables_new disk_new makes =
      let same = makes.memory refl in
      subst (λ (l : Log). IsKept l room tables_new) (sym same.0) (subst (λ (t : Tables). IsKept log room t) (sym same.1) is)

-- a change by which nothing comes leaves room
pub lighter_room : LightenOthers → (log : Log) (room : Room) (tables : Tables) (change : Change) → IsKept log room tables → AreTables tables → Fits tables change → BringsNothing tables change → IsLight room (tables_weight (effect change tables))
lighter_room others log room tables change is are fits nothing = lighter room (tables_weight (effect change tables)) (tables_weight tables) (others tables change are fits nothing) is.light

-- ---- what it costs

-- what a change may write, and that it wrote no more
record Spent {D : Type 0} (on : Ghosts D) (change : Change) (tables : Tables) (old new : D) (fault : Type 0) : Type 0 where
  pub bytes : ℕ
  pub costs : CostsOf change tables bytes
  pub spends : Spends on 10 bytes old new fault

half_or_not : (log : Log) (n : ℕ) → FitsHalf log n ⊎ (¬ FitsHalf log n)
half_or_not log n = by (cases_lt (half_of log) (used_of log + BEFORE + n))
  where
    by : (half_of log < used_of log + BEFORE + n) ⊎ (used_of log + BEFORE + n ≤ half_of log) → FitsHalf log n ⊎ (¬ FitsHalf log n)
    by (inl over) = inr (λ fits. omega (arith, over, fits))
    by (inr fits) = inl fits

spent_so : {D : Type 0} (on : Ghosts D) (change : Change) (log : Log) (tables : Tables) (old new : D) (fault : Type 0) → tables_size tables ≤ tables_weight tables
    → (FitsHalf log (change_size change) → Spends on 4 (AROUND + change_size change) old new fault)
    → (¬ FitsHalf log (change_size change) → Spends on 10 (AROUND + change_size change + AROUND_TABLES + 1 + tables_size tables) old new fault)
    → Spent on change tables old new fault
spent_so on change log tables old new fault within few many = by (half_or_not log (change_size change))
  where
    by : FitsHalf log (change_size change) ⊎ (¬ FitsHalf log (change_size change)) → Spent on change tables old new fault
    by (inl fits) = record {
      bytes = entry_cost change;
      costs = inl refl;
      spends = spends_within on 4 (AROUND + change_size change) 10 (entry_cost change) old new fault (omega arith) (omega arith) (few fits);
    }
    by (inr none) = record {
      bytes = checkpoint_cost tables + entry_cost change;
      costs = inr refl;
      spends = spends_within on 10 (AROUND + change_size change + AROUND_TABLES + 1 + tables_size tables) 10 (checkpoint_cost tables + entry_cost change) old new fault (omega arith) (omega (arith, within)) (many none);
    }

-- ---- the stores

none_more : (n : ℕ) → 0 + n ≡ n
none_more n = omega arith

module _ {D : Type 0} (on : Ghosts D) (updater : Updater) (disk disk_new : D) (change : Change)
    (measures : BringsMeasured change) (stay : MeasuredTablesStay)
    (old : Session) (new : Store) (leads : LeadsBetween change (tables_of updater) (on.seen disk) old.store new)
    (now : BringsNow on change (tables_of updater) disk old.store new leads) (holds : Holds on updater disk old)
    (behind : LeavesOnly on disk disk_new (IsOldBehind (half_of updater.log) (on.left_at disk (on.moment disk))))
    (seen_left : on.left_at disk (on.moment disk) (on.seen disk)) where
  abbrev room : Room
  room = old.store.room

  abbrev tables : Tables
  tables = tables_of updater

  abbrev changed : Tables
  changed = effect change tables

  -- what stands behind the halves is that of an old image
  blocks_same : (before image : List ℕ) → AgreesOutside 0 (blocks_start (half_of updater.log)) before image
      → drop (blocks_start room.half) image ≡ drop (blocks_start room.half) before
  blocks_same before image agrees =
      subst (λ (n : ℕ). drop n image ≡ drop n before)
      (none_more (blocks_start (half_of updater.log)) ∙ ap blocks_start holds.log.half) agrees.after

  abbrev IsBehind : List ℕ → Type 0
  IsBehind = IsOldBehind (half_of updater.log) (on.left_at disk (on.moment disk))

  -- an image has the same files as reads gave
  same_there : (image : List ℕ) → IsBehind image → SameFiles room tables (on.seen disk) image
  same_there image was =
      let shows = holds.shows was.0 was.1 in
      same_then room tables (on.seen disk) was.0 image (holds.same was.0 was.1)
      (files_behind room was.0 image (blocks_same was.0 image was.2) tables holds.measured shows.whole shows.measured)

  old_shows : (image : List ℕ) → IsBehind image → Shows room tables image old.store
  old_shows image was = shows_same image (same_there image was) (holds.shows (on.seen disk) seen_left)

  led_shows : (image : List ℕ) → IsBehind image → Shows room changed image new
  led_shows image was =
      leads.shows.shows image (same_there image was)
      (new_behind room was.0 image (blocks_same was.0 image was.2) change leads.bytes measures (now was.0 was.1))

  -- reads give one of these images
  seen_behind : on.moment disk ≤ on.moment disk_new → on.left_at disk_new (on.moment disk_new) (on.seen disk_new) → IsBehind (on.seen disk_new)
  seen_behind later left = behind.each (on.moment disk_new) (on.seen disk_new) later (omega arith) left

  module _ (left : on.left_at disk_new (on.moment disk_new) (on.seen disk_new)) where
    room_stays : room ≡ new.room
    room_stays = sym (ap (λ (s : Store). s.room) (led_shows (on.seen disk_new) (seen_behind behind.later left)).is)

    new_shows : (image : List ℕ) → IsBehind image → Shows new.room changed image new
    new_shows image was = subst (λ (r : Room). Shows r changed image new) room_stays (led_shows image was)

    -- once it is made
    pub holds_more : (log_new : Log) (tables_new : Tables) → tables_new ≡ changed → IsOpenAs on log_new room changed disk_new
        → Only (on.seen disk_new) (on.left_at disk_new (on.moment disk_new))
        → ArePlaced room (held_by changed)
        → Holds on (record { log = log_new; room = room_of updater; state = tables_new }) disk_new (record old { store = new })
    holds_more log_new tables_new is opened durable there = record {
      log = subst (λ (t : Tables). IsOpenAs on log_new new.room t disk_new) (sym is) (subst (λ (r : Room). IsOpenAs on log_new r changed disk_new) room_stays opened);
      room = holds.room ∙ room_stays;
      shows = λ image kept. subst (λ (t : Tables). Shows new.room t image new) (sym is) (new_shows image (behind.each (on.moment disk_new) image behind.later (omega arith) kept));
      same = λ image kept. subst (SameFiles new.room tables_new (on.seen disk_new)) (sym (durable image kept)) (same_image new.room tables_new (on.seen disk_new));
      valid = leads.valid;
      jobs = holds.jobs;
      measured = subst AreMeasured (sym is) (stay tables change holds.measured measures);
      placed = subst (λ (t : Tables). ArePlaced new.room (held_by t)) (sym is) (subst (λ (r : Room). ArePlaced r (held_by changed)) room_stays there);
    }

    -- while it is made
    pub either_store : ArePlaced room (held_by changed) → LeavesOnly on disk disk_new (ReadsAsEither room tables changed) → LeavesOnly on disk disk_new (StandsForEither old.store new)
    either_store there leaves = record {
      later = leaves.later;
      past = leaves.past;
      each = λ t image from to kept. either image (behind.each t image from to kept) (leaves.each t image from to kept);
    }
      where
        either : (image : List ℕ) → IsBehind image → ReadsAsEither room tables changed image → StandsForEither old.store new image
        either image was (inl reads) = inl (record {
          tables = tables;
          reads = reads;
          shows = old_shows image was;
          valid = holds.valid;
          measured = holds.measured;
          placed = holds.placed;
        })
        either image was (inr reads) = inr (record {
          tables = changed;
          reads = subst (λ (r : Room). ReadsAs r image changed) room_stays reads;
          shows = new_shows image was;
          valid = leads.valid;
          measured = stay tables change holds.measured measures;
          placed = subst (λ (r : Room). ArePlaced r (held_by changed)) room_stays there;
        })

-- ---- the durable step

module _ {D : Type 0} (on : Ghosts D) (log : Log) (room : Room) (tables : Tables) (disk : D) (change : Change) (may : MayKeep (record { log = log; room = room; state = tables }) change)
    (stay : MeasuredTablesStay) (within : tables_size tables ≤ tables_weight tables) (seen_left : (d : D) → on.left_at d (on.moment d) (on.seen d))
    (placed : ArePlaced room (held_by (effect change tables))) where
  abbrev updater : Updater
  updater = record { log = log; room = room; state = tables }

  pub kept_by : {T : Type 0} (result : Result T StepFault) (log_new : Log) (tables_new : Tables) (disk_new : D) → table_log.MakesDurable on change log tables disk result log_new tables_new disk_new
      → KeepsChange on change updater disk result (record { log = log_new; room = room; state = tables_new }) disk_new
  kept_by {T = T} result log_new tables_new disk_new makes =
      let spent = spent_so on change log tables disk disk_new (result ≡ Err DiskFault) within makes.spends makes.spends_more in
      record {
        fits = may.fits;
        has = may.has;
        measured = may.measured;
        stored = λ told old new leads now holds. stored result makes.made makes.stores.durable old new leads now holds (makes.stores.opened old.store.room holds.log);
        stop = λ told old new leads now holds.
            either_store on updater disk disk_new change may.measured stay old new leads now holds makes.stores.behind (seen_left disk) (seen_left disk_new)
            (there old holds) (makes.stores.stop old.store.room holds.log);
        past = makes.stores.behind.past;
        memory = λ e. let same = makes.memory e in (as_was same.0 same.1, same.2);
        needs = λ e. inl (makes.needs e);
        marked = makes.stores.marked;
        bytes = spent.bytes;
        costs = spent.costs;
        spends = spent.spends;
      }
    where
      there : (old : Session) → Holds on updater disk old → ArePlaced old.store.room (held_by (effect change tables))
      there old holds = subst (λ (r : Room). ArePlaced r (held_by (effect change tables))) holds.room placed

      stored : (ended : Result T StepFault) → (ended ≢ Err Memory → tables_new ≡ effect change tables)
          → OnOk ended (Only (on.seen disk_new) (on.left_at disk_new (on.moment disk_new)))
          → (old : Session) (new : Store) (leads : LeadsBetween change tables (on.seen disk) old.store new) → BringsNow on change tables disk old.store new leads → Holds on updater disk old
          → OnOk ended (IsOpenAs on log_new old.store.room (effect change tables) disk_new)
          → OnOk ended (Holds on (record { log = log_new; room = room; state = tables_new }) disk_new (record old { store = new }))
      stored (Ok done) made durable old new leads now holds opened =
          holds_more on updater disk disk_new change may.measured stay old new leads now holds makes.stores.behind (seen_left disk) (seen_left disk_new)
          log_new tables_new (made (λ e. let no : ◌≡◌ {A = Result T StepFault} (Ok done) (Err Memory) = e in absurd (cc))) opened durable (there old holds)
      stored (Err fault) made durable old new leads now holds opened = tt

      as_was : log_new ≡ log → tables_new ≡ tables → ◌≡◌ {A = Updater} (record { log = log_new; room = room; state = tables_new }) (record { log = log; room = room; state = tables })
      as_was one two = ap (λ (l : Log). record { log = l; room = room; state = tables_new }) one ∙ ap (λ (t : Tables). record { log = log; room = room; state = t }) two

all_front : (P : ℕ → Type 0) (xs ys : List ℕ) → All P (xs ++ ys) → All P xs
all_front P xs ys all k d low = subst P (get_or_append_left xs ys d k low) (all k d (omega (arith, length-append xs ys)))

-- the blocks that the changed tables hold are in use
pub placed_behind : (files : FileStore) (room : Room) (held others : List ℕ) → UsesBlocks files room (held ++ others) → ArePlaced room held
placed_behind files its held others uses = record {
  within = subst (λ (n : ℕ). All (λ b. b < n) held) uses.number (all_front (λ b. b < block_count files) held others uses.used.within);
  apart = apart_front held others (apart_front (held ++ others) (free_of files) uses.used.apart);
}

-- what is let go could not be listed for want of memory
pub unlisted : {D T : Type 0} (on : Ghosts D) (change : Change) (updater : Updater) (disk : D) → MayKeep updater change → LetsGo change
    → KeepsChange {T = T} on change updater disk (Err Memory) updater disk
unlisted {T = T} on change kept disk may goes = record {
  fits = may.fits;
  has = may.has;
  measured = may.measured;
  stored = λ told old new leads now holds. tt;
  stop = λ told old new leads now holds. still_stands on kept disk old new holds;
  past = λ t image to left. left;
  memory = λ e. (refl, refl);
  needs = λ e. inr goes;
  marked = tt;
  bytes = entry_cost change;
  costs = inl refl;
  spends = spends_within on 0 0 10 (entry_cost change) disk disk _ (omega arith) (omega arith)
      (spends_as on 0 0 disk disk _ _ (λ none. absurd none) (λ e. let no : ◌≡◌ {A = Result T StepFault} (Err Memory) (Err DiskFault) = e in absurd (cc)) (spends_none on disk));
}
