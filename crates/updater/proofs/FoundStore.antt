-- What reading a store finds.
use Rattle.std.proofs.Common.{◌≡◌, ◌≢◌, ◌+◌, ◌≤◌, ℕ, List, Result, Err, map, refl, sym, ap, subst, ◌∙◌, arith}
use Rattle.std.specs.Prelude.{IfOk}
use Rattle.small_types.specs.declared.limits.TheConstants.{BLOCK_LIMIT}
use Rattle.small_types.specs.declared.room.Room.{Room}
use Rattle.disks.specs.declared.disk.Disk.{Ghosts}
use Rattle.disks.specs.Moments.{Untouched}
use Rattle.disks.specs.Spends.{Spends}
use Rattle.disks.proofs.Books.{spends_as, spends_none, spends_then}
use Rattle.disks.proofs.MomentLemmas.{each_still, reads_on, untouched_start}
use Rattle.machine.specs.Blocks.{used_blocks}
use Rattle.machine.specs.Shape.{BareView, bare_view}
use Rattle.machine.specs.Store.{Store, session_over}
use Rattle.machine.specs.Valid.{Valid}
use Rattle.machine.specs.Weight.{IsLight, weight_of}
use Rattle.file_store.specs.declared.store.FileStore.{FileStore}
use Rattle.journal.specs.declared.log.Log.{Log}
use Rattle.store_state.specs.Kept.{AreTables}
use Rattle.store_state.specs.Measured.{AreMeasured}
use Rattle.store_state.specs.Shows.{SameFiles, Shows}
use Rattle.store_state.specs.Tables.{Tables, bare_row}
use Rattle.store_state.proofs.Images.{same_image}
use Rattle.table_check.specs.Laws.{OrderedTablesAreOfOrderedStores, OrderedTablesShowAStore}
use Rattle.table_codec.specs.Laws.{AreEncodable}
use Rattle.table_weight.specs.Laws.{WeighAsShown}
use Rattle.table_weight.specs.Weight.{tables_weight}
use Rattle.table_log.specs.declared.fault.OpenFault.{OpenFault as TablesFault}
use Rattle.table_log.specs.declared.fault.OpenFault.TheVariants as read_fault
use Rattle.table_log.specs.declared.recovery.OpenTables.{OpenTables}
use Rattle.table_files.specs.Held.{held_by}
use Rattle.table_log.specs.declared.rooms.Rooms.{Rooms}
use Rattle.table_log.specs.Laws.{ReadsAsOne, StaysAsRead}
use Rattle.table_log.specs.ReadsAs.{IsOpenAs, ReadsAs, ReadsAsNone}
use Rattle.table_log.specs.Recovers.{HasRoom, Recovers}
use Rattle.updater.specs.declared.fault.RecoverFault.{RecoverFault}
use Rattle.updater.specs.declared.fault.RecoverFault.TheVariants.{DiskFault, NotAStore}
use Rattle.updater.specs.FilesOpened.{IsWholeStore, OpensFiles}
use Rattle.updater.specs.Loaded.{IsLoaded, Loaded}
use Rattle.updater.specs.Shown.{IsKept, Updater}
use Rattle.updater.specs.StoreTables.{AreOfStore, HasAllFiles}
use Rattle.updater.specs.StandsFor.{ArePlaced, StandsForNone}
use Rattle.updater.proofs.ChangedStores.{apps_shown, blocks_shown, views_shown}
use Rattle.updater.proofs.KeptChange.{most_weight}
use Rattle.updater.proofs.HeldStore.{holds_read}

-- ---- the store of tables

-- a valid store that tables show
pub record ShowsValid (room : Room) (tables : Tables) (image : List ℕ) : Type 0 where
  pub store : Store
  pub shows : Shows room tables image store
  pub valid : Valid store

-- tables of a store show one
pub shows_valid : OrderedTablesShowAStore → WeighAsShown → (room : Room) (tables : Tables) (image : List ℕ) → AreTables tables → 1 ≤ room.blocks → AreOfStore room tables → HasAllFiles room image tables → ShowsValid room tables image
shows_valid show weigh room tables image are some of all =
    let shown = show room tables image are of.ordered some of.few_blocks all.contents all.locals in
    record {
      store = shown.store;
      shows = shown.shows;
      valid = shown.valid of.within (subst (IsLight room) (weigh tables are) of.light);
    }

-- and an updater may keep them
pub kept_of_store : AreEncodable → (opened : OpenTables) → AreTables opened.state → HasRoom opened → AreOfStore opened.room opened.state → IsKept opened.log opened.room opened.state
kept_of_store encodable opened are has of =
    let least = has.limits.least in
    let most = has.limits.greatest in
    let light = most_weight opened.room (tables_weight opened.state) (omega (arith, least)) of.light in
    record {
      encodable = encodable opened.state are has.fields (omega (arith, light, most));
      light = of.light;
      limits = has.limits;
      half = has.half;
      measured = of.measured;
    }

-- what tables weigh is what the machine says of the store that they show
weighed : WeighAsShown → (room : Room) (tables : Tables) (image : List ℕ) (store : Store) → AreTables tables → Shows room tables image store → weight_of (map bare_view store.views) store.apps ≡ tables_weight tables
weighed weigh room tables image store are shows =
    ap (λ (vs : List BareView). weight_of vs store.apps) (views_shown shows)
    ∙ ap (weight_of (map bare_row tables.views)) (apps_shown shows)
    ∙ sym (weigh tables are)

-- Other tables are those of no store, as are those whose blocks are not in their places, or of whose
-- files bytes are missing.
pub of_no_store : ReadsAsOne → OrderedTablesAreOfOrderedStores → WeighAsShown → (image : List ℕ) (room : Room) (tables : Tables) → AreTables tables → 1 ≤ room.blocks → ReadsAs room image tables
    → ¬ IsWholeStore room image tables → StandsForNone image
of_no_store once exact weigh image room tables are some reads none store stands =
    let one = once image store.room room stands.tables tables stands.reads reads in
    let shows : Shows room tables image store =
    subst (λ (t : Tables). Shows room t image store) one.1 (subst (λ (r : Room). Shows r stands.tables image store) one.0 stands.shows) in
    let few = subst (λ (r : Room). r.blocks ≤ BLOCK_LIMIT) one.0 stands.valid.ordered.few_blocks in
    let used = subst (λ (r : Room). used_blocks (map bare_view store.views) ≤ r.blocks) one.0 stands.valid.room in
    let light = subst (λ (r : Room). IsLight r (weight_of (map bare_view store.views) store.apps)) one.0 stands.valid.light in
    none (record {
      of_store = record {
        few_blocks = few;
        within = subst (λ (vs : List BareView). used_blocks vs ≤ room.blocks) (views_shown shows) used;
        light = subst (IsLight room) (weighed weigh room tables image store are shows) light;
        ordered = (exact room tables image store are some few shows).1 stands.valid.ordered;
        measured = subst AreMeasured one.1 stands.measured;
      };
      placed = subst (λ (r : Room). ArePlaced r (held_by tables)) one.0 (subst (λ (t : Tables). ArePlaced store.room (held_by t)) one.1 stands.placed);
      files = record { contents = shows.whole; locals = shows.measured };
    })

-- what reads as no tables stands for no store
pub of_none : (image : List ℕ) → ReadsAsNone image → StandsForNone image
of_none image none store stands = none store.room stands.tables stands.reads

-- ---- the whole reading

-- What judging the tables finds. It reads at most the length of the disk, which stays.
pub record Judged {D : Type 0} (on : Ghosts D) (mid : D) (result : Result Updater RecoverFault) (disk_new : D) : Type 0 where
  pub still : Untouched on mid disk_new
  pub spends : Spends on 0 0 mid disk_new (result ≡ Err DiskFault)

-- it ends as judging does
pub judged : {D : Type 0} (on : Ghosts D) (room : Room) (tables : Tables) (mid disk_new : D) (opened : Result (FileStore × Rooms) RecoverFault) → OpensFiles on room tables mid opened disk_new
    → (result : Result Updater RecoverFault) → (opened ≡ Err DiskFault → result ≡ Err DiskFault) → (result ≡ Err DiskFault → opened ≡ Err DiskFault) → Judged on mid result disk_new
judged on room tables mid disk_new opened opens result to from = record {
  still = opens.still;
  spends = spends_as on 0 0 mid disk_new (opened ≡ Err DiskFault) (result ≡ Err DiskFault) to from opens.spends;
}

module _ {D : Type 0} (on : Ghosts D) (disk_old mid disk_new : D) (read : Result OpenTables TablesFault) (recovers : Recovers on disk_old read mid) where
  -- the store is held
  pub store_found : StaysAsRead on → on.left_at mid (on.moment mid) (on.seen mid) → (log : Log) (room : Room) (tables : Tables)
      → read ≢ Err read_fault.DiskFault → Untouched on mid disk_new
      → AreMeasured tables → ArePlaced room (held_by tables) → ShowsValid room tables (on.seen mid)
      → ReadsAs room (on.seen disk_old) tables → IsOpenAs on log room tables mid
      → IsLoaded on disk_old (record { log = log; room = room; state = tables }) disk_new
  store_found law left log room tables whole rests measured placed shown reads opened =
      let same = sym (blocks_shown shown.shows) in
      let durable = recovers.durable whole in
      let seen : on.seen mid ≡ on.seen disk_old = recovers.seen in
      let its_place = subst (λ (r : Room). ArePlaced r (held_by tables)) same placed in
      record {
        store = shown.store;
        stands = record {
          tables = tables;
          reads = subst (λ (r : Room). ReadsAs r (on.seen disk_old) tables) same reads;
          shows = subst (λ (r : Room). Shows r tables (on.seen disk_old) shown.store) same
              (subst (λ (bytes : List ℕ). Shows room tables bytes shown.store) seen shown.shows);
          valid = shown.valid;
          measured = measured;
          placed = its_place;
        };
        holds = holds_read on (record { log = log; room = room; state = tables }) mid law disk_new (session_over shown.store) rests (record {
          log = subst (λ (r : Room). IsOpenAs on log r tables mid) same opened;
          room = same;
          shows = λ image there. subst (λ (r : Room). Shows r tables image shown.store) same
              (subst (λ (bytes : List ℕ). Shows room tables bytes shown.store) (seen ∙ sym (durable image there)) shown.shows);
          same = λ image there. subst (SameFiles shown.store.room tables (on.seen mid))
              (seen ∙ sym (durable image there)) (same_image shown.store.room tables (on.seen mid));
          valid = shown.valid;
          jobs = refl;
          measured = measured;
          placed = its_place;
        });
      }

  -- all was read, and judged
  pub all_read : (result : Result Updater RecoverFault) → read ≢ Err read_fault.DiskFault → Judged on mid result disk_new
      → (on.tells disk_new → IfOk result (λ updater. IsLoaded on disk_old updater disk_new)) → (on.tells disk_new → result ≡ Err NotAStore → StandsForNone (on.seen disk_old)) → Loaded on disk_old result disk_new
  all_read result whole ends found none = record {
    found = found;
    not_a_store = none;
    seen = ends.still.same_reads ∙ recovers.seen;
    stop = reads_on on disk_old mid disk_new (on.left_at disk_old (on.moment disk_old)) recovers.stop ends.still;
    durable = λ other. each_still on mid disk_new (λ image. image ≡ on.seen disk_old) (recovers.durable whole) ends.still;
    synced = λ other. subst (λ (n : ℕ). on.moment disk_old + 1 ≤ n) (sym ends.still.no_tick) (recovers.synced whole);
    spends = spends_then on 1 0 0 0 disk_old mid disk_new (result ≡ Err DiskFault)
        (spends_as on 1 0 disk_old mid (read ≡ Err read_fault.DiskFault) ⊥ whole (λ no. absurd no) recovers.spends) ends.spends;
  }

-- the disk failed before
module _ {D : Type 0} (on : Ghosts D) (disk_old disk_new : D) (read : Result OpenTables TablesFault) (recovers : Recovers on disk_old read disk_new) where
  -- nothing was judged
  pub unjudged : (result : Result Updater RecoverFault) → result ≢ Err DiskFault → Judged on disk_new result disk_new
  unjudged result fine = record {
    still = untouched_start on disk_new;
    spends = spends_as on 0 0 disk_new disk_new _ _ (λ none. absurd none) (λ e. absurd (fine e)) (spends_none on disk_new);
  }

  pub disk_failed : read ≡ Err read_fault.DiskFault → Loaded on disk_old (Err DiskFault) disk_new
  disk_failed is = record {
    found = λ told. tt;
    not_a_store = λ told e. absurd (let clash : DiskFault ≡ NotAStore = err_is e in cc);
    seen = recovers.seen;
    stop = recovers.stop;
    durable = λ fine. absurd (fine refl);
    synced = λ fine. absurd (fine refl);
    spends = spends_as on 1 0 disk_old disk_new _ _ (λ f. refl) (λ e. is) recovers.spends;
  }
    where
      err_is : {fault told : RecoverFault} → ◌≡◌ {A = Result Updater RecoverFault} (Err fault) (Err told) → fault ≡ told
      err_is e = cc
