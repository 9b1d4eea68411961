-- What an append, a checkpoint and both of them store.
use Rattle.std.proofs.Common.{◌≡◌, ℕ, ◌+◌, ◌≤◌, List, [], ◌∷◌, ◌++◌, Result, Ok, Err, inl, inr, refl, subst, ◌∙◌, arith}
use Rattle.std.specs.Prelude.{OnOk}
use Rattle.small_types.specs.declared.room.Room.{Room}
use Rattle.disks.specs.declared.disk.Disk.{Ghosts}
use Rattle.disks.specs.Disk.{Only}
use Rattle.disks.specs.Moments.{LeavesOnly}
use Rattle.disks.specs.Outside.{AgreesOutside, IsOldOutside}
use Rattle.disks.proofs.MomentLemmas.{started, then_on, weaker}
use Rattle.disks.proofs.OutsideLemmas.{agrees_same, agrees_then}
use Rattle.journal.specs.declared.log.Log.{Log}
use Rattle.small_types.specs.Blocks.{blocks_start}
use Rattle.journal.specs.Log.{IsEither, IsOpen, half_of}
use Rattle.record_codec.specs.Codec.{change_text}
use Rattle.store_state.specs.declared.change.Change.{Change}
use Rattle.store_state.specs.Change.{Fits, effect}
use Rattle.store_state.specs.Tables.{Tables}
use Rattle.table_log.specs.declared.fault.StepFault.{StepFault}
use Rattle.table_log.specs.MakesDurable.{AddsOrFails, AgreesBehind, IsOldBehind, Stores}
use Rattle.table_log.specs.ReadsAs.{IsOpenAs, ReadsAs, ReadsAsEither}
use Rattle.table_log.specs.Texts.{Encodes, LeadTo, Spells}
use Rattle.table_log.proofs.Images.{reads_each, reads_so}
use Rattle.table_log.proofs.LoadedTables.{loads-push}
use Rattle.table_log.proofs.Outside.{agrees_behind, behind_start, behind_then, old_behind}

-- texts that lead to tables, and the entry of a change that fits these behind them
pub lead_more : (change : Change) (tables : Tables) (entry text : List ℕ) (changes : List (List ℕ)) → Encodes change entry → Fits tables change → LeadTo text changes tables → LeadTo text (changes ++ entry ∷ []) (effect change tables)
lead_more change tables entry text changes encodes fits lead = record {
  base = lead.base;
  spells = lead.spells;
  loads = loads-push lead.base tables changes change entry lead.loads encodes fits;
}

-- tables that a text spells, and no change
pub lead_base : (tables : Tables) (text : List ℕ) → Spells tables text → LeadTo text [] tables
lead_base tables text spells = record { base = tables; spells = spells; loads = refl }

-- what an append promises of a log and of a disk
pub record Appended {D : Type 0} (on : Ghosts D) (entry : List ℕ) (log_old : Log) (disk_old : D) (log_new : Log) (disk_new : D) : Type 0 where
  pub place : ℕ
  pub n : ℕ
  pub within : place + n ≤ blocks_start (half_of log_old)
  pub any : (blocks : ℕ) (text : List ℕ) (changes : List (List ℕ)) → IsOpen on log_old blocks text changes disk_old
      → LeavesOnly on disk_old disk_new (IsEither blocks (half_of log_old) text changes text (changes ++ entry ∷ []))
  pub outside : LeavesOnly on disk_old disk_new (IsOldOutside place n (on.left_at disk_old (on.moment disk_old)))
  pub reads : AgreesOutside place n (on.seen disk_old) (on.seen disk_new)
  pub half : half_of log_new ≡ half_of log_old
  pub calls : on.moment disk_new ≤ on.moment disk_old + 4

module _ {D : Type 0} (on : Ghosts D) (change : Change) (tables : Tables) (entry : List ℕ) (encodes : Encodes change entry) (fits : Fits tables change) (log_old log_new : Log) (disk_old disk_new : D) (call : Appended on entry log_old disk_old log_new disk_new) where
  append_stop : (room : Room) → IsOpenAs on log_old room tables disk_old → LeavesOnly on disk_old disk_new (ReadsAsEither room tables (effect change tables))
  append_stop room is = weaker on disk_old disk_new _ _ either (call.any room.blocks is.text is.changes is.opened)
    where
      either : (image : List ℕ) → IsEither room.blocks (half_of log_old) is.text is.changes is.text (is.changes ++ entry ∷ []) image → ReadsAsEither room tables (effect change tables) image
      either image (inl journal) = inl (reads_so log_old room tables image is.text is.changes is.half is.lead journal)
      either image (inr journal) = inr (reads_so log_old room (effect change tables) image is.text (is.changes ++ entry ∷ []) is.half (lead_more change tables entry is.text is.changes encodes fits is.lead) journal)

  append_opened : ((blocks : ℕ) (text : List ℕ) (changes : List (List ℕ)) → IsOpen on log_old blocks text changes disk_old → IsOpen on log_new blocks text (changes ++ entry ∷ []) disk_new)
      → (room : Room) → IsOpenAs on log_old room tables disk_old → IsOpenAs on log_new room (effect change tables) disk_new
  append_opened opens room is = record {
    text = is.text;
    changes = is.changes ++ entry ∷ [];
    opened = opens room.blocks is.text is.changes is.opened;
    half = call.half ∙ is.half;
    lead = lead_more change tables entry is.text is.changes encodes fits is.lead;
  }

  -- the change is added to the log as it was
  append_adds : {T : Type 0} (result : Result T StepFault) → ((blocks : ℕ) (text : List ℕ) (changes : List (List ℕ)) → IsOpen on log_old blocks text changes disk_old → OnOk result (IsOpen on log_new blocks text (changes ++ entry ∷ []) disk_new))
      → (room : Room) → IsOpenAs on log_old room tables disk_old → AddsOrFails on room change tables disk_old result log_new disk_new
  append_adds result opens room is = inl (record {
    log = log_old;
    disk = disk_old;
    same = started on disk_old _ (λ image left. reads_each on log_old room tables disk_old is image left);
    opened = is;
    stop = subst (λ (h : ℕ). LeavesOnly on disk_old disk_new (IsEither room.blocks h is.text is.changes is.text (is.changes ++ change_text change ∷ []))) is.half
        (subst (λ (t : List ℕ). LeavesOnly on disk_old disk_new (IsEither room.blocks (half_of log_old) is.text is.changes is.text (is.changes ++ t ∷ []))) encodes.is (call.any room.blocks is.text is.changes is.opened));
    added = subst (λ (t : List ℕ). OnOk result (IsOpen on log_new room.blocks is.text (is.changes ++ t ∷ []) disk_new)) encodes.is (opens room.blocks is.text is.changes is.opened);
    within = call.calls;
  })

  pub append_done : {T : Type 0} (done : T) → ((blocks : ℕ) (text : List ℕ) (changes : List (List ℕ)) → IsOpen on log_old blocks text changes disk_old → IsOpen on log_new blocks text (changes ++ entry ∷ []) disk_new)
      → Only (on.seen disk_new) (on.left_at disk_new (on.moment disk_new)) → on.moment disk_new ≡ on.moment disk_old + 4 → Stores {T = T} on change tables log_old disk_old (Ok done) log_new disk_new
  append_done done opens durable tick = record {
    opened = append_opened opens;
    stop = append_stop;
    adds = append_adds (Ok done) opens;
    durable = durable;
    behind = old_behind on call.place call.n (half_of log_old) disk_old disk_new call.within call.outside;
    reads_behind = agrees_behind call.place call.n (half_of log_old) (on.seen disk_old) (on.seen disk_new) call.within call.reads;
    half = call.half;
    marked = omega (arith, tick);
  }

  pub append_failed : {T : Type 0} (fault : StepFault) → Stores {T = T} on change tables log_old disk_old (Err fault) log_new disk_new
  append_failed fault = record {
    opened = λ room is. tt;
    stop = append_stop;
    adds = append_adds (Err fault) (λ blocks text changes is. tt);
    durable = tt;
    behind = old_behind on call.place call.n (half_of log_old) disk_old disk_new call.within call.outside;
    reads_behind = agrees_behind call.place call.n (half_of log_old) (on.seen disk_old) (on.seen disk_new) call.within call.reads;
    half = call.half;
    marked = tt;
  }

-- what a checkpoint promises
pub record Turned {D : Type 0} (on : Ghosts D) (text_new : List ℕ) (log_old : Log) (disk_old : D) (log_new : Log) (disk_new : D) : Type 0 where
  pub place : ℕ
  pub n : ℕ
  pub within : place + n ≤ blocks_start (half_of log_old)
  pub any : (blocks : ℕ) (text : List ℕ) (changes : List (List ℕ)) → IsOpen on log_old blocks text changes disk_old
      → LeavesOnly on disk_old disk_new (IsEither blocks (half_of log_old) text changes text_new [])
  pub outside : LeavesOnly on disk_old disk_new (IsOldOutside place n (on.left_at disk_old (on.moment disk_old)))
  pub reads : AgreesOutside place n (on.seen disk_old) (on.seen disk_new)
  pub half : half_of log_new ≡ half_of log_old

later : {T : Type 0} (result : Result T StepFault) (old mid new : ℕ) → old ≤ mid → OnOk result (mid + 1 ≤ new) → OnOk result (old + 1 ≤ new)
later (Ok done) old mid new before after = omega (arith, before, after)
later (Err fault) old mid new before after = tt

-- a checkpoint of the old tables
module _ {D : Type 0} (on : Ghosts D) (tables : Tables) (text : List ℕ) (spells : Spells tables text) (log_old log_mid : Log) (disk_old disk_mid : D) (call : Turned on text log_old disk_old log_mid disk_mid) where
  -- inside it each image reads as them
  pub turn_stop : (room : Room) → IsOpenAs on log_old room tables disk_old → LeavesOnly on disk_old disk_mid (λ image. ReadsAs room image tables)
  turn_stop room is = weaker on disk_old disk_mid _ _ same (call.any room.blocks is.text is.changes is.opened)
    where
      same : (image : List ℕ) → IsEither room.blocks (half_of log_old) is.text is.changes text [] image → ReadsAs room image tables
      same image (inl journal) = reads_so log_old room tables image is.text is.changes is.half is.lead journal
      same image (inr journal) = reads_so log_old room tables image text [] is.half (lead_base tables text spells) journal

  -- and after it the log is open as them
  pub turn_opened : ((blocks : ℕ) (base : List ℕ) (changes : List (List ℕ)) → IsOpen on log_old blocks base changes disk_old → IsOpen on log_mid blocks text [] disk_mid)
      → (room : Room) → IsOpenAs on log_old room tables disk_old → IsOpenAs on log_mid room tables disk_mid
  turn_opened opens room is = record {
    text = text;
    changes = [];
    opened = opens room.blocks is.text is.changes is.opened;
    half = call.half ∙ is.half;
    lead = lead_base tables text spells;
  }

-- behind the halves it leaves all as it was
module _ {D : Type 0} (on : Ghosts D) (text : List ℕ) (log_old log_mid : Log) (disk_old disk_mid : D) (call : Turned on text log_old disk_old log_mid disk_mid) where
  pub turn_behind : LeavesOnly on disk_old disk_mid (IsOldBehind (half_of log_old) (on.left_at disk_old (on.moment disk_old)))
  turn_behind = old_behind on call.place call.n (half_of log_old) disk_old disk_mid call.within call.outside

  pub turn_reads : AgreesBehind (half_of log_old) (on.seen disk_old) (on.seen disk_mid)
  turn_reads = agrees_behind call.place call.n (half_of log_old) (on.seen disk_old) (on.seen disk_mid) call.within call.reads

-- what beginning the other half with the tables promises, whatever comes of it
pub record Begun {D : Type 0} (on : Ghosts D) (tables : Tables) (log_old : Log) (disk_old : D) (log_mid : Log) (disk_mid : D) : Type 0 where
  pub same : (room : Room) → IsOpenAs on log_old room tables disk_old → LeavesOnly on disk_old disk_mid (λ image. ReadsAs room image tables)
  pub behind : LeavesOnly on disk_old disk_mid (IsOldBehind (half_of log_old) (on.left_at disk_old (on.moment disk_old)))
  pub reads_behind : AgreesBehind (half_of log_old) (on.seen disk_old) (on.seen disk_mid)
  pub half : half_of log_mid ≡ half_of log_old

module _ {D : Type 0} (on : Ghosts D) (change : Change) (tables : Tables) (log_old log_mid : Log) (disk_old disk_mid : D) (begun : Begun on tables log_old disk_old log_mid disk_mid) where
  turn_either : (room : Room) → IsOpenAs on log_old room tables disk_old → LeavesOnly on disk_old disk_mid (ReadsAsEither room tables (effect change tables))
  turn_either room is = weaker on disk_old disk_mid _ _ (λ image reads. inl reads) (begun.same room is)

  pub turn_failed : {T : Type 0} (fault : StepFault) → Stores {T = T} on change tables log_old disk_old (Err fault) log_mid disk_mid
  turn_failed fault = record {
    opened = λ room is. tt;
    stop = turn_either;
    adds = λ room is. inr (refl, begun.same room is);
    durable = tt;
    behind = begun.behind;
    reads_behind = begun.reads_behind;
    half = begun.half;
    marked = tt;
  }

  -- what comes behind it comes behind both
  turn_adds : {T : Type 0} (result : Result T StepFault) (log_new : Log) (disk_new : D) (room : Room) → IsOpenAs on log_old room tables disk_old
      → AddsOrFails on room change tables disk_mid result log_new disk_new → AddsOrFails on room change tables disk_old result log_new disk_new
  turn_adds result log_new disk_new room is (inl adds) = inl (record {
    log = adds.log;
    disk = adds.disk;
    same = then_on on disk_old disk_mid adds.disk _ (begun.same room is) adds.same;
    opened = adds.opened;
    stop = adds.stop;
    added = adds.added;
    within = adds.within;
  })
  turn_adds result log_new disk_new room is (inr fails) = inr (fails.0, then_on on disk_old disk_mid disk_new _ (begun.same room is) fails.1)

  pub turn_stored : {T : Type 0} (result : Result T StepFault) (log_new : Log) (disk_new : D) → ((room : Room) → IsOpenAs on log_old room tables disk_old → IsOpenAs on log_mid room tables disk_mid)
      → Stores on change tables log_mid disk_mid result log_new disk_new → Stores on change tables log_old disk_old result log_new disk_new
  turn_stored result log_new disk_new opens stores = record {
    opened = λ room is. stores.opened room (opens room is);
    stop = λ room is. then_on on disk_old disk_mid disk_new _ (turn_either room is) (stores.stop room (opens room is));
    adds = λ room is. turn_adds result log_new disk_new room is (stores.adds room (opens room is));
    durable = stores.durable;
    behind = behind_then on (half_of log_old) disk_old disk_mid disk_new begun.behind (subst (λ (h : ℕ). LeavesOnly on disk_mid disk_new (IsOldBehind h (on.left_at disk_mid (on.moment disk_mid)))) begun.half stores.behind);
    reads_behind = agrees_then 0 (blocks_start (half_of log_old)) (on.seen disk_old) (on.seen disk_mid) (on.seen disk_new) begun.reads_behind (subst (λ (h : ℕ). AgreesBehind h (on.seen disk_mid) (on.seen disk_new)) begun.half stores.reads_behind);
    half = stores.half ∙ begun.half;
    marked = later result (on.moment disk_old) (on.moment disk_mid) (on.moment disk_new) begun.behind.later stores.marked;
  }

-- nothing was done
pub stores_nothing : {D T : Type 0} (on : Ghosts D) (change : Change) (tables : Tables) (log : Log) (disk : D) (fault : StepFault) → Stores {T = T} on change tables log disk (Err fault) log disk
stores_nothing on change tables log disk fault = record {
  opened = λ room is. tt;
  stop = λ room is. started on disk _ (λ image left. inl (reads_each on log room tables disk is image left));
  adds = λ room is. inr (refl, started on disk _ (λ image left. reads_each on log room tables disk is image left));
  durable = tt;
  behind = behind_start on (half_of log) disk;
  reads_behind = agrees_same 0 (blocks_start (half_of log)) (on.seen disk);
  half = refl;
  marked = tt;
}
