-- What reading tables finds.
use Rattle.std.proofs.Common.{◌≡◌, ◌≢◌, ◌⊎◌, ◌≤◌, ◌+◌, inl, inr, ℕ, List, Result, Ok, Err, refl, sym, subst}
use Rattle.disks.specs.declared.disk.Disk.{Ghosts}
use Rattle.disks.specs.Disk.{Only}
use Rattle.disks.specs.Moments.{LeavesOnly}
use Rattle.disks.specs.Spends.{Spends}
use Rattle.disks.proofs.Books.{spends_as}
use Rattle.journal.specs.declared.fault.LogFault.{LogFault}
use Rattle.journal.specs.declared.fault.LogFault.TheVariants as log
use Rattle.journal.specs.Layout.{IsHalvedJournal}
use Rattle.journal.specs.Log.{IsOpen}
use Rattle.journal.proofs.Store.{unique}
use Rattle.record_fields.specs.declared.fault.CodecFault.{CodecFault}
use Rattle.record_fields.specs.declared.fault.CodecFault.TheVariants.{Bad}
use Rattle.record_fields.specs.Readers.{Gives}
use Rattle.small_types.specs.declared.room.Room.{Room}
use Rattle.store_state.specs.Kept.{AreTables}
use Rattle.store_state.specs.Tables.{Tables}
use Rattle.table_codec.specs.Laws.{AreSpelledOnce}
use Rattle.table_codec.specs.Spelled.{state_text}
use Rattle.table_codec.specs.Values.{IsEncodableState}
use Rattle.table_log.specs.declared.fault.OpenFault.{OpenFault}
use Rattle.table_log.specs.declared.fault.OpenFault.TheVariants.{DiskFault, NotTables, Memory as OutOfMemory}
use Rattle.table_log.specs.declared.recovery.OpenTables.{OpenTables}
use Rattle.table_log.specs.ReadsAs.{ReadsAsNone}
use Rattle.table_log.specs.Recovers.{HasRoom, Recovers}
use Rattle.table_log.specs.Replay.{IsBase, LeadNowhere, LoadsNone, Settled, SpellsNone}
use Rattle.table_log.specs.Texts.{LeadTo, Loads, Spells}
use Rattle.table_log.proofs.Images.{one_spelled}

-- ---- what texts lead to

-- a text that cannot be read spells nothing
pub none_spelled : (text : List ℕ) (read : Result Tables CodecFault) (place : ℕ) → read ≡ Err (Bad place) → ((t : Tables) → IsEncodableState t → AreTables t → text ≡ state_text t → Gives read (Ok t)) → SpellsNone text
unfolding SpellsNone
none_spelled text read place is only tables spells =
    let gives : Gives (Err (Bad place)) (Ok tables) = subst (λ (r : Result Tables CodecFault). Gives r (Ok tables)) is (only tables spells.has spells.are spells.is) in
    absurd (let clash : Ok tables ≡ Err (Bad place) = gives in cc)

-- one that is read spells what was read
pub spelled : (text : List ℕ) (tables : Tables) → IsEncodableState tables × AreTables tables × (text ≡ state_text tables) → Spells tables text
spelled text tables is = record { has = is.0; are = is.1; is = is.2 }

-- where no tables are spelled the texts lead nowhere
pub nowhere_spelled : (text : List ℕ) (changes : List (List ℕ)) → SpellsNone text → LeadNowhere text changes
unfolding SpellsNone LeadNowhere
nowhere_spelled text changes none tables lead = none lead.base lead.spells

-- nor do they where a change does not fit
pub nowhere_loaded : AreSpelledOnce → (text : List ℕ) (changes : List (List ℕ)) (base : Tables) → Spells base text → LoadsNone base changes → LeadNowhere text changes
unfolding LoadsNone LeadNowhere
nowhere_loaded once text changes base spells none tables lead =
    let same = one_spelled once text lead.base base lead.spells spells in
    none tables (subst (λ (t : Tables). Loads t changes tables) same lead.loads)

pub led : (text : List ℕ) (changes : List (List ℕ)) (base tables : Tables) → Spells base text → Loads base changes tables → LeadTo text changes tables
led text changes base tables spells loads = record { base = base; spells = spells; loads = loads }

-- a fault of the first tables is one of all
pub settled_base : (text : List ℕ) (changes : List (List ℕ)) (fault : OpenFault) → IsBase text (Err fault) → Settled text changes (Err fault)
settled_base text changes NotTables none = nowhere_spelled text changes none
settled_base text changes OutOfMemory none = tt
settled_base text changes DiskFault none = none

-- ---- the whole reading

-- what reading a journal to its end does to a disk
pub record Reads {D : Type 0} (on : Ghosts D) (disk_old disk_new : D) : Type 0 where
  pub seen : on.seen disk_new ≡ on.seen disk_old
  pub stop : LeavesOnly on disk_old disk_new (on.left_at disk_old (on.moment disk_old))
  pub durable : Only (on.seen disk_old) (on.left_at disk_new (on.moment disk_new))
  pub synced : on.moment disk_old + 1 ≤ on.moment disk_new
  pub spends : Spends on 1 0 disk_old disk_new ⊥

-- a journal whose texts lead nowhere reads as no tables
pub none_settled : (image : List ℕ) (room : Room) (text : List ℕ) (changes : List (List ℕ)) → IsHalvedJournal room.blocks room.half text changes image → LeadNowhere text changes → ReadsAsNone image
unfolding LeadNowhere
none_settled image room text changes journal none other tables reads =
    let one = unique image room.blocks other.blocks room.half other.half text reads.text changes reads.changes journal reads.journal in
    none tables (subst (λ (t : List ℕ). LeadTo t changes tables) (sym one.2) (subst (λ (l : List (List ℕ)). LeadTo reads.text l tables) (sym one.3) reads.lead))

err_is : {X : Type 0} {fault told : OpenFault} → ◌≡◌ {A = Result X OpenFault} (Err fault) (Err told) → fault ≡ told
err_is e = cc

module _ {D : Type 0} (on : Ghosts D) (disk_old disk_new : D) where
  -- all was read, and there are no tables
  pub unfound : (fault : OpenFault) → fault ≢ DiskFault → (on.tells disk_new → fault ≡ NotTables → ReadsAsNone (on.seen disk_old)) → Reads on disk_old disk_new → Recovers on disk_old (Err fault) disk_new
  unfound fault other none reads = record {
    found = λ told. tt;
    not_tables = λ told e. none told (err_is e);
    room = tt;
    seen = reads.seen;
    stop = reads.stop;
    durable = λ fine. reads.durable;
    synced = λ fine. reads.synced;
    spends = spends_as on 1 0 disk_old disk_new ⊥ _ (λ no. absurd no) (λ e. other (err_is e)) reads.spends;
  }

  -- the disk failed
  pub faulted : {fault : Type 0} → fault → on.seen disk_new ≡ on.seen disk_old → LeavesOnly on disk_old disk_new (on.left_at disk_old (on.moment disk_old)) → Spends on 1 0 disk_old disk_new fault → Recovers on disk_old (Err DiskFault) disk_new
  faulted {fault = fault} failed seen stop spends = record {
    found = λ told. tt;
    not_tables = λ told e. absurd (let clash : DiskFault ≡ NotTables = err_is e in cc);
    room = tt;
    seen = seen;
    stop = stop;
    durable = λ fine. absurd (fine refl);
    synced = λ fine. absurd (fine refl);
    spends = spends_as on 1 0 disk_old disk_new fault _ (λ f. refl) (λ e. failed) spends;
  }

  -- the journal was read, and its texts lead to no tables
  pub unsettled : (room : Room) (text : List ℕ) (changes : List (List ℕ)) (fault : OpenFault) → Settled text changes (Err fault) → (on.tells disk_new → IsHalvedJournal room.blocks room.half text changes (on.seen disk_old)) → Reads on disk_old disk_new → Recovers on disk_old (Err fault) disk_new
  unsettled room text changes fault settled journal reads = unfound fault (never fault settled) (λ told is. by fault settled is told) reads
    where
      by : (f : OpenFault) → Settled text changes (Err f) → f ≡ NotTables → on.tells disk_new → ReadsAsNone (on.seen disk_old)
      by NotTables none is told = none_settled (on.seen disk_old) room text changes (journal told) none
      by DiskFault none is told = absurd none
      by OutOfMemory none is told = absurd cc

      never : (f : OpenFault) → Settled text changes (Err f) → f ≡ DiskFault → ⊥
      never NotTables none is = absurd cc
      never DiskFault none is = none
      never OutOfMemory none is = absurd cc

  -- they lead to tables
  pub found_so : (opened : OpenTables) (text : List ℕ) (changes : List (List ℕ)) → HasRoom opened → LeadTo text changes opened.state → (on.tells disk_new → IsHalvedJournal opened.room.blocks opened.room.half text changes (on.seen disk_old)) → (on.tells disk_new → IsOpen on opened.log opened.room.blocks text changes disk_new) → Reads on disk_old disk_new → Recovers on disk_old (Ok opened) disk_new
  found_so opened text changes room lead journal opens reads = record {
    found = λ told. record {
      reads = record { text = text; changes = changes; journal = journal told; lead = lead };
      log = record { text = text; changes = changes; opened = opens told; half = room.half; lead = lead };
    };
    not_tables = λ told e. absurd (cc);
    room = room;
    seen = reads.seen;
    stop = reads.stop;
    durable = λ fine. reads.durable;
    synced = λ fine. reads.synced;
    spends = spends_as on 1 0 disk_old disk_new ⊥ _ (λ no. absurd no) (λ e. absurd (cc)) reads.spends;
  }

-- what is no journal reads as nothing; the only fault that is left
pub the_fault : (fault : LogFault) → (fault ≡ log.DiskFault) ⊎ ((fault ≡ log.NotALog) ⊎ (fault ≡ log.Memory)) → fault ≢ log.NotALog → fault ≢ log.Memory → fault ≡ log.DiskFault
the_fault fault (inl is) journal memory = is
the_fault fault (inr (inl is)) journal memory = absurd (journal is)
the_fault fault (inr (inr is)) journal memory = absurd (memory is)
