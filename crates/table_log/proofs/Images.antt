-- What an image reads as, and what a log is open as.
use Rattle.std.proofs.Common.{◌≡◌, ◌≤◌, ◌∙◌, ℕ, List, [], refl, sym, ap, subst}
use Rattle.small_types.specs.declared.room.Room.{Room}
use Rattle.disks.specs.declared.disk.Disk.{Ghosts}
use Rattle.disks.specs.Moments.{LeavesOnly, Each, Untouched}
use Rattle.disks.specs.Outside.{AgreesOutside, IsOldOutside}
use Rattle.disks.proofs.MomentLemmas.{weaker}
use Rattle.journal.specs.declared.log.Log.{Log}
use Rattle.journal.specs.Laws.{IsOldBefore}
use Rattle.journal.specs.Layout.{IsHalvedJournal, NoJournal}
use Rattle.small_types.specs.Blocks.{blocks_start}
use Rattle.journal.specs.Log.{half_of}
use Rattle.journal.proofs.Blocks.{each_journal, journal_outside, journal_stays, open_before, open_outside, still_open}
use Rattle.journal.proofs.Store.{unique}
use Rattle.store_state.specs.Tables.{Tables, empty}
use Rattle.table_codec.specs.Laws.{AreSpelledOnce}
use Rattle.table_codec.specs.Spelled.{state_text}
use Rattle.table_log.specs.Laws.{StaysAs}
use Rattle.table_log.specs.ReadsAs.{IsOpenAs, ReadsAs, ReadsAsNone}
use Rattle.table_log.specs.Texts.{LeadTo, Loads, Spells}
use Rattle.table_log.proofs.Empty.{empty_spells}
use Rattle.table_log.proofs.LoadedTables.{loads_same}

-- a text spells one tables
pub one_spelled : AreSpelledOnce → (text : List ℕ) (a b : Tables) → Spells a text → Spells b text → a ≡ b
one_spelled once text a b first second = once a b first.has second.has (sym first.is ∙ second.is)

-- texts lead to one tables
pub lead_same : AreSpelledOnce → (text : List ℕ) (changes : List (List ℕ)) (a b : Tables) → LeadTo text changes a → LeadTo text changes b → a ≡ b
lead_same once text changes a b first second =
    let same = one_spelled once text first.base second.base first.spells second.spells in
    loads_same second.base a b changes (subst (λ (t : Tables). Loads t changes a) same first.loads) second.loads

-- a room is told by its two numbers
room_is : (a b : Room) → a.blocks ≡ b.blocks → a.half ≡ b.half → a ≡ b
room_is a b blocks half = ap (λ (n : ℕ). record { blocks = n; half = a.half }) blocks ∙ ap (λ (n : ℕ). record { blocks = b.blocks; half = n }) half

pub one_read : AreSpelledOnce → (image : List ℕ) (room other_room : Room) (tables other : Tables) → ReadsAs room image tables → ReadsAs other_room image other → (room ≡ other_room) × (tables ≡ other)
one_read once image room other_room tables other first second =
    let one = unique image room.blocks other_room.blocks room.half other_room.half first.text second.text first.changes second.changes first.journal second.journal in
    let lead = subst (λ (l : List (List ℕ)). LeadTo second.text l tables) one.3 (subst (λ (t : List ℕ). LeadTo t first.changes tables) one.2 first.lead) in
    (room_is room other_room one.0 one.1, lead_same once second.text second.changes tables other lead second.lead)

pub reads_outside : (place n : ℕ) (room : Room) (tables : Tables) (old new : List ℕ) → blocks_start room.half ≤ place → AgreesOutside place n old new → ReadsAs room old tables → ReadsAs room new tables
reads_outside place n room tables old new late agrees reads = record {
  text = reads.text;
  changes = reads.changes;
  journal = journal_outside place n room.blocks room.half reads.text reads.changes old new late agrees reads.journal;
  lead = reads.lead;
}

pub new_reads : (room : Room) (image : List ℕ) → IsHalvedJournal room.blocks room.half (state_text empty) [] image → ReadsAs room image empty
new_reads room image journal = record {
  text = state_text empty;
  changes = [];
  journal = journal;
  lead = record { base = empty; spells = empty_spells; loads = refl };
}

pub none_reads : (image : List ℕ) → NoJournal image → ReadsAsNone image
none_reads image none room tables reads = none room.blocks room.half reads.text reads.changes reads.journal

-- a journal of the log's half is one of the room's
pub reads_so : (log : Log) (room : Room) (tables : Tables) (image text : List ℕ) (changes : List (List ℕ)) → half_of log ≡ room.half → LeadTo text changes tables → IsHalvedJournal room.blocks (half_of log) text changes image → ReadsAs room image tables
reads_so log room tables image text changes half lead journal = record {
  text = text;
  changes = changes;
  journal = subst (λ (h : ℕ). IsHalvedJournal room.blocks h text changes image) half journal;
  lead = lead;
}

module _ {D : Type 0} (on : Ghosts D) (log : Log) (room : Room) (tables : Tables) where
  pub reads_each : (disk : D) → IsOpenAs on log room tables disk → Each on disk (λ image. ReadsAs room image tables)
  reads_each disk is image left = reads_so log room tables image is.text is.changes is.half is.lead (each_journal on log room.blocks is.text is.changes disk is.opened image left)

  pub stays_read : (old new : D) → IsOpenAs on log room tables old → Untouched on old new → IsOpenAs on log room tables new
  stays_read old new is still = record {
    text = is.text;
    changes = is.changes;
    opened = still_open on log room.blocks is.text is.changes old new is.opened still;
    half = is.half;
    lead = is.lead;
  }

  pub stays_behind : (old new : D) (place n : ℕ) → blocks_start (half_of log) ≤ place → LeavesOnly on old new (IsOldOutside place n (on.left_at old (on.moment old))) → IsOpenAs on log room tables old → StaysAs on log room tables old new
  stays_behind old new place n late run is = record {
    opened = record {
      text = is.text;
      changes = is.changes;
      opened = open_outside on log room.blocks is.text is.changes old new place n late run is.opened;
      half = is.half;
      lead = is.lead;
    };
    each = weaker on old new _ _ (λ image journal. reads_so log room tables image is.text is.changes is.half is.lead journal) (journal_stays on log room.blocks is.text is.changes old new place n late run is.opened);
  }

  pub stays_front : (old new : D) (place : ℕ) → blocks_start (half_of log) ≤ place → LeavesOnly on old new (IsOldBefore place (on.left_at old (on.moment old))) → IsOpenAs on log room tables old → StaysAs on log room tables old new
  stays_front old new place late run is =
      let stays = open_before on log room.blocks is.text is.changes old new place late run is.opened in
      record {
        opened = record {
          text = is.text;
          changes = is.changes;
          opened = stays.opened;
          half = is.half;
          lead = is.lead;
        };
        each = weaker on old new _ _ (λ image journal. reads_so log room tables image is.text is.changes is.half is.lead journal) stays.each;
      }
