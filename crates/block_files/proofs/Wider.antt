-- Writes into blocks that are among others, and contents in none of these.
use Rattle.std.proofs.Common.{◌≡◌, ℕ, ◌*◌, ◌≤◌, List, ◌++◌, length, sym, subst, Contains}
use Rattle.std.proofs.lemmas.List.Elements.{Contains-append_left}
use Rattle.disks.specs.declared.disk.Disk.{Ghosts}
use Rattle.disks.specs.Moments.{Each, LeavesOnly, Untouched}
use Rattle.disks.proofs.MomentLemmas.{reads_on, weaker}
use Rattle.small_types.specs.Blocks.{IsContent, KeepsOutside, ShareNone}
use Rattle.small_types.proofs.KeptBlocks.{content_stays}
use Rattle.file_store.specs.Stores.{AreUsed, free_of}
use Rattle.file_store.specs.Writes.{IsOldOutsideBlocks, WritesOnly}
use Rattle.file_store.specs.declared.store.FileStore.{FileStore}
use Rattle.file_store.proofs.Apart.{apart_other}
use Rattle.file_store.proofs.KeptContents.{content_kept, writes_then}
use Rattle.file_store.proofs.BlockWrites.{only_start}

-- each of the blocks is among the others
abbrev pub AreAmong : List ℕ → List ℕ → Type 0
AreAmong few many = (block : ℕ) → Contains few block → Contains many block

pub keeps_wider : (base : ℕ) (few many old new : List ℕ) → AreAmong few many → KeepsOutside base few old new → KeepsOutside base many old new
unfolding KeepsOutside
keeps_wider base few many old new among keeps place low outside = keeps place low (λ block listed inside. outside block (among block listed) inside)

-- what is written in some blocks only is written in more of them only
pub writes_wider : {D : Type 0} (on : Ghosts D) (base : ℕ) (few many : List ℕ) (old new : D) → AreAmong few many → WritesOnly on base few old new → WritesOnly on base many old new
writes_wider on base few many old new among writes = record {
  stops = weaker on old new (IsOldOutsideBlocks base few (on.left_at old (on.moment old))) (IsOldOutsideBlocks base many (on.left_at old (on.moment old)))
      (λ c outside. (outside.0, outside.1, keeps_wider base few many outside.0 c among outside.2)) writes.stops;
  reads = keeps_wider base few many (on.seen old) (on.seen new) among writes.reads;
}

-- Writes after writes: so a line that writes into several drafts, whose blocks were free when it
-- began, has written in blocks only that were free then.
pub writes_join : {D : Type 0} (on : Ghosts D) (base : ℕ) (one other many : List ℕ) (old mid new : D) → AreAmong one many → AreAmong other many
    → WritesOnly on base one old mid → WritesOnly on base other mid new → WritesOnly on base many old new
writes_join on base one other many old mid new among_one among_other first second =
    writes_then on base many old mid new (writes_wider on base one many old mid among_one first) (writes_wider on base other many mid new among_other second)

-- reads write nothing
pub only_still : {D : Type 0} (on : Ghosts D) (base : ℕ) (blocks : List ℕ) (old new : D) → Untouched on old new → WritesOnly on base blocks old new
only_still on base blocks old new still =
    let start = only_start on base blocks old in
    record {
      stops = reads_on on old old new (IsOldOutsideBlocks base blocks (on.left_at old (on.moment old))) start.stops still;
      reads = subst (KeepsOutside base blocks (on.seen old)) (sym still.same_reads) start.reads;
    }

-- what is handed out was free
pub handed_among : (free taken left : List ℕ) → free ≡ taken ++ left → AreAmong taken free
handed_among free taken left is block there = subst (λ (l : List ℕ). Contains l block) (sym is) (Contains-append_left taken left block there)

-- no block in use is free
pub used_share_none : (store : FileStore) (used blocks : List ℕ) → AreUsed store used → AreAmong blocks used → ShareNone blocks (free_of store)
used_share_none store used blocks are among block listed free = apart_other used (free_of store) block are.apart (among block listed) free

pub images_keep : {D : Type 0} (on : Ghosts D) (store : FileStore) (base : ℕ) (used blocks content : List ℕ) (old new : D) → length content ≤ 4096 * length blocks → AreUsed store used → AreAmong blocks used
    → WritesOnly on base (free_of store) old new → Each on old (IsContent base blocks content) → LeavesOnly on old new (IsContent base blocks content)
images_keep on store base used blocks content old new fits are among writes each =
    content_kept on base blocks (free_of store) content old new fits (used_share_none store used blocks are among) each writes

pub reads_keep : {D : Type 0} (on : Ghosts D) (store : FileStore) (base : ℕ) (used blocks content : List ℕ) (old new : D) → length content ≤ 4096 * length blocks → AreUsed store used → AreAmong blocks used
    → WritesOnly on base (free_of store) old new → IsContent base blocks content (on.seen old) → IsContent base blocks content (on.seen new)
reads_keep on store base used blocks content old new fits are among writes is =
    content_stays base blocks content (on.seen old) (on.seen new) fits is (free_of store) (used_share_none store used blocks are among) writes.reads
