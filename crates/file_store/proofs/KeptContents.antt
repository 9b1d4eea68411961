-- Which contents stay, for the layer above.
use Rattle.std.proofs.Common.{◌≡◌, ℕ, ◌*◌, ◌≤◌, List, length, drop, sym, ◌∙◌, ap, arith, Contains}
use Rattle.disks.specs.declared.disk.Disk.{Ghosts}
use Rattle.disks.specs.Moments.{Each, LeavesOnly}
use Rattle.disks.proofs.MomentLemmas.{then_on, weaker}
use Rattle.small_types.specs.Blocks.{IsContent, KeepsOutside, ShareNone, bytes_in}
use Rattle.small_types.proofs.KeptBlocks.{bytes_content, content_stays, content_stays_behind, front_stays}
use Rattle.file_store.specs.Laws.{HasOldFront}
use Rattle.file_store.specs.Stores.{AreUsed, DraftHolds, draft_blocks, free_of}
use Rattle.file_store.specs.Writes.{IsOldOutsideBlocks, WritesOnly}
use Rattle.file_store.specs.declared.draft.Draft.{Draft}
use Rattle.file_store.specs.declared.store.FileStore.{FileStore}
use Rattle.file_store.proofs.Apart.{apart_other}
use Rattle.file_store.proofs.Fronts.{content_bytes}
use Rattle.file_store.proofs.BlockWrites.{keeps_then}

-- no block in use is free
pub used_not_free : (store : FileStore) (written blocks : List ℕ) → AreUsed store written → ((block : ℕ) → Contains blocks block → Contains (free_of store) block) → ShareNone blocks written
used_not_free store written blocks used free block listed taken = apart_other written (free_of store) block used.apart taken (free block listed)

-- the bytes of blocks that are not written, as a function of the image
pub bytes_stay : (base n : ℕ) (blocks written old new : List ℕ) → n ≤ 4096 * length blocks → length (bytes_in base blocks n old) ≡ n → ShareNone blocks written → KeepsOutside base written old new
    → bytes_in base blocks n new ≡ bytes_in base blocks n old
bytes_stay base n blocks written old new fits whole none keeps =
    sym (ap (λ (k : ℕ). bytes_in base blocks k new) whole)
    ∙ content_bytes base blocks (bytes_in base blocks n old) new
    (content_stays base blocks (bytes_in base blocks n old) old new (omega (arith, whole)) (bytes_content base n blocks old whole) written none keeps)

pub bytes_stay_behind : (base place n : ℕ) (blocks old new : List ℕ) → n ≤ 4096 * length blocks → length (bytes_in base blocks n old) ≡ n → place ≤ base → drop place new ≡ drop place old
    → bytes_in base blocks n new ≡ bytes_in base blocks n old
bytes_stay_behind base place n blocks old new fits whole before same =
    sym (ap (λ (k : ℕ). bytes_in base blocks k new) whole)
    ∙ content_bytes base blocks (bytes_in base blocks n old) new
    (content_stays_behind base blocks (bytes_in base blocks n old) old new (omega (arith, whole)) (bytes_content base n blocks old whole) place before same)

-- What each image has before blocks are written, and keeps while they are, each image has at each
-- moment of the writing: so a line carries its one fact through any number of pieces.
pub writes_keep : {D : Type 0} (on : Ghosts D) (base : ℕ) (blocks : List ℕ) (old new : D) (P : List ℕ → Type 0)
    → ((before after : List ℕ) → P before → KeepsOutside base blocks before after → P after)
    → Each on old P → WritesOnly on base blocks old new → LeavesOnly on old new P
writes_keep on base blocks old new P stable each writes =
    weaker on old new (IsOldOutsideBlocks base blocks (on.left_at old (on.moment old))) P
    (λ c outside. stable outside.0 c (each outside.0 outside.1) outside.2) writes.stops

-- writes after writes into the same blocks
pub writes_then : {D : Type 0} (on : Ghosts D) (base : ℕ) (blocks : List ℕ) (old mid new : D) → WritesOnly on base blocks old mid → WritesOnly on base blocks mid new → WritesOnly on base blocks old new
writes_then on base blocks old mid new first second = record {
  stops = then_on on old mid new (IsOldOutsideBlocks base blocks (on.left_at old (on.moment old))) first.stops
      (weaker on mid new (IsOldOutsideBlocks base blocks (on.left_at mid (on.moment mid))) (IsOldOutsideBlocks base blocks (on.left_at old (on.moment old)))
      (λ c outside. onto c outside)
      second.stops);
  reads = keeps_then base blocks (on.seen old) (on.seen mid) (on.seen new) first.reads second.reads;
}
  where
    onto : (c : List ℕ) → IsOldOutsideBlocks base blocks (on.left_at mid (on.moment mid)) c → IsOldOutsideBlocks base blocks (on.left_at old (on.moment old)) c
    onto c outside =
        let before = first.stops.each (on.moment mid) outside.0 first.stops.later (omega arith) outside.1 in
        (before.0, before.1, keeps_then base blocks before.0 outside.0 c before.2 outside.2)

-- what stands before the first block of an old image stands in each new one
pub fronts_kept : {D : Type 0} (on : Ghosts D) (base : ℕ) (written : List ℕ) (old new : D) → WritesOnly on base written old new → LeavesOnly on old new (HasOldFront base (on.left_at old (on.moment old)))
fronts_kept on base written old new writes =
    weaker on old new (IsOldOutsideBlocks base written (on.left_at old (on.moment old))) (HasOldFront base (on.left_at old (on.moment old)))
    (λ c outside. (outside.0, outside.1, front_stays base written outside.0 c outside.2)) writes.stops

-- a seal after that leaves no other image
pub seal_keeps : {D : Type 0} (on : Ghosts D) (old new : D) (P : List ℕ → Type 0) → Each on old P → LeavesOnly on old new (on.left_at old (on.moment old)) → LeavesOnly on old new P
seal_keeps on old new P each sealed = weaker on old new (on.left_at old (on.moment old)) P each sealed

-- pieces and a seal, one after the other
pub sealed_keep : {D : Type 0} (on : Ghosts D) (first mid new : D) (P : List ℕ → Type 0) → LeavesOnly on first mid P → LeavesOnly on mid new (on.left_at mid (on.moment mid)) → LeavesOnly on first new P
sealed_keep on first mid new P run sealed =
    then_on on first mid new P run (seal_keeps on mid new P (λ c left. run.each (on.moment mid) c run.later (omega arith) left) sealed)

-- a content of which no block is written is in each image, at each moment of the writing
pub content_kept : {D : Type 0} (on : Ghosts D) (base : ℕ) (blocks written content : List ℕ) (old new : D) → length content ≤ 4096 * length blocks → ShareNone blocks written
    → Each on old (IsContent base blocks content) → WritesOnly on base written old new → LeavesOnly on old new (IsContent base blocks content)
content_kept on base blocks written content old new fits none each writes =
    writes_keep on base written old new (IsContent base blocks content) (λ before after is keeps. content_stays base blocks content before after fits is written none keeps) each writes

-- another draft holds what it held
pub holds_stays : (base : ℕ) (draft : Draft) (written bytes old new : List ℕ) → ShareNone (draft_blocks draft) written → KeepsOutside base written old new → DraftHolds base draft bytes old → DraftHolds base draft bytes new
holds_stays base draft written bytes old new none keeps holds =
    let fits : length bytes ≤ 4096 * length (draft_blocks draft) = omega (arith, holds.count, draft.within, draft.counted) in
    record { count = holds.count; content = content_stays base (draft_blocks draft) bytes old new fits holds.content written none keeps }
