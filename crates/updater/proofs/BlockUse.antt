-- Which blocks are in use while a change is made durable, and behind it.
use Rattle.std.proofs.Common.{◌≡◌, ◌∙◌, ◌<◌, ◌++◌, sym, ap, subst, ℕ, List, [], arith}
use Rattle.std.specs.List.Sorted.{IsPermutation}
use Rattle.std.proofs.lemmas.List.{append-nil, append_assoc}
use Rattle.std.proofs.lemmas.List.Sorted.{All-permutation, IsPermutation-append_left, IsPermutation-append_right, IsPermutation-trans, length_permutation}
use Rattle.small_types.specs.declared.room.Room.{Room}
use Rattle.file_store.specs.Stores.{AreUsed, SameRange, block_count, free_of}
use Rattle.file_store.specs.declared.store.FileStore.{FileStore}
use Rattle.file_store.proofs.UsedBlocks.{count_less, used_less, used_part}
use Rattle.store_state.specs.declared.change.Change.{Change}
use Rattle.store_state.specs.Change.{effect}
use Rattle.store_state.specs.Tables.{Tables}
use Rattle.table_files.specs.Freed.{brought, freed}
use Rattle.table_files.specs.Held.{held_by}
use Rattle.table_files.specs.Laws.{KeepsItems}
use Rattle.table_files.proofs.SameItems.{apart_permuted}
use Rattle.install_plan.specs.Blocks.{UsesBlocks}

-- ---- in any order

module _ (files : FileStore) (room : Room) (a b : List ℕ) (same : IsPermutation a b) where
  used_as : AreUsed files a → AreUsed files b
  used_as used = record {
    within = All-permutation (λ n. n < block_count files) a b same used.within;
    apart = apart_permuted (a ++ free_of files) (b ++ free_of files)
        (IsPermutation-append_left (free_of files) a b same) used.apart;
  }

  pub uses_as : UsesBlocks files room a → UsesBlocks files room b
  uses_as uses = record {
    used = used_as uses.used;
    all = (let long = length_permutation a b same in omega (arith, long, uses.all));
    number = uses.number;
    base = uses.base;
  }

-- ---- some are given back

module _ (files : FileStore) (room : Room) (front blocks back : List ℕ)
    (uses : UsesBlocks files room (front ++ (blocks ++ back))) where
  pub part_used : AreUsed files blocks
  part_used = used_part files front blocks back uses.used

  pub uses_less : (new : FileStore) → free_of new ≡ blocks ++ free_of files → SameRange files new
      → UsesBlocks new room (front ++ back)
  uses_less new freed range = record {
    used = used_less files front blocks back uses.used new freed range;
    all = (let count = count_less files new front blocks back (uses.all ∙ sym uses.number) freed range in
        count ∙ range.number ∙ uses.number);
    number = range.number ∙ uses.number;
    base = range.base ∙ uses.base;
  }

-- those at the end
module _ (files : FileStore) (room : Room) (front blocks : List ℕ)
    (uses : UsesBlocks files room (front ++ blocks)) where
  ended : UsesBlocks files room (front ++ (blocks ++ []))
  ended = subst (λ (l : List ℕ). UsesBlocks files room (front ++ l)) (sym (append-nil blocks)) uses

  pub last_used : AreUsed files blocks
  last_used = part_used files room front blocks [] ended

  pub uses_front : (new : FileStore) → free_of new ≡ blocks ++ free_of files → SameRange files new
      → UsesBlocks new room front
  uses_front new freed range =
      subst (UsesBlocks new room) (append-nil front)
      (uses_less files room front blocks [] ended new freed range)

-- ---- a change

-- what lets go and what is not used are given back behind it
module _ (room : Room) (tables : Tables) (change : Change) (keeps : KeepsItems change tables)
    (taken unused gone : List ℕ) (same : IsPermutation taken (brought change ++ unused))
    (goes : gone ≡ freed change tables)
    (files : FileStore) (uses : UsesBlocks files room (held_by tables ++ taken)) where
  abbrev behind : List ℕ
  behind = held_by (effect change tables)

  -- what is in use is held behind the change, let go by it, or not used
  pub uses_all : UsesBlocks files room (behind ++ (gone ++ unused))
  uses_all =
      let held = held_by tables in
      let comes = brought change in
      uses_as files room (held ++ taken) (behind ++ (gone ++ unused))
      (IsPermutation-trans (held ++ taken) (held ++ (comes ++ unused)) (behind ++ (gone ++ unused))
      (IsPermutation-append_right held taken (comes ++ unused) same)
      (subst (λ (l : List ℕ). IsPermutation l (behind ++ (gone ++ unused)))
      (append_assoc held comes unused)
      (subst (IsPermutation ((held ++ comes) ++ unused)) (append_assoc behind gone unused)
      (IsPermutation-append_left unused (held ++ comes) (behind ++ gone)
      (subst (λ (l : List ℕ). IsPermutation (held ++ comes) (behind ++ l)) (sym goes) keeps.same))))) uses

  pub gone_used : AreUsed files gone
  gone_used = part_used files room behind gone unused uses_all

  module _ (mid : FileStore) (let_go : free_of mid ≡ gone ++ free_of files)
      (range : SameRange files mid) where
    uses_mid : UsesBlocks mid room (behind ++ unused)
    uses_mid = uses_less files room behind gone unused uses_all mid let_go range

    pub unused_used : AreUsed mid unused
    unused_used = last_used mid room behind unused uses_mid

    pub uses_behind : (last : FileStore) (tables_new : Tables) → tables_new ≡ effect change tables
        → free_of last ≡ unused ++ free_of mid → SameRange mid last
        → UsesBlocks last room (held_by tables_new)
    uses_behind last tables_new made free within =
        subst (λ (t : Tables). UsesBlocks last room (held_by t)) (sym made)
        (uses_front mid room behind unused uses_mid last free within)

-- no block was taken
pub uses_none : (files : FileStore) (room : Room) (held none : List ℕ) → none ≡ [] → UsesBlocks files room held
    → UsesBlocks files room (held ++ none)
uses_none files room held none is uses = subst (UsesBlocks files room) (sym (ap (λ (l : List ℕ). held ++ l) is ∙ append-nil held)) uses
