-- One slot is set: what stays balanced.
use Rattle.std.proofs.Common.{◌≡◌, ℕ, ◌+◌, ◌<◌, ◌≤◌, ◌&&◌, min, Bool, true, false, cond, List, ◌++◌, length, get_or, set, ap, arith, All}
use Rattle.std.proofs.lemmas.List.Elements.{All-set}
use Rattle.std.proofs.lemmas.List.Sums.{sum_by-set, sum_by-le-sum_by, get_or-le-sum_by}
use Rattle.file_store.specs.Stores.{AreUsed, free_of, block_count}
use Rattle.file_store.specs.declared.store.FileStore.{FileStore}
use Rattle.jobs.specs.Balance.{Balanced, in_slots, kept_as, needed_as, held_as, one_below, times}
use Rattle.jobs.specs.Slots.{held_blocks, has_blocks, is_for, is_used, no_slot, slot_at, IsFit}
use Rattle.machine.specs.Views.{ContentKey}
use Rattle.jobs.specs.declared.held.Slot.{Slot}
use Rattle.jobs.specs.Kept.{Kept}
use Rattle.jobs.proofs.Counts.{apart_from_times, one_below_at, one_below_most, times-append, times_at}

-- what a slot counts for a content
abbrev pub needs_as : ContentKey → Slot → ℕ
needs_as key s = cond (is_for key s && is_used s) 1 0

abbrev pub holds_as : ContentKey → Slot → ℕ
holds_as key s = cond ((is_for key s && is_used s) && has_blocks s.held) 1 0

pub holds_le : (key : ContentKey) (s : Slot) → holds_as key s ≤ needs_as key s
holds_le key s = by (is_for key s && is_used s) (has_blocks s.held)
  where
    by : (a b : Bool) → cond (a && b) 1 0 ≤ cond a 1 0
    by true true = omega arith
    by true false = omega arith
    by false b = omega arith

pub needs_most : (key : ContentKey) (s : Slot) → needs_as key s ≤ 1
needs_most key s = by (is_for key s && is_used s)
  where
    by : (a : Bool) → cond a 1 0 ≤ 1
    by true = omega arith
    by false = omega arith

pub held_le : (key : ContentKey) (slots : List Slot) → held_as key slots ≤ needed_as key slots
unfolding held_as needed_as
held_le key slots = sum_by-le-sum_by (holds_as key) (needs_as key) slots (holds_le key)

module _ (slots : List Slot) (at : ℕ) (new : Slot) (low : at < length slots) where
  pub in_slots-set : (measure : List ℕ → ℕ) → in_slots measure (set slots at new) + measure (held_blocks (slot_at slots at).held) ≡ in_slots measure slots + measure (held_blocks new.held)
  unfolding in_slots
  in_slots-set measure = sum_by-set (λ s. measure (held_blocks s.held)) slots at new no_slot low

  pub needed-set : (key : ContentKey) → needed_as key (set slots at new) + needs_as key (slot_at slots at) ≡ needed_as key slots + needs_as key new
  unfolding needed_as
  needed-set key = sum_by-set (needs_as key) slots at new no_slot low

  pub held-set : (key : ContentKey) → held_as key (set slots at new) + holds_as key (slot_at slots at) ≡ held_as key slots + holds_as key new
  unfolding held_as
  held-set key = sum_by-set (holds_as key) slots at new no_slot low

pub slot_within : (slots : List Slot) (at : ℕ) → at < length slots → (measure : List ℕ → ℕ) → measure (held_blocks (slot_at slots at).held) ≤ in_slots measure slots
unfolding in_slots
slot_within slots at low measure = get_or-le-sum_by (λ s. measure (held_blocks s.held)) slots at no_slot low

-- What becomes of the sums where one slot and the tables, the blocks in a step's hands and the free
-- ones change.
pub record Turns (before after : Kept) (old new : Slot) (hands left : List ℕ) (store later : FileStore) : Type 0 where
  pub blocks : (block : ℕ) → after.standing block + times block (held_blocks new.held) + times block left + times block (free_of later)
      ≡ before.standing block + times block (held_blocks old.held) + times block hands + times block (free_of store)
  pub count : after.count + length (held_blocks new.held) + length left + length (free_of later)
      ≡ before.count + length (held_blocks old.held) + length hands + length (free_of store)
  pub number : block_count later ≡ block_count store
  pub content : (key : ContentKey) (s l s' l' : ℕ) → kept_as key before + s ≡ min 1 (kept_as key before + l) → l ≤ 1 → s ≤ l → s' ≤ l'
      → s' + holds_as key old ≡ s + holds_as key new → l' + needs_as key old ≡ l + needs_as key new
      → (kept_as key after + s' ≡ min 1 (kept_as key after + l')) × (l' ≤ 1)
  pub fit : IsFit new

pub turn : (before after : Kept) (slots : List Slot) (at : ℕ) (new : Slot) (hands left : List ℕ) (store later : FileStore) → at < length slots
    → Turns before after (slot_at slots at) new hands left store later → Balanced before slots hands store → Balanced after (set slots at new) left later
turn before after slots at new hands left store later low turns balanced = record {
  blocks = λ block. omega (arith, balanced.blocks block, turns.blocks block, in_slots-set slots at new low (times block), ap (λ (n : ℕ). one_below n block) turns.number);
  count = omega (arith, balanced.count, turns.count, in_slots-set slots at new low length, turns.number);
  content = λ key. (contents key).0;
  single = λ key. (contents key).1;
  fit = All-set IsFit slots at new turns.fit balanced.fit;
}
  where
    contents : (key : ContentKey) → (kept_as key after + held_as key (set slots at new) ≡ min 1 (kept_as key after + needed_as key (set slots at new))) × (needed_as key (set slots at new) ≤ 1)
    contents key =
        turns.content key (held_as key slots) (needed_as key slots) (held_as key (set slots at new)) (needed_as key (set slots at new))
        (balanced.content key) (balanced.single key) (held_le key slots) (held_le key (set slots at new))
        (held-set slots at new low key) (needed-set slots at new low key)

-- blocks that stand beside the free ones are used
pub used_from_times : (store : FileStore) (blocks : List ℕ) → ((block : ℕ) → times block blocks + times block (free_of store) ≤ one_below (block_count store) block) → AreUsed store blocks
used_from_times store blocks few = record {
  within = λ k d low. one_below_at (block_count store) (get_or blocks k d) (omega (arith, times_at blocks k d low, few (get_or blocks k d)));
  apart = apart_from_times (blocks ++ free_of store) (λ b. omega (arith, times-append b blocks (free_of store), few b, one_below_most (block_count store) b));
}

module _ (tables : Kept) (slots : List Slot) (hands : List ℕ) (store : FileStore) (balanced : Balanced tables slots hands store) where
  pub slot_used : (at : ℕ) → at < length slots → AreUsed store (held_blocks (slot_at slots at).held)
  slot_used at low = used_from_times store (held_blocks (slot_at slots at).held) (λ block. omega (arith, balanced.blocks block, slot_within slots at low (times block)))

  pub hands_used : AreUsed store hands
  hands_used = used_from_times store hands (λ block. omega (arith, balanced.blocks block))
