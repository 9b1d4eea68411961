-- Blocks move, or what one slot has: what stays sound.
use Rattle.std.proofs.Common.{◌≡◌, ◌⊎◌, ℕ, ◌+◌, ◌<◌, ◌≤◌, ◌&&◌, not, min, true, false, Bool, cond, List, [], ◌++◌, length, get_or, set, Option, Some, None, IfSome, refl, sym, ◌∙◌, ap, subst, arith, inl, inr, All, Contains}
use Rattle.std.proofs.lemmas.Bool.{and_from, and_parts, and_right, cases_Bool, cases_eq, cond-false, cond-true, lt-ltb, ltb-true, not-true}
use Rattle.std.proofs.lemmas.List.{length-append}
use Rattle.small_types.specs.Blocks.{count_for}
use Rattle.file_store.specs.Stores.{AreUsed, SameRange, free_of}
use Rattle.file_store.specs.declared.store.FileStore.{FileStore}
use Rattle.machine.specs.Views.{ContentKey, same_key}
use Rattle.jobs.specs.Balance.{Balanced, kept_as, needed_as, held_as, one_below, times}
use Rattle.jobs.specs.Jobs.{IsOpen, IsSound, references}
use Rattle.jobs.specs.Kept.{Kept}
use Rattle.jobs.specs.Moves.{BlocksMayMove, IsSlotFor, KeepOrFill, Loses, Moves, OutBut, SlotsMayTurn, Turned}
use Rattle.jobs.specs.Slots.{has_blocks, held_blocks, is_away, is_for, is_used, slot_at, with_held}
use Rattle.jobs.specs.declared.held.Held.{Held}
use Rattle.jobs.specs.declared.held.Held.TheVariants.{Nothing, Coming, Away, Whole}
use Rattle.jobs.specs.declared.held.Slot.{Slot}
use Rattle.jobs.specs.declared.table.Job.{Job}
use Rattle.jobs.specs.declared.table.JobTable.{JobTable}
use Rattle.jobs.proofs.BalancedSlots.{held_le, holds_as, needs_as, turn, used_from_times}
use Rattle.jobs.proofs.Counts.{times-append, times-nil}
use Rattle.jobs.proofs.Keys.{key_one, one_key}
use Rattle.jobs.proofs.LetGoAll.{slot_at_set, slot_at_other}
use Rattle.jobs.proofs.OpenedJobs.{holds_within}
use Rattle.jobs.proofs.Steps.{FollowAll, follow_set, open_follow, sound_turn}

pub kept_most : (key : ContentKey) (kept : Kept) → kept_as key kept ≤ 1
unfolding kept_as
kept_most key kept = by (kept.has key)
  where
    by : (b : Bool) → cond b 1 0 ≤ 1
    by true = omega arith
    by false = omega arith

pub moved_balanced : (before after : Kept) (slots : List Slot) (hands left : List ℕ) (store later : FileStore) → Moves before after hands left store later
    → ((key : ContentKey) → (kept_as key after ≡ kept_as key before) ⊎ (needed_as key slots ≡ 0))
    → Balanced before slots hands store → Balanced after slots left later
moved_balanced before after slots hands left store later moves same balanced = record {
  blocks = λ block. omega (arith, balanced.blocks block, moves.standing block, ap (λ (n : ℕ). one_below n block) moves.range.number);
  count = omega (arith, balanced.count, moves.count, moves.range.number);
  content = λ key. by key (same key);
  single = balanced.single;
  fit = balanced.fit;
}
  where
    by : (key : ContentKey) → (kept_as key after ≡ kept_as key before) ⊎ (needed_as key slots ≡ 0) → kept_as key after + held_as key slots ≡ min 1 (kept_as key after + needed_as key slots)
    by key (inl is) = omega (arith, is, balanced.content key)
    by key (inr none) = omega (arith, none, held_le key slots, kept_most key after)

pub moved_sound : BlocksMayMove
moved_sound before after table out hands left store later moves same sound = record {
  balanced = moved_balanced before after table.slots.items hands left store later moves same sound.balanced;
  counted = sound.counted;
  settled = sound.settled;
  open_jobs = sound.open_jobs;
  few = sound.few;
  apart = sound.apart;
  below = sound.below;
  next = sound.next;
}

-- what a used slot for program files counts for a content
holds_own : (key : ContentKey) (s : Slot) → s.local ≡ false → 0 < s.users → holds_as key s ≡ cond (same_key key s.key && has_blocks s.held) 1 0
holds_own key s program some =
    ap (λ (b : Bool). cond (((not b && same_key key s.key) && is_used s) && has_blocks s.held) 1 0) program
    ∙ ap (λ (b : Bool). cond (((true && same_key key s.key) && b) && has_blocks s.held) 1 0) (lt-ltb 0 s.users some)
    ∙ plain (same_key key s.key) (has_blocks s.held)
  where
    plain : (a b : Bool) → cond {A = ℕ} (((true && a) && true) && b) 1 0 ≡ cond (a && b) 1 0
    plain true b = refl
    plain false b = refl

module _ (before after : Kept) (slots : List Slot) (at : ℕ) (held : Held) (hands left : List ℕ) (store : FileStore) (low : at < length slots)
    (program : (slot_at slots at).local ≡ false) (some : 0 < (slot_at slots at).users) (turned : Turned before after (slot_at slots at) held hands left) where
  pub turned_balanced : Balanced before slots hands store → Balanced after (set slots at (with_held (slot_at slots at) held)) left store
  turned_balanced balanced =
      turn before after slots at (with_held (slot_at slots at) held) hands left store store low
      record {
        blocks = λ block. omega (arith, turned.standing block);
        count = omega (arith, turned.count);
        number = refl;
        content = λ key n l n' l' one few within within' holds needs.
            let old = holds_own key (slot_at slots at) program some in
            let new : holds_as key (with_held (slot_at slots at) held) ≡ cond (same_key key (slot_at slots at).key && has_blocks held) 1 0 = holds_own key (with_held (slot_at slots at) held) program some in
            let same : needs_as key (with_held (slot_at slots at) held) ≡ needs_as key (slot_at slots at) = refl in
            let kept = turned.has key in
            (omega (arith, old, new, same, kept, one, few, within, within', holds, needs), omega (arith, same, needs, few));
        fit = record {
          idle = λ idle. absurd (omega arith);
          local = λ is. absurd (let not_local = program in cc);
          size = turned.size;
        };
      }
      balanced

module _ (before after : Kept) (table new : JobTable) (out later hands left : List ℕ) (store : FileStore) (at : ℕ) (held : Held) (low : at < length table.slots.items)
    (program : (slot_at table.slots.items at).local ≡ false) (some : 0 < (slot_at table.slots.items at).users) (turned : Turned before after (slot_at table.slots.items at) held hands left)
    (outs : OutBut out later at held) (jobs : new.jobs.items ≡ table.jobs.items) (next : new.next ≡ table.next) (made : new.slots.items ≡ set table.slots.items at (with_held (slot_at table.slots.items at) held)) where
  pub turned_sound : IsSound before table out hands store → IsSound after new later left store
  turned_sound sound =
      sound_turn before after table new out hands later left store store sound
      (subst (λ (l : List Slot). Balanced after l left store) (sym made) (turned_balanced before after table.slots.items at held hands left store low program some turned sound.balanced)) follow
      (λ slot. ap (λ (l : List Job). references l slot) jobs)
      (subst (All (IsOpen new.slots.items)) (sym jobs) (λ k d there. open_follow table.slots.items new.slots.items (get_or table.jobs.items k d) follow (sound.open_jobs k d there)))
      (ap length jobs) (λ k d there. ap (λ (l : List Job). (get_or l k d).number) jobs) next
      (λ slot there away. settled slot there away (cases_eq slot at))
    where
      follow : FollowAll table.slots.items new.slots.items
      follow =
          subst (FollowAll table.slots.items) (sym made)
          (follow_set table.slots.items at (with_held (slot_at table.slots.items at) held) low
          record { key = refl; local = refl; users = refl; coming = turned.coming })

      settled : (slot : ℕ) → slot < length new.slots.items → is_away (slot_at new.slots.items slot).held ≡ true → (slot ≡ at) ⊎ (slot ≡ at → ⊥) → Contains later slot
      settled slot there away (inl this) =
          subst (Contains later) (sym this)
          (outs.own (ap is_away (sym (ap (λ (s : Slot). s.held) (slot_at_set table.slots.items at (with_held (slot_at table.slots.items at) held) low)))
          ∙ ap (λ (l : List Slot). is_away (slot_at l at).held) (sym made) ∙ ap (λ (n : ℕ). is_away (slot_at new.slots.items n).held) (sym this) ∙ away))
      settled slot there away (inr other) =
          outs.others slot
          (sound.settled slot (omega (arith, follow.count))
          (ap (λ (s : Slot). is_away s.held) (sym (ap (λ (l : List Slot). slot_at l slot) made ∙ slot_at_other table.slots.items at slot (with_held (slot_at table.slots.items at) held) other)) ∙ away))
          other

pub slots_turn : SlotsMayTurn
slots_turn before after table new out later hands left store key at held is turned outs jobs next made sound =
    turned_sound before after table new out later hands left store at held is.within is.local is.used turned outs jobs next made sound

-- ---- a content that the tables lose

pub slot_from : (slots : List Slot) (key : ContentKey) (at : ℕ) → (at < length slots) × (is_for key (slot_at slots at) ≡ true) × (is_used (slot_at slots at) ≡ true) → IsSlotFor key slots at
slot_from slots key at found =
    let both = and_parts (not (slot_at slots at).local) (same_key key (slot_at slots at).key) found.1 in
    record {
      within = found.0;
      own = sym (one_key key (slot_at slots at).key both.1);
      local = not-true (slot_at slots at).local both.0;
      used = ltb-true 0 (slot_at slots at).users found.2;
    }

pub slot_found : (slots : List Slot) (key : ContentKey) (place : Option ℕ) → IfSome place (λ at. (at < length slots) × (is_for key (slot_at slots at) ≡ true) × (is_used (slot_at slots at) ≡ true)) → IfSome place (IsSlotFor key slots)
slot_found slots key None found = tt
slot_found slots key (Some at) found = slot_from slots key at found

module _ (before after : Kept) (key : ContentKey) (blocks : List ℕ) (loses : Loses before after key blocks) (table : JobTable) (store : FileStore) (sound : IsSound before table [] [] store) where
  own_one : cond {A = ℕ} (same_key key key) 1 0 ≡ 1
  own_one = cond-true (same_key key key) 1 0 (key_one key key refl)

  pub lost_used : AreUsed store blocks
  lost_used = used_from_times store blocks (λ block. omega (arith, sound.balanced.blocks block, loses.standing block))

  -- where no job needs it
  pub lost_freed : (later : FileStore) → needed_as key table.slots.items ≡ 0 → free_of later ≡ blocks ++ free_of store → SameRange store later → IsSound after table [] [] later
  lost_freed later none freed same =
      moved_sound before after table [] [] [] store later
      record {
        standing = λ block. omega (arith, loses.standing block, moved (times block) (times-append block), times-nil block);
        count = omega (arith, loses.count, moved length (λ xs ys. length-append xs ys));
        range = same;
      }
      (λ other. by other (cases_Bool (same_key other key))) sound
    where
      moved : (measure : List ℕ → ℕ) → ((xs ys : List ℕ) → measure (xs ++ ys) ≡ measure xs + measure ys) → measure (free_of later) ≡ measure blocks + measure (free_of store)
      moved measure adds = ap measure freed ∙ adds blocks (free_of store)

      by : (other : ContentKey) → (same_key other key ≡ true) ⊎ (same_key other key ≡ false) → (kept_as other after ≡ kept_as other before) ⊎ (needed_as other table.slots.items ≡ 0)
      by other (inl this) = inr (ap (λ (k : ContentKey). needed_as k table.slots.items) (one_key other key this) ∙ none)
      by other (inr unlike) =
          let none_here : cond {A = ℕ} (same_key other key) 1 0 ≡ 0 = cond-false (same_key other key) 1 0 unlike in
          inl (omega (arith, loses.has other, none_here))

  module _ (at : ℕ) (is : IsSlotFor key table.slots.items at) where
    empty : has_blocks (slot_at table.slots.items at).held ≡ false
    empty = by (cases_Bool (has_blocks (slot_at table.slots.items at).held))
      where
        by : (has_blocks (slot_at table.slots.items at).held ≡ true) ⊎ (has_blocks (slot_at table.slots.items at).held ≡ false) → has_blocks (slot_at table.slots.items at).held ≡ false
        by (inr none) = none
        by (inl has) =
            let one : cond {A = ℕ} (same_key key (slot_at table.slots.items at).key && has_blocks (slot_at table.slots.items at).held) 1 0 ≡ 1 =
            cond-true (same_key key (slot_at table.slots.items at).key && has_blocks (slot_at table.slots.items at).held) 1 0
            (and_from (same_key key (slot_at table.slots.items at).key) (has_blocks (slot_at table.slots.items at).held) (key_one key (slot_at table.slots.items at).key (sym is.own)) has) in
            absurd (omega (arith, one, own_one, loses.has key, holds_own key (slot_at table.slots.items at) is.local is.used, sound.balanced.content key, holds_within key table.slots.items at is.within))

    no_blocks : (measure : List ℕ → ℕ) → measure [] ≡ 0 → measure (held_blocks (slot_at table.slots.items at).held) ≡ 0
    no_blocks measure none = by (slot_at table.slots.items at).held empty
      where
        by : (h : Held) → has_blocks h ≡ false → measure (held_blocks h) ≡ 0
        by Nothing is = none
        by (Coming draft) is = absurd (cc)
        by Away is = none
        by (Whole blocks) is = absurd (cc)

    pub lost_turned : Turned before after (slot_at table.slots.items at) (Whole blocks) [] []
    lost_turned = record {
      standing = λ block. omega (arith, loses.standing block, no_blocks (times block) (times-nil block));
      count = omega (arith, loses.count, no_blocks length refl);
      has = λ other. has other;
      size = loses.own ∙ ap (λ (k : ContentKey). count_for k.size) (sym is.own);
      coming = λ still. absurd (cc);
    }
      where
        with_true : (b : Bool) → cond {A = ℕ} (b && true) 1 0 ≡ cond b 1 0
        with_true true = refl
        with_true false = refl

        has : (other : ContentKey) → kept_as other after + cond (same_key other (slot_at table.slots.items at).key && true) 1 0
            ≡ kept_as other before + cond (same_key other (slot_at table.slots.items at).key && has_blocks (slot_at table.slots.items at).held) 1 0
        has other =
            let none : cond {A = ℕ} (same_key other (slot_at table.slots.items at).key && has_blocks (slot_at table.slots.items at).held) 1 0 ≡ 0 =
            cond-false (same_key other (slot_at table.slots.items at).key && has_blocks (slot_at table.slots.items at).held) 1 0
            (and_right (same_key other (slot_at table.slots.items at).key) (has_blocks (slot_at table.slots.items at).held) empty) in
            let own : cond {A = ℕ} (same_key other (slot_at table.slots.items at).key) 1 0 ≡ cond (same_key other key) 1 0 = ap {B = ℕ} (λ (k : ContentKey). cond (same_key other k) 1 0) is.own in
            omega (arith, none, own, with_true (same_key other (slot_at table.slots.items at).key), loses.has other)

pub lost_filled : (slots : List Slot) (key : ContentKey) (blocks : List ℕ) (at : ℕ) → IsSlotFor key slots at → KeepOrFill key blocks slots (set slots at (with_held (slot_at slots at) (Whole blocks)))
lost_filled slots key blocks at is k there = by (cases_eq k at)
  where
    by : (k ≡ at) ⊎ (k ≡ at → ⊥) → ((slot_at (set slots at (with_held (slot_at slots at) (Whole blocks))) k).held ≡ (slot_at slots k).held)
        ⊎ (((slot_at slots k).key ≡ key) × ((slot_at (set slots at (with_held (slot_at slots at) (Whole blocks))) k).held ≡ Whole blocks))
    by (inl same) =
        inr (
          ap (λ (n : ℕ). (slot_at slots n).key) same ∙ is.own,
          ap (λ (n : ℕ). (slot_at (set slots at (with_held (slot_at slots at) (Whole blocks))) n).held) same ∙ ap (λ (s : Slot). s.held) (slot_at_set slots at (with_held (slot_at slots at) (Whole blocks)) is.within),
        )
    by (inr other) = inl (ap (λ (s : Slot). s.held) (slot_at_other slots at k (with_held (slot_at slots at) (Whole blocks)) other))

pub out_none : (at : ℕ) (held : Held) → is_away held ≡ false → OutBut [] [] at held
out_none at held here = record { own = λ away. absurd (cc); others = λ k found other. found }
