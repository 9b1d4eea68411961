-- A slot's draft goes out, and comes back.
use Rattle.std.proofs.Common.{◌≡◌, ℕ, ◌+◌, ◌<◌, ◌&&◌, Bool, true, false, cond, List, [], length, set, if◌then◌else◌, IfSome, refl, sym, ◌∙◌, ap, arith}
use Rattle.file_store.specs.Stores.{draft_blocks, draft_size}
use Rattle.file_store.specs.declared.store.FileStore.{FileStore}
use Rattle.jobs.specs.Balance.{Balanced, KeepsBalance, times}
use Rattle.jobs.specs.Slots.{held_blocks, has_blocks, HasSize, draft_of, is_for, is_used, slot_at, with_held, without_draft, IsFit}
use Rattle.jobs.specs.declared.held.Held.{Held}
use Rattle.jobs.specs.declared.held.Held.TheVariants.{Nothing, Coming, Away, Whole}
use Rattle.jobs.specs.declared.held.Slot.{Slot}
use Rattle.jobs.specs.Kept.{Kept}
use Rattle.jobs.proofs.BalancedSlots.{turn, holds_as}
use Rattle.jobs.proofs.Counts.{times-nil}

module _ (tables : Kept) (slots : List Slot) (at : ℕ) (hands left : List ℕ) (store : FileStore) (low : at < length slots) (balanced : Balanced tables slots hands store) where
  -- blocks stand for it before and after
  pub held_swap : (held was : Held) → (slot_at slots at).held ≡ was → has_blocks was ≡ true → has_blocks held ≡ true → HasSize (slot_at slots at).key.size held
      → ((block : ℕ) → times block (held_blocks held) + times block left ≡ times block (held_blocks was) + times block hands)
      → length (held_blocks held) + length left ≡ length (held_blocks was) + length hands
      → Balanced tables (set slots at (with_held (slot_at slots at) held)) left store
  held_swap held was is had has size blocks count =
      turn tables tables slots at (with_held (slot_at slots at) held) hands left store store low
      record {
        blocks = λ block. let same = ap (λ (h : Held). times block (held_blocks h)) is in omega (arith, blocks block, same);
        count = let same = ap (λ (h : Held). length (held_blocks h)) is in omega (arith, count, same);
        number = refl;
        content = λ key n l n' l' one few within within' holds needs. let same : holds_as key (with_held (slot_at slots at) held) ≡ holds_as key (slot_at slots at) = ap (λ (b : Bool). cond ((is_for key (slot_at slots at) && is_used (slot_at slots at)) && b) 1 0) (has ∙ sym before) in (omega arith, omega arith);
        fit = record {
          idle = λ none. absurd (let idle : has_blocks (slot_at slots at).held ≡ false = ap has_blocks (fit.idle none) in cc);
          local = λ local. fit.local local ∙ ap (λ (b : Bool). if b then 1 else 0) (before ∙ sym has);
          size = size;
        };
      }
      balanced
    where
      before : has_blocks (slot_at slots at).held ≡ true
      before = ap has_blocks is ∙ had

      fit : IsFit (slot_at slots at)
      fit = balanced.fit at _ low

pub lent_out : (slots : List Slot) (at : ℕ) (store : FileStore) → at < length slots
    → (held : Held) → (slot_at slots at).held ≡ held → IfSome (draft_of held) (λ draft. KeepsBalance slots [] store (set slots at (with_held (slot_at slots at) (without_draft held))) (draft_blocks draft) store)
lent_out slots at store low Nothing is = tt
lent_out slots at store low (Coming draft) is = λ tables balanced.
    held_swap tables slots at [] (draft_blocks draft) store low balanced Away (Coming draft) is refl refl tt
    (λ block. omega (arith, times-nil block)) (omega arith)
lent_out slots at store low Away is = tt
lent_out slots at store low (Whole blocks) is = tt

pub lent_size : (size : ℕ) (held : Held) → HasSize size held → IfSome (draft_of held) (λ draft. draft_size draft ≡ size)
lent_size size Nothing is = tt
lent_size size (Coming draft) is = is
lent_size size Away is = tt
lent_size size (Whole blocks) is = tt

pub put_back : (tables : Kept) (slots : List Slot) (at : ℕ) (held : Held) (store : FileStore) → at < length slots → (slot_at slots at).held ≡ Away → has_blocks held ≡ true
    → HasSize (slot_at slots at).key.size held → Balanced tables slots (held_blocks held) store → Balanced tables (set slots at (with_held (slot_at slots at) held)) [] store
put_back tables slots at held store low away some size balanced =
    held_swap tables slots at (held_blocks held) [] store low balanced held Away away refl some size
    (λ block. omega (arith, times-nil block)) (omega arith)
