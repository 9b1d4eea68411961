use Rattle.std.proofs.Common.{◌≡◌, ℕ, List, [], ◌∷◌, length, get_or, refl, sym, ◌∙◌, ap, subst, arith}
use Rattle.std.proofs.lemmas.List.{get_or_default, length-append}
use Rattle.jobs.specs.NewJobs.{AllSuit, HasTaken, has_blocks_for, no_file}
use Rattle.jobs.specs.Slots.{no_slot, slot_at}
use Rattle.manifests.specs.declared.facts.FileEntry.{FileEntry}
use Rattle.jobs.specs.declared.held.Slot.{Slot}
use Rattle.jobs.proofs.TakenSlots.{suit_more, taken_more, taken_none, times_few}
use Rattle.jobs.proofs.slots.refer_all.Goals as goal

pub loop-k-init : goal.loop-k-init
loop-k-init c = record {
  balanced = λ tables tell balanced. balanced;
  taken = subst (HasTaken c.args.slots.now.items c.args.slots.now.items) (sym c.requires.none) (taken_none c.args.slots.now.items);
  count = ap length c.requires.none;
  suits = λ k d low. absurd (omega (arith, ap length c.requires.none));
  room = c.requires.room;
  range = record { number = refl; base = refl };
}

pub refer-requires : goal.refer-requires
refer-requires c = record {
  few = λ i d low.
      let slots = c.loop-k.slots.items in
      let is : get_or slots i d ≡ slot_at slots i = get_or_default slots i d no_slot low in
      let users : (get_or slots i d).users ≡ (slot_at slots i).users = ap (λ (s : Slot). s.users) is in
      omega (arith, users, c.loop-k.invariant.taken.users i, c.requires.users i, times_few i c.loop-k.needs.items, c.requires.few);
}

pub returns-in_err-at-clause-balanced : goal.returns-in_err-at-clause-balanced
returns-in_err-at-clause-balanced c = λ tables tell balanced.
    let is : get_or c.args.entries.now c.loop-k.k no_file ≡ c.index-entries-k.result = get_or_default c.args.entries.now c.loop-k.k no_file c.index-entries-k.result c.loop-k-test.true ∙ sym c.index-entries-k.is in
    let flag : c.flag_at-kept.result ≡ has_blocks_for tables c.index-entries-k.result = c.flag_at-kept.ensures ∙ tell c.loop-k.k no_file c.loop-k-test.true ∙ ap (has_blocks_for tables) is in
    c.refer.ensures.balanced tables flag (c.loop-k.invariant.balanced tables tell balanced)

pub loop-k-preserved : goal.loop-k-preserved
loop-k-preserved c =
    let first = c.args.slots.now.items in
    let slots = c.loop-k.slots.items in
    let new = c.refer.new.slots.items in
    let needs = c.loop-k.needs.items in
    let at = c.in_ok-at.at in
    let inv = c.loop-k.invariant in
    let items = c.push_reserved.ensures.items in
    let count : length c.loop-k.needs.items ≡ c.loop-k.k = c.loop-k.invariant.count in
    let entry : FileEntry = c.index-entries-k.result in
    let there : (d : FileEntry) → get_or c.args.entries.now c.loop-k.k d ≡ c.index-entries-k.result = λ d. get_or_default c.args.entries.now c.loop-k.k d c.index-entries-k.result c.loop-k-test.true ∙ sym c.index-entries-k.is in
    let is : (d : FileEntry) → get_or c.args.entries.now (length c.loop-k.needs.items) d ≡ c.index-entries-k.result = λ d. ap (λ (n : ℕ). get_or c.args.entries.now n d) count ∙ there d in
    record {
      balanced = λ tables tell balanced. c.refer.ensures.balanced tables (c.flag_at-kept.ensures ∙ tell c.loop-k.k no_file c.loop-k-test.true ∙ ap (has_blocks_for tables) (there no_file)) (inv.balanced tables tell balanced);
      taken = subst (HasTaken first new) (sym items) (taken_more first slots new needs entry at inv.taken c.in_ok-at.ensures.ok);
      count = omega (arith, ap length items, length-append needs (at ∷ []), count);
      suits = subst (λ (l : List ℕ). AllSuit new l c.args.entries.now) (sym items) (suit_more first slots new needs c.args.entries.now entry at inv.taken c.in_ok-at.ensures.ok is inv.suits);
      room = omega (arith, c.push_reserved.ensures.capacity, inv.room);
      range = record { number = c.refer.ensures.range.number ∙ inv.range.number; base = c.refer.ensures.range.base ∙ inv.range.base };
    }
