use Rattle.std.proofs.Common.{◌≡◌, ◌+◌, [], get_or, set, sym, subst}
use Rattle.std.proofs.lemmas.List.{get_or_default}
use Rattle.jobs.specs.Balance.{Balanced}
use Rattle.jobs.specs.Slots.{no_slot, slot_at}
use Rattle.jobs.specs.declared.held.Slot.{Slot}
use Rattle.jobs.proofs.ReferredSlots.{joined}
use Rattle.jobs.proofs.slots.join.Goals as goal

pub returns-clause-balanced : goal.returns-clause-balanced
returns-clause-balanced c = λ kept balanced.
    let slots = c.args.slots.now in
    let two : get_or slots c.args.at c.index-slots-at-2.result ≡ slot_at slots c.args.at = get_or_default slots c.args.at c.index-slots-at-2.result no_slot c.requires.within in
    let one : get_or slots c.args.at c.index-slots-at.result ≡ slot_at slots c.args.at = get_or_default slots c.args.at c.index-slots-at.result no_slot c.requires.within in
    subst (λ (s : Slot). Balanced kept (set slots c.args.at (record s { users = (get_or slots c.args.at c.index-slots-at.result).users + 1 })) [] c.args.store.now) (sym two)
    (subst (λ (s : Slot). Balanced kept (set slots c.args.at (record (slot_at slots c.args.at) { users = s.users + 1 })) [] c.args.store.now) (sym one)
    (joined kept slots c.args.at c.args.store.now c.requires.within c.requires.used c.requires.for_all balanced))
