use Rattle.std.proofs.Common.{◌≡◌, [], get_or, set, sym, subst}
use Rattle.std.proofs.lemmas.List.{get_or_default}
use Rattle.jobs.specs.Balance.{Balanced}
use Rattle.jobs.specs.Slots.{no_slot, slot_at, with_held}
use Rattle.jobs.specs.declared.held.Slot.{Slot}
use Rattle.jobs.proofs.SwappedDrafts.{put_back}
use Rattle.jobs.proofs.slots.put.Goals as goal

pub returns-clause-balanced : goal.returns-clause-balanced
returns-clause-balanced c = λ kept balanced.
    let slots = c.args.slots.now in
    let is : get_or slots c.args.at c.index-slots-at.result ≡ slot_at slots c.args.at = get_or_default slots c.args.at c.index-slots-at.result no_slot c.requires.within in
    subst (λ (s : Slot). Balanced kept (set slots c.args.at (with_held s c.args.held)) [] c.args.store.now) (sym is)
    (put_back kept slots c.args.at c.args.held c.args.store.now c.requires.within c.requires.away c.requires.some c.requires.size balanced)
