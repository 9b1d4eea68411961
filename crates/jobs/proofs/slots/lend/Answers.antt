use Rattle.std.proofs.Common.{◌≡◌, Option, IfSome, [], get_or, set, sym, ◌∙◌, ap, subst, refl}
use Rattle.std.proofs.lemmas.List.{get_or_default}
use Rattle.file_store.specs.Stores.{draft_blocks, draft_size}
use Rattle.file_store.specs.declared.draft.Draft.{Draft}
use Rattle.jobs.specs.Balance.{KeepsBalance}
use Rattle.jobs.specs.Slots.{draft_of, lent, no_slot, slot_at}
use Rattle.jobs.specs.declared.held.Slot.{Slot}
use Rattle.jobs.proofs.SwappedDrafts.{lent_out, lent_size}
use Rattle.jobs.proofs.slots.lend.Goals as goal

pub returns-clause-balanced : goal.returns-clause-balanced
returns-clause-balanced c =
    let slots = c.args.slots.now in
    let is : get_or slots c.args.at c.index-slots-at.result ≡ slot_at slots c.args.at = get_or_default slots c.args.at c.index-slots-at.result no_slot c.requires.within in
    let left : c.lend.new.self ≡ lent (get_or slots c.args.at c.index-slots-at.result) = c.lend.ensures.slot in
    let given : c.lend.result ≡ draft_of (get_or slots c.args.at c.index-slots-at.result).held = c.lend.ensures.draft in
    subst (λ (o : Option Draft). IfSome o (λ draft. KeepsBalance slots [] c.args.store.now (set slots c.args.at c.lend.new.self) (draft_blocks draft) c.args.store.now)) (sym (given ∙ ap (λ (s : Slot). draft_of s.held) is))
    (subst (λ (s : Slot). IfSome (draft_of (slot_at slots c.args.at).held) (λ draft. KeepsBalance slots [] c.args.store.now (set slots c.args.at s) (draft_blocks draft) c.args.store.now)) (sym (left ∙ ap lent is))
    (lent_out slots c.args.at c.args.store.now c.requires.within (slot_at slots c.args.at).held refl))

pub returns-clause-size : goal.returns-clause-size
returns-clause-size c = λ kept balanced.
    let slots = c.args.slots.now in
    let is : get_or slots c.args.at c.index-slots-at.result ≡ slot_at slots c.args.at = get_or_default slots c.args.at c.index-slots-at.result no_slot c.requires.within in
    let given : c.lend.result ≡ draft_of (get_or slots c.args.at c.index-slots-at.result).held = c.lend.ensures.draft in
    subst (λ (o : Option Draft). IfSome o (λ draft. draft_size draft ≡ (slot_at slots c.args.at).key.size)) (sym (given ∙ ap (λ (s : Slot). draft_of s.held) is))
    (lent_size (slot_at slots c.args.at).key.size (slot_at slots c.args.at).held (balanced.fit c.args.at no_slot c.requires.within).size)
