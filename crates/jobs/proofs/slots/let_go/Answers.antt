use Rattle.std.proofs.Common.{◌≡◌, [], get_or, set, sym, ◌∙◌, ap, subst}
use Rattle.std.proofs.lemmas.List.{get_or_default}
use Rattle.jobs.specs.Balance.{Balanced}
use Rattle.jobs.specs.Slots.{slot_at, no_slot, less, freed_by}
use Rattle.jobs.specs.declared.held.Slot.{Slot}
use Rattle.jobs.proofs.LetGo.{let_gone, let_used}
use Rattle.jobs.proofs.slots.let_go.Goals as goal

pub release-requires : goal.release-requires
release-requires c =
    let slots = c.args.slots.now in
    let is : get_or slots c.args.at c.index-slots-at.result ≡ slot_at slots c.args.at = get_or_default slots c.args.at c.index-slots-at.result no_slot c.requires.within in
    let gone : c.let_go-held.result ≡ freed_by (get_or slots c.args.at c.index-slots-at.result) = c.let_go-held.ensures.held in
    let_used c.requires.balanced.0 slots c.args.at c.let_go-held.result [] c.args.store.now c.requires.within c.requires.used c.requires.balanced.1 (gone ∙ ap freed_by is)

pub returns-clause-balanced : goal.returns-clause-balanced
returns-clause-balanced c = λ kept balanced.
    let slots = c.args.slots.now in
    let is : get_or slots c.args.at c.index-slots-at.result ≡ slot_at slots c.args.at = get_or_default slots c.args.at c.index-slots-at.result no_slot c.requires.within in
    let gone : c.let_go-held.result ≡ freed_by (get_or slots c.args.at c.index-slots-at.result) = c.let_go-held.ensures.held in
    let left : c.let_go-held.new.self ≡ less (get_or slots c.args.at c.index-slots-at.result) = c.let_go-held.ensures.slot in
    subst (λ (s : Slot). Balanced kept (set slots c.args.at s) [] c.release.new.store) (sym (left ∙ ap less is))
    (let_gone kept slots c.args.at c.let_go-held.result [] c.args.store.now c.release.new.store c.requires.within c.requires.used balanced
    (gone ∙ ap freed_by is) c.release.ensures.freed c.release.ensures.range)
