use Rattle.std.proofs.Common.{◌≡◌, get_or, set, ◌∙◌, ap}
use Rattle.std.proofs.lemmas.List.{get_or_default}
use Rattle.jobs.specs.Slots.{draft_of, lent, no_slot, slot_at}
use Rattle.jobs.specs.declared.held.Slot.{Slot}
use Rattle.jobs.proofs.table.JobTable.lend.Goals as goal

pub returns-clause-draft : goal.returns-clause-draft
returns-clause-draft c =
    c.lend.ensures.draft ∙ ap (λ (s : Slot). draft_of s.held) (c.index_mut.ensures.value ∙ get_or_default c.args.self.now.slots.items c.args.at c.index_mut.result.now no_slot c.requires)

pub returns-clause-slots : goal.returns-clause-slots
returns-clause-slots c =
    ap (set c.args.self.now.slots.items c.args.at) (c.lend.ensures.slot ∙ ap lent (c.index_mut.ensures.value ∙ get_or_default c.args.self.now.slots.items c.args.at c.index_mut.result.now no_slot c.requires))
