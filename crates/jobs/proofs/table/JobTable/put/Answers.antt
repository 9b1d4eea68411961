use Rattle.std.proofs.Common.{◌≡◌, ◌<◌, List, length, set, sym, ◌∙◌, ap, subst}
use Rattle.std.specs.Vec.{with_items}
use Rattle.std.proofs.lemmas.List.{with_items_is}
use Rattle.jobs.specs.Slots.{slot_at, with_held}
use Rattle.jobs.specs.declared.held.Slot.{Slot}
use Rattle.jobs.proofs.table.JobTable.put.Goals as goal

pub returns-clause-slots : goal.returns-clause-slots
returns-clause-slots c =
    let table = c.args.self.now in
    let was : c.deref_mut.result.now ≡ c.args.self.now.slots.items = c.deref_mut.ensures.value in
    let written : (with_items c.args.self.now.slots c.fill.new.slots).items ≡ c.fill.new.slots =
    with_items_is table.slots c.fill.new.slots (c.fill.auto.slots ∙ ap length was ∙ sym table.slots.ok.0) in
    written ∙ c.fill.ensures ∙ ap (λ (l : List Slot). set l c.args.at (with_held (slot_at l c.args.at) c.args.held)) was

pub fill-requires : goal.fill-requires
fill-requires c = subst (λ (l : List Slot). c.args.at < length l) (sym c.deref_mut.ensures.value) c.requires
