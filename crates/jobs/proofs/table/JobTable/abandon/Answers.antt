use Rattle.std.proofs.Common.{◌≡◌, ℕ, ◌+◌, ◌<◌, ◌≤◌, All, List, [], length, refl, sym, ◌∙◌, ap, subst, arith}
use Rattle.std.specs.Vec.{with_items}
use Rattle.std.proofs.lemmas.List.{with_items_is}
use Rattle.jobs.specs.Balance.{Balanced, times}
use Rattle.jobs.specs.Slots.{KeepUsed, slot_at}
use Rattle.jobs.specs.declared.held.Slot.{Slot}
use Rattle.jobs.specs.declared.table.JobTable.{JobTable}
use Rattle.jobs.proofs.LetGoAll.{needed_from}
use Rattle.jobs.proofs.RemovedJobs.{counted_enough, sound_without, within_needs}
use Rattle.jobs.proofs.table.JobTable.abandon.Goals as goal

pub let_go_all-requires-clause-within : goal.let_go_all-requires-clause-within
let_go_all-requires-clause-within c =
    subst (λ (l : List ℕ). All (λ slot. slot < length c.deref_mut.result.now) l) (sym c.deref.ensures.value)
    (subst (λ (l : List Slot). All (λ slot. slot < length l) c.remove-job.result.needs.items) (sym c.deref_mut.ensures.value)
    (within_needs c.requires.sound.0 c.args.self.now c.args.store.now c.args.at c.remove-job.result c.requires.open c.remove-job.ensures.value c.requires.sound.1))

pub let_go_all-requires-clause-balanced : goal.let_go_all-requires-clause-balanced
let_go_all-requires-clause-balanced c =
    (c.requires.sound.0, subst (λ (l : List Slot). Balanced c.requires.sound.0 l [] c.args.store.now) (sym c.deref_mut.ensures.value) c.requires.sound.1.balanced)

pub let_go_all-requires-clause-counted : goal.let_go_all-requires-clause-counted
let_go_all-requires-clause-counted c = λ slot there.
    subst (λ (l : List ℕ). times slot l ≤ (slot_at c.deref_mut.result.now slot).users) (sym c.deref.ensures.value)
    (subst (λ (l : List Slot). times slot c.remove-job.result.needs.items ≤ (slot_at l slot).users) (sym c.deref_mut.ensures.value)
    (counted_enough c.requires.sound.0 c.args.self.now c.args.store.now c.args.at c.remove-job.result c.requires.open c.remove-job.ensures.value c.requires.sound.1 slot (omega (arith, there, ap length c.deref_mut.ensures.value))))

pub returns-clause-sound : goal.returns-clause-sound
returns-clause-sound c = λ kept sound.
    let old = c.args.self.now.slots.items in
    let made = c.let_go_all.new.slots in
    let was : c.deref_mut.result.now ≡ c.args.self.now.slots.items = c.deref_mut.ensures.value in
    let needs : c.deref.result.now ≡ c.remove-job.result.needs.items = c.deref.ensures.value in
    let new : JobTable = record { jobs = c.remove-job.new.self; next = c.args.self.now.next; slots = with_items c.args.self.now.slots c.let_go_all.new.slots } in
    let written : (with_items c.args.self.now.slots c.let_go_all.new.slots).items ≡ c.let_go_all.new.slots =
    with_items_is c.args.self.now.slots c.let_go_all.new.slots (c.let_go_all.auto.slots ∙ ap length was ∙ sym c.args.self.now.slots.ok.0) in
    sound_without kept c.args.self.now c.args.store.now c.args.at c.remove-job.result c.requires.open c.remove-job.ensures.value sound
    kept new c.let_go_all.new.store c.remove-job.ensures.items refl
    (λ slot there.
    subst (λ (l : List Slot). (slot_at l slot).users + times slot c.remove-job.result.needs.items ≡ (slot_at old slot).users) (sym written)
    (subst (λ (l : List Slot). (slot_at made slot).users + times slot c.remove-job.result.needs.items ≡ (slot_at l slot).users) was
    (subst (λ (l : List ℕ). (slot_at made slot).users + times slot l ≡ (slot_at c.deref_mut.result.now slot).users) needs
    (c.let_go_all.ensures.users slot (omega (arith, there, ap length was))))))
    (subst (KeepUsed old) (sym written) (subst (λ (l : List Slot). KeepUsed l made) was c.let_go_all.ensures.kept))
    (subst (λ (l : List Slot). Balanced kept l [] c.let_go_all.new.store) (sym written)
    (c.let_go_all.ensures.balanced kept (subst (λ (l : List Slot). Balanced kept l [] c.args.store.now) (sym was) sound.balanced)))

pub returns-clause-kept : goal.returns-clause-kept
returns-clause-kept c =
    let old = c.args.self.now.slots.items in
    let was : c.deref_mut.result.now ≡ c.args.self.now.slots.items = c.deref_mut.ensures.value in
    let written : (with_items c.args.self.now.slots c.let_go_all.new.slots).items ≡ c.let_go_all.new.slots =
    with_items_is c.args.self.now.slots c.let_go_all.new.slots (c.let_go_all.auto.slots ∙ ap length was ∙ sym c.args.self.now.slots.ok.0) in
    needed_from old (with_items c.args.self.now.slots c.let_go_all.new.slots).items
    (subst (KeepUsed old) (sym written) (subst (λ (l : List Slot). KeepUsed l c.let_go_all.new.slots) was c.let_go_all.ensures.kept))
