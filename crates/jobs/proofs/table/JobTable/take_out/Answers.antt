use Rattle.std.proofs.Common.{◌≡◌, ℕ, ◌+◌, ◌<◌, ◌≤◌, All, List, false, [], length, get_or, refl, sym, ◌∙◌, ap, subst, arith}
use Rattle.std.specs.Vec.{with_items}
use Rattle.std.proofs.lemmas.List.{get_or_default, with_items_is}
use Rattle.jobs.specs.Balance.{Balanced, times}
use Rattle.jobs.specs.HandOver.{Receives, gained}
use Rattle.jobs.specs.Slots.{IsFit, KeepFiles, KeepNeeded, slot_at}
use Rattle.jobs.specs.declared.held.Held.TheVariants.{Nothing}
use Rattle.jobs.specs.declared.held.Slot.{Slot}
use Rattle.jobs.specs.declared.table.Job.{Job}
use Rattle.jobs.specs.declared.table.JobTable.{JobTable}
use Rattle.jobs.proofs.HandedSlots.{received}
use Rattle.jobs.proofs.RemovedJobs.{counted_enough, sound_handed, within_needs}
use Rattle.jobs.proofs.table.JobTable.take_out.Goals as goal

pub hand_over_all-requires-clause-within : goal.hand_over_all-requires-clause-within
hand_over_all-requires-clause-within c =
    subst (λ (l : List ℕ). All (λ slot. slot < length c.deref_mut.result.now) l) (sym c.deref.ensures.value)
    (subst (λ (l : List Slot). All (λ slot. slot < length l) c.remove-job.result.needs.items) (sym c.deref_mut.ensures.value)
    (within_needs c.requires.sound.0 c.args.self.now c.requires.sound.1 c.args.at c.remove-job.result c.requires.open c.remove-job.ensures.value c.requires.sound.2))

pub hand_over_all-requires-clause-counted : goal.hand_over_all-requires-clause-counted
hand_over_all-requires-clause-counted c = λ slot there.
    subst (λ (l : List ℕ). times slot l ≤ (slot_at c.deref_mut.result.now slot).users) (sym c.deref.ensures.value)
    (subst (λ (l : List Slot). times slot c.remove-job.result.needs.items ≤ (slot_at l slot).users) (sym c.deref_mut.ensures.value)
    (counted_enough c.requires.sound.0 c.args.self.now c.requires.sound.1 c.args.at c.remove-job.result c.requires.open c.remove-job.ensures.value c.requires.sound.2 slot (omega (arith, there, ap length c.deref_mut.ensures.value))))

pub hand_over_all-requires-clause-programs : goal.hand_over_all-requires-clause-programs
hand_over_all-requires-clause-programs c =
    subst (λ (l : List ℕ). All (λ slot. (slot_at c.deref_mut.result.now slot).local ≡ false → (slot_at c.deref_mut.result.now slot).held ≡ Nothing) l) (sym c.deref.ensures.value)
    (subst (λ (l : List Slot). All (λ slot. (slot_at l slot).local ≡ false → (slot_at l slot).held ≡ Nothing) c.remove-job.result.needs.items) (sym c.deref_mut.ensures.value)
    (subst (λ (j : Job). All (λ slot. (slot_at c.args.self.now.slots.items slot).local ≡ false → (slot_at c.args.self.now.slots.items slot).held ≡ Nothing) j.needs.items) (sym c.remove-job.ensures.value) (c.requires.programs c.remove-job.result)))

pub returns-clause-sound : goal.returns-clause-sound
returns-clause-sound c = λ d before after store receives sound.
    let old = c.args.self.now.slots.items in
    let made = c.hand_over_all.new.slots in
    let job = c.remove-job.result in
    let was : c.deref_mut.result.now ≡ c.args.self.now.slots.items = c.deref_mut.ensures.value in
    let needs : c.deref.result.now ≡ c.remove-job.result.needs.items = c.deref.ensures.value in
    let new : JobTable = record { jobs = c.remove-job.new.self; next = c.args.self.now.next; slots = with_items c.args.self.now.slots c.hand_over_all.new.slots } in
    let written : (with_items c.args.self.now.slots c.hand_over_all.new.slots).items ≡ c.hand_over_all.new.slots =
    with_items_is c.args.self.now.slots c.hand_over_all.new.slots (c.hand_over_all.auto.slots ∙ ap length was ∙ sym c.args.self.now.slots.ok.0) in
    let is : get_or c.args.self.now.jobs.items c.args.at d ≡ c.remove-job.result = get_or_default c.args.self.now.jobs.items c.args.at d c.remove-job.result c.requires.open ∙ sym c.remove-job.ensures.value in
    let given : Receives before after c.args.self.now.slots.items c.remove-job.result.needs.items = subst (λ (j : Job). Receives before after c.args.self.now.slots.items j.needs.items) is receives in
    let handed : Balanced (gained before c.args.self.now.slots.items c.remove-job.result.needs.items) c.hand_over_all.new.slots [] store =
    subst (λ (l : List ℕ). Balanced (gained before old l) made [] store) needs
    (subst (λ (l : List Slot). Balanced (gained before l c.deref.result.now) made [] store) was
    (c.hand_over_all.ensures.balanced before store (subst (λ (l : List Slot). Balanced before l [] store) (sym was) sound.balanced))) in
    sound_handed before c.args.self.now store c.args.at job c.requires.open c.remove-job.ensures.value sound
    after new c.remove-job.ensures.items refl
    (λ slot there.
    subst (λ (l : List Slot). (slot_at l slot).users + times slot c.remove-job.result.needs.items ≡ (slot_at old slot).users) (sym written)
    (subst (λ (l : List Slot). (slot_at made slot).users + times slot c.remove-job.result.needs.items ≡ (slot_at l slot).users) was
    (subst (λ (l : List ℕ). (slot_at made slot).users + times slot l ≡ (slot_at c.deref_mut.result.now slot).users) needs
    (c.hand_over_all.ensures.users slot (omega (arith, there, ap length was))))))
    (subst (KeepFiles old) (sym written) (subst (λ (l : List Slot). KeepFiles l made) was c.hand_over_all.ensures.files))
    (subst (λ (l : List Slot). Balanced after l [] store) (sym written) (received before after old c.remove-job.result.needs.items made store given handed))

pub returns-clause-others : goal.returns-clause-others
returns-clause-others c =
    let old = c.args.self.now.slots.items in
    let was : c.deref_mut.result.now ≡ c.args.self.now.slots.items = c.deref_mut.ensures.value in
    let written : (with_items c.args.self.now.slots c.hand_over_all.new.slots).items ≡ c.hand_over_all.new.slots =
    with_items_is c.args.self.now.slots c.hand_over_all.new.slots (c.hand_over_all.auto.slots ∙ ap length was ∙ sym c.args.self.now.slots.ok.0) in
    subst (KeepNeeded old) (sym written)
    (subst (λ (l : List Slot). KeepNeeded l c.hand_over_all.new.slots) was
    (c.hand_over_all.ensures.others (subst (All IsFit) (sym was) c.requires.sound.2.balanced.fit)))
