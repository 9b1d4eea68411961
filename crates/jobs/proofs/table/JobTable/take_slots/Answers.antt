use Rattle.std.proofs.Common.{◌≡◌, ℕ, ◌+◌, List, [], length, refl, sym, ◌∙◌, ap, subst, arith}
use Rattle.std.specs.Vec.{with_items}
use Rattle.std.proofs.lemmas.List.{with_items_is}
use Rattle.jobs.specs.Balance.{Balanced, times}
use Rattle.jobs.specs.NewJobs.{Tell}
use Rattle.jobs.specs.Jobs.{IsSound}
use Rattle.jobs.specs.Kept.{Kept}
use Rattle.jobs.specs.Slots.{KeepUsed, slot_at}
use Rattle.jobs.specs.declared.held.Slot.{Slot}
use Rattle.jobs.specs.declared.table.JobTable.{JobTable}
use Rattle.jobs.proofs.Hindrances.{err_alone}
use Rattle.jobs.proofs.OpenedJobs.{needed_undone, sound_same, undone_sound, users_few}
use Rattle.jobs.proofs.table.JobTable.take_slots.Goals as goal

pub refer_all-requires-clause-users : goal.refer_all-requires-clause-users
refer_all-requires-clause-users c = λ at. omega (arith, users_few c.requires.sound.0 c.args.self.now c.args.store.now c.requires.sound.2 at)

pub let_go_all-requires-clause-balanced : goal.let_go_all-requires-clause-balanced
let_go_all-requires-clause-balanced c =
    (c.requires.sound.0, subst (λ (l : List Slot). Balanced c.requires.sound.0 l [] c.refer_all.new.store) (sym c.deref_mut.ensures.value) (c.refer_all.ensures.balanced c.requires.sound.0 c.requires.sound.1 c.requires.sound.2.balanced))

pub returns-in-Err-clause-undone : goal.returns-in-Err-clause-undone
returns-in-Err-clause-undone c = λ kept tell sound.
    let mid = c.refer_all.new.slots.items in
    let made = c.let_go_all.new.slots in
    let needs = c.refer_all.new.needs.items in
    let was : c.deref_mut.result.now ≡ c.refer_all.new.slots.items = c.deref_mut.ensures.value in
    let own : c.deref.result.now ≡ c.refer_all.new.needs.items = c.deref.ensures.value in
    let new : JobTable = record { jobs = c.reserve.new.self; next = c.args.self.now.next; slots = with_items c.refer_all.new.slots c.let_go_all.new.slots } in
    let written : (with_items c.refer_all.new.slots c.let_go_all.new.slots).items ≡ c.let_go_all.new.slots =
    with_items_is c.refer_all.new.slots c.let_go_all.new.slots (c.let_go_all.auto.slots ∙ ap length was ∙ sym c.refer_all.new.slots.ok.0) in
    undone_sound kept c.args.self.now c.args.store.now sound mid needs c.refer_all.ensures.taken new c.let_go_all.new.store c.reserve.ensures.items refl
    (λ slot there.
    subst (λ (l : List Slot). (slot_at l slot).users + times slot needs ≡ (slot_at mid slot).users) (sym written)
    (subst (λ (l : List Slot). (slot_at made slot).users + times slot needs ≡ (slot_at l slot).users) was
    (subst (λ (l : List ℕ). (slot_at made slot).users + times slot l ≡ (slot_at c.deref_mut.result.now slot).users) own
    (c.let_go_all.ensures.users slot (omega (arith, there, ap length was))))))
    (subst (KeepUsed mid) (sym written) (subst (λ (l : List Slot). KeepUsed l made) was c.let_go_all.ensures.kept))
    (subst (λ (l : List Slot). Balanced kept l [] c.let_go_all.new.store) (sym written)
    (c.let_go_all.ensures.balanced kept (subst (λ (l : List Slot). Balanced kept l [] c.refer_all.new.store) (sym was) (c.refer_all.ensures.balanced kept tell sound.balanced))))

pub returns-in-Err-clause-others : goal.returns-in-Err-clause-others
returns-in-Err-clause-others c =
    let mid = c.refer_all.new.slots.items in
    let old = c.args.self.now.slots.items in
    let was : c.deref_mut.result.now ≡ c.refer_all.new.slots.items = c.deref_mut.ensures.value in
    let written : (with_items c.refer_all.new.slots c.let_go_all.new.slots).items ≡ c.let_go_all.new.slots =
    with_items_is c.refer_all.new.slots c.let_go_all.new.slots (c.let_go_all.auto.slots ∙ ap length was ∙ sym c.refer_all.new.slots.ok.0) in
    needed_undone old mid (with_items c.refer_all.new.slots c.let_go_all.new.slots).items c.refer_all.new.needs.items c.refer_all.ensures.taken
    (subst (KeepUsed mid) (sym written) (subst (λ (l : List Slot). KeepUsed l c.let_go_all.new.slots) was c.let_go_all.ensures.kept))

pub returns-in-Ok-clause-others : goal.returns-in-Ok-clause-others
returns-in-Ok-clause-others c = λ at low some. c.refer_all.ensures.taken.same at low

pub returns-in_err-reserve-clause-undone : goal.returns-in_err-reserve-clause-undone
returns-in_err-reserve-clause-undone c =
    let new : JobTable = record { jobs = c.reserve.new.self; next = c.args.self.now.next; slots = c.args.self.now.slots } in
    let still : (kept : Kept) → Tell c.args.flags.now kept c.args.entries.now → IsSound kept c.args.self.now [] [] c.args.store.now
    → IsSound kept (record { jobs = c.reserve.new.self; next = c.args.self.now.next; slots = c.args.self.now.slots }) [] [] c.args.store.now =
    λ kept tell sound. sound_same kept c.args.self.now new c.args.store.now c.reserve.ensures.items refl refl sound in
    err_alone c.from_residual.result _ still

pub returns-in_err-needs-clause-undone : goal.returns-in_err-needs-clause-undone
returns-in_err-needs-clause-undone c =
    let new : JobTable = record { jobs = c.reserve.new.self; next = c.args.self.now.next; slots = c.args.self.now.slots } in
    let still : (kept : Kept) → Tell c.args.flags.now kept c.args.entries.now → IsSound kept c.args.self.now [] [] c.args.store.now
    → IsSound kept (record { jobs = c.reserve.new.self; next = c.args.self.now.next; slots = c.args.self.now.slots }) [] [] c.args.store.now =
    λ kept tell sound. sound_same kept c.args.self.now new c.args.store.now c.reserve.ensures.items refl refl sound in
    err_alone c.from_residual-in_err-needs.result _ still
