use Rattle.std.proofs.Common.{◌≡◌, ℕ, ◌-◌, ◌<◌, List, [], length, get_or, set, sym, ◌∙◌, ap, subst, refl, arith}
use Rattle.std.specs.Vec.{with_items}
use Rattle.std.proofs.lemmas.List.{get_or_default, with_items_is}
use Rattle.file_store.specs.Stores.{draft_blocks}
use Rattle.jobs.specs.Balance.{Balanced}
use Rattle.jobs.specs.Jobs.{IsOut, first_left, first_slot}
use Rattle.jobs.specs.Slots.{slot_at, with_held}
use Rattle.jobs.specs.declared.held.Held.TheVariants.{Coming}
use Rattle.jobs.specs.declared.held.Slot.{Slot}
use Rattle.jobs.specs.declared.table.Job.{Job}
use Rattle.jobs.specs.declared.table.JobTable.{JobTable}
use Rattle.jobs.proofs.Steps.{back_sound, out_need, out_slot}
use Rattle.jobs.proofs.table.JobTable.give_back.Goals as goal

pub returns-clause-sound : goal.returns-clause-sound
returns-clause-sound c = λ d kept given.
    let table = c.args.self.now in
    let tables = kept in
    let store = c.args.store.now in
    let job = c.index-job.result.now in
    let blocks = draft_blocks c.args.draft in
    let is : c.index-job.result.now ≡ get_or table.jobs.items c.args.at c.index-job.result.now = c.index-job.ensures in
    let out : IsOut tables c.index-job.result.now (draft_blocks c.args.draft) table store = subst (λ (j : Job). IsOut tables j blocks table store) (sym (is ∙ get_or_default table.jobs.items c.args.at job d c.requires.open)) given in
    let was : c.deref_mut.result.now ≡ table.slots.items = c.deref_mut.ensures.value in
    let new : JobTable = record { jobs = table.jobs; next = table.next; slots = with_items table.slots c.put.new.slots } in
    let written : (with_items table.slots c.put.new.slots).items ≡ c.put.new.slots =
    with_items_is table.slots c.put.new.slots (c.put.auto.slots ∙ ap length was ∙ sym table.slots.ok.0) in
    let some = out.some in
    let long : c.len.result ≡ length job.left.items = omega (arith, c.len.ensures, job.left.ok.0) in
    let first : c.index-first.result.now ≡ first_left c.index-job.result.now =
    c.index-first.ensures ∙ get_or_default job.left.items (c.len.result - 1) c.index-first.result.now 0 (omega arith) ∙ ap (λ (n : ℕ). get_or job.left.items (n - 1) 0) long in
    let low : first_left c.index-job.result.now < length c.index-job.result.now.needs.items = out_need tables table blocks store c.args.at c.requires.open job is out in
    let i : c.index.result.now ≡ first_slot c.index-job.result.now =
    c.index.ensures ∙ get_or_default job.needs.items c.index-first.result.now c.index.result.now 0 (subst (λ (n : ℕ). n < length job.needs.items) (sym first) low) ∙ ap (λ (n : ℕ). get_or job.needs.items n 0) first in
    let slots : new.slots.items ≡ set table.slots.items (first_slot job) (with_held (slot_at table.slots.items (first_slot job)) (Coming c.args.draft)) =
    written ∙ c.put.ensures.slots ∙ ap (λ (l : List Slot). set l c.index.result.now (with_held (slot_at l c.index.result.now) (Coming c.args.draft))) was
    ∙ ap (λ (n : ℕ). set table.slots.items n (with_held (slot_at table.slots.items n) (Coming c.args.draft))) i in
    back_sound tables table blocks store c.args.at c.requires.open job is out new (Coming c.args.draft) refl refl slots refl
    (subst (λ (l : List Slot). Balanced tables l [] store) (sym written) (c.put.ensures.balanced tables (subst (λ (l : List Slot). Balanced tables l blocks store) (sym was) out.sound.balanced)))

pub returns-clause-slots : goal.returns-clause-slots
returns-clause-slots c = λ d.
    let table = c.args.self.now in
    let tables = (c.requires.out c.index-job.result.now).0 in
    let store = c.args.store.now in
    let job = c.index-job.result.now in
    let blocks = draft_blocks c.args.draft in
    let is : c.index-job.result.now ≡ get_or table.jobs.items c.args.at c.index-job.result.now = c.index-job.ensures in
    let out : IsOut (c.requires.out c.index-job.result.now).0 c.index-job.result.now (draft_blocks c.args.draft) table store = subst (λ (j : Job). IsOut tables j blocks table store) (sym is) (c.requires.out job).1 in
    let was : c.deref_mut.result.now ≡ table.slots.items = c.deref_mut.ensures.value in
    let written : (with_items table.slots c.put.new.slots).items ≡ c.put.new.slots =
    with_items_is table.slots c.put.new.slots (c.put.auto.slots ∙ ap length was ∙ sym table.slots.ok.0) in
    let some = out.some in
    let long : c.len.result ≡ length job.left.items = omega (arith, c.len.ensures, job.left.ok.0) in
    let first : c.index-first.result.now ≡ first_left c.index-job.result.now =
    c.index-first.ensures ∙ get_or_default job.left.items (c.len.result - 1) c.index-first.result.now 0 (omega arith) ∙ ap (λ (n : ℕ). get_or job.left.items (n - 1) 0) long in
    let low : first_left c.index-job.result.now < length c.index-job.result.now.needs.items = out_need tables table blocks store c.args.at c.requires.open job is out in
    let i : c.index.result.now ≡ first_slot c.index-job.result.now =
    c.index.ensures ∙ get_or_default job.needs.items c.index-first.result.now c.index.result.now 0 (subst (λ (n : ℕ). n < length job.needs.items) (sym first) low) ∙ ap (λ (n : ℕ). get_or job.needs.items n 0) first in
    let slots : (with_items table.slots c.put.new.slots).items ≡ set table.slots.items (first_slot job) (with_held (slot_at table.slots.items (first_slot job)) (Coming c.args.draft)) =
    written ∙ c.put.ensures.slots ∙ ap (λ (l : List Slot). set l c.index.result.now (with_held (slot_at l c.index.result.now) (Coming c.args.draft))) was
    ∙ ap (λ (n : ℕ). set table.slots.items n (with_held (slot_at table.slots.items n) (Coming c.args.draft))) i in
    slots ∙ ap (λ (j : Job). set table.slots.items (first_slot j) (with_held (slot_at table.slots.items (first_slot j)) (Coming c.args.draft))) (is ∙ get_or_default table.jobs.items c.args.at job d c.requires.open)

pub overflow_sub-len : goal.overflow_sub-len
overflow_sub-len c =
    let table = c.args.self.now in
    let store = c.args.store.now in
    let job = c.index-job.result.now in
    let blocks = draft_blocks c.args.draft in
    let is : c.index-job.result.now ≡ get_or table.jobs.items c.args.at c.index-job.result.now = c.index-job.ensures in
    let given = c.requires.out c.index-job.result.now in
    let out : IsOut given.0 c.index-job.result.now (draft_blocks c.args.draft) table store = subst (λ (j : Job). IsOut given.0 j blocks table store) (sym is) given.1 in
    let some = out.some in
    let long : c.len.result ≡ length c.index-job.result.now.left.items = omega (arith, c.len.ensures, c.index-job.result.now.left.ok.0) in
    omega (arith, long, some)

pub index-first-requires : goal.index-first-requires
index-first-requires c =
    let table = c.args.self.now in
    let store = c.args.store.now in
    let job = c.index-job.result.now in
    let blocks = draft_blocks c.args.draft in
    let is : c.index-job.result.now ≡ get_or table.jobs.items c.args.at c.index-job.result.now = c.index-job.ensures in
    let given = c.requires.out c.index-job.result.now in
    let out : IsOut given.0 c.index-job.result.now (draft_blocks c.args.draft) table store = subst (λ (j : Job). IsOut given.0 j blocks table store) (sym is) given.1 in
    let some = out.some in
    let long : c.len.result ≡ length c.index-job.result.now.left.items = omega (arith, c.len.ensures, c.index-job.result.now.left.ok.0) in
    omega (arith, long, some, c.len.ensures)

pub index-requires : goal.index-requires
index-requires c =
    let table = c.args.self.now in
    let store = c.args.store.now in
    let job = c.index-job.result.now in
    let blocks = draft_blocks c.args.draft in
    let is : c.index-job.result.now ≡ get_or table.jobs.items c.args.at c.index-job.result.now = c.index-job.ensures in
    let given = c.requires.out c.index-job.result.now in
    let out : IsOut given.0 c.index-job.result.now (draft_blocks c.args.draft) table store = subst (λ (j : Job). IsOut given.0 j blocks table store) (sym is) given.1 in
    let some = out.some in
    let long : c.len.result ≡ length c.index-job.result.now.left.items = omega (arith, c.len.ensures, c.index-job.result.now.left.ok.0) in
    let first : c.index-first.result.now ≡ first_left c.index-job.result.now =
    c.index-first.ensures ∙ get_or_default job.left.items (c.len.result - 1) c.index-first.result.now 0 (omega arith) ∙ ap (λ (n : ℕ). get_or job.left.items (n - 1) 0) long in
    let low : first_left c.index-job.result.now < length c.index-job.result.now.needs.items = out_need given.0 table blocks store c.args.at c.requires.open job is out in
    let there : c.index-first.result.now < length c.index-job.result.now.needs.items = subst (λ (n : ℕ). n < length job.needs.items) (sym first) low in
    omega (arith, there, c.index-job.result.now.needs.ok.0)

pub put-requires-clause-within : goal.put-requires-clause-within
put-requires-clause-within c =
    let table = c.args.self.now in
    let store = c.args.store.now in
    let job = c.index-job.result.now in
    let blocks = draft_blocks c.args.draft in
    let is : c.index-job.result.now ≡ get_or table.jobs.items c.args.at c.index-job.result.now = c.index-job.ensures in
    let given = c.requires.out c.index-job.result.now in
    let out : IsOut given.0 c.index-job.result.now (draft_blocks c.args.draft) table store = subst (λ (j : Job). IsOut given.0 j blocks table store) (sym is) given.1 in
    let some = out.some in
    let long : c.len.result ≡ length c.index-job.result.now.left.items = omega (arith, c.len.ensures, c.index-job.result.now.left.ok.0) in
    let first : c.index-first.result.now ≡ first_left c.index-job.result.now =
    c.index-first.ensures ∙ get_or_default job.left.items (c.len.result - 1) c.index-first.result.now 0 (omega arith) ∙ ap (λ (n : ℕ). get_or job.left.items (n - 1) 0) long in
    let low : first_left c.index-job.result.now < length c.index-job.result.now.needs.items = out_need given.0 table blocks store c.args.at c.requires.open job is out in
    let was : c.deref_mut.result.now ≡ table.slots.items = c.deref_mut.ensures.value in
    let i : c.index.result.now ≡ first_slot c.index-job.result.now =
    c.index.ensures ∙ get_or_default job.needs.items c.index-first.result.now c.index.result.now 0 (subst (λ (n : ℕ). n < length job.needs.items) (sym first) low) ∙ ap (λ (n : ℕ). get_or job.needs.items n 0) first in
    subst (λ (l : List Slot). c.index.result.now < length l) (sym was) (subst (λ (n : ℕ). n < length table.slots.items) (sym i) (out_slot given.0 table blocks store c.args.at c.requires.open job is out))

pub put-requires-clause-away : goal.put-requires-clause-away
put-requires-clause-away c =
    let table = c.args.self.now in
    let store = c.args.store.now in
    let job = c.index-job.result.now in
    let blocks = draft_blocks c.args.draft in
    let is : c.index-job.result.now ≡ get_or table.jobs.items c.args.at c.index-job.result.now = c.index-job.ensures in
    let given = c.requires.out c.index-job.result.now in
    let out : IsOut given.0 c.index-job.result.now (draft_blocks c.args.draft) table store = subst (λ (j : Job). IsOut given.0 j blocks table store) (sym is) given.1 in
    let some = out.some in
    let long : c.len.result ≡ length c.index-job.result.now.left.items = omega (arith, c.len.ensures, c.index-job.result.now.left.ok.0) in
    let first : c.index-first.result.now ≡ first_left c.index-job.result.now =
    c.index-first.ensures ∙ get_or_default job.left.items (c.len.result - 1) c.index-first.result.now 0 (omega arith) ∙ ap (λ (n : ℕ). get_or job.left.items (n - 1) 0) long in
    let low : first_left c.index-job.result.now < length c.index-job.result.now.needs.items = out_need given.0 table blocks store c.args.at c.requires.open job is out in
    let was : c.deref_mut.result.now ≡ table.slots.items = c.deref_mut.ensures.value in
    let i : c.index.result.now ≡ first_slot c.index-job.result.now =
    c.index.ensures ∙ get_or_default job.needs.items c.index-first.result.now c.index.result.now 0 (subst (λ (n : ℕ). n < length job.needs.items) (sym first) low) ∙ ap (λ (n : ℕ). get_or job.needs.items n 0) first in
    ap (λ (l : List Slot). (slot_at l c.index.result.now).held) was ∙ ap (λ (n : ℕ). (slot_at table.slots.items n).held) i ∙ out.away

pub put-requires-clause-size : goal.put-requires-clause-size
put-requires-clause-size c =
    let table = c.args.self.now in
    let store = c.args.store.now in
    let job = c.index-job.result.now in
    let blocks = draft_blocks c.args.draft in
    let is : c.index-job.result.now ≡ get_or table.jobs.items c.args.at c.index-job.result.now = c.index-job.ensures in
    let given = c.requires.out c.index-job.result.now in
    let out : IsOut given.0 c.index-job.result.now (draft_blocks c.args.draft) table store = subst (λ (j : Job). IsOut given.0 j blocks table store) (sym is) given.1 in
    let some = out.some in
    let long : c.len.result ≡ length c.index-job.result.now.left.items = omega (arith, c.len.ensures, c.index-job.result.now.left.ok.0) in
    let first : c.index-first.result.now ≡ first_left c.index-job.result.now =
    c.index-first.ensures ∙ get_or_default job.left.items (c.len.result - 1) c.index-first.result.now 0 (omega arith) ∙ ap (λ (n : ℕ). get_or job.left.items (n - 1) 0) long in
    let low : first_left c.index-job.result.now < length c.index-job.result.now.needs.items = out_need given.0 table blocks store c.args.at c.requires.open job is out in
    let was : c.deref_mut.result.now ≡ table.slots.items = c.deref_mut.ensures.value in
    let i : c.index.result.now ≡ first_slot c.index-job.result.now =
    c.index.ensures ∙ get_or_default job.needs.items c.index-first.result.now c.index.result.now 0 (subst (λ (n : ℕ). n < length job.needs.items) (sym first) low) ∙ ap (λ (n : ℕ). get_or job.needs.items n 0) first in
    c.requires.size c.index-job.result.now ∙ ap (λ (j : Job). (slot_at table.slots.items (first_slot j)).key.size) (sym is)
    ∙ sym (ap (λ (l : List Slot). (slot_at l c.index.result.now).key.size) was ∙ ap (λ (n : ℕ). (slot_at table.slots.items n).key.size) i)
