use Rattle.std.proofs.Common.{◌≡◌, ℕ, ◌+◌, ◌-◌, ◌<◌, List, [], length, get_or, set, sym, ◌∙◌, ap, subst, refl, arith}
use Rattle.std.specs.Vec.{with_item, with_items}
use Rattle.std.proofs.lemmas.List.{get_or-set_same, get_or_default, length-take, with_items_is}
use Rattle.small_types.specs.Blocks.{count_for}
use Rattle.jobs.specs.Balance.{Balanced}
use Rattle.jobs.specs.Jobs.{IsOut, first_slot}
use Rattle.jobs.specs.Slots.{slot_at, with_held}
use Rattle.jobs.specs.declared.held.Held.TheVariants.{Whole}
use Rattle.jobs.specs.declared.held.Slot.{Slot}
use Rattle.jobs.specs.declared.table.Job.{Job}
use Rattle.jobs.specs.declared.table.JobTable.{JobTable}
use Rattle.jobs.proofs.Steps.{kept_sound, out_need, out_slot}
use Rattle.jobs.proofs.table.JobTable.keep.Goals as goal

pub returns-clause-sound : goal.returns-clause-sound
returns-clause-sound c = λ d kept given.
    let table = c.args.self.now in
    let tables = kept in
    let store = c.args.store.now in
    let job = c.index_mut.result.now in
    let is : c.index_mut.result.now ≡ get_or table.jobs.items c.args.at c.index_mut.result.now = c.index_mut.ensures.value in
    let out : IsOut tables c.index_mut.result.now c.args.blocks table store = subst (λ (j : Job). IsOut tables j c.args.blocks table store) (sym (is ∙ get_or_default table.jobs.items c.args.at job d c.requires.open)) given in
    let was : c.deref_mut.result.now ≡ table.slots.items = c.deref_mut.ensures.value in
    let new : JobTable = record { jobs = with_item table.jobs c.args.at c.pass-slot.new.self; next = table.next; slots = with_items table.slots c.put.new.slots } in
    let written : (with_items table.slots c.put.new.slots).items ≡ c.put.new.slots =
    with_items_is table.slots c.put.new.slots (c.put.auto.slots ∙ ap length was ∙ sym table.slots.ok.0) in
    let i : c.pass-slot.result ≡ first_slot c.index_mut.result.now = c.pass-slot.ensures.slot in
    let slots : new.slots.items ≡ set table.slots.items (first_slot job) (with_held (slot_at table.slots.items (first_slot job)) (Whole c.args.blocks)) =
    written ∙ c.put.ensures.slots ∙ ap (λ (l : List Slot). set l c.pass-slot.result (with_held (slot_at l c.pass-slot.result) (Whole c.args.blocks))) was
    ∙ ap (λ (n : ℕ). set table.slots.items n (with_held (slot_at table.slots.items n) (Whole c.args.blocks))) i in
    kept_sound tables table c.args.blocks store c.args.at c.requires.open job is out new (Whole c.args.blocks) c.pass-slot.new.self c.pass-slot.ensures.passed refl refl slots refl refl
    (subst (λ (l : List Slot). Balanced tables l [] store) (sym written) (c.put.ensures.balanced tables (subst (λ (l : List Slot). Balanced tables l c.args.blocks store) (sym was) out.sound.balanced)))

pub pass-slot-requires-clause-some : goal.pass-slot-requires-clause-some
pass-slot-requires-clause-some c =
    let table = c.args.self.now in
    let store = c.args.store.now in
    let job = c.index_mut.result.now in
    let is : c.index_mut.result.now ≡ get_or table.jobs.items c.args.at c.index_mut.result.now = c.index_mut.ensures.value in
    let given = c.requires.out c.index_mut.result.now in
    let out : IsOut given.0 c.index_mut.result.now c.args.blocks table store = subst (λ (j : Job). IsOut given.0 j c.args.blocks table store) (sym is) given.1 in
    out.some

pub pass-slot-requires-clause-within : goal.pass-slot-requires-clause-within
pass-slot-requires-clause-within c =
    let table = c.args.self.now in
    let store = c.args.store.now in
    let job = c.index_mut.result.now in
    let is : c.index_mut.result.now ≡ get_or table.jobs.items c.args.at c.index_mut.result.now = c.index_mut.ensures.value in
    let given = c.requires.out c.index_mut.result.now in
    let out : IsOut given.0 c.index_mut.result.now c.args.blocks table store = subst (λ (j : Job). IsOut given.0 j c.args.blocks table store) (sym is) given.1 in
    out_need given.0 table c.args.blocks store c.args.at c.requires.open job is out

pub put-requires-clause-within : goal.put-requires-clause-within
put-requires-clause-within c =
    let table = c.args.self.now in
    let store = c.args.store.now in
    let job = c.index_mut.result.now in
    let is : c.index_mut.result.now ≡ get_or table.jobs.items c.args.at c.index_mut.result.now = c.index_mut.ensures.value in
    let given = c.requires.out c.index_mut.result.now in
    let out : IsOut given.0 c.index_mut.result.now c.args.blocks table store = subst (λ (j : Job). IsOut given.0 j c.args.blocks table store) (sym is) given.1 in
    let was : c.deref_mut.result.now ≡ table.slots.items = c.deref_mut.ensures.value in
    let i : c.pass-slot.result ≡ first_slot c.index_mut.result.now = c.pass-slot.ensures.slot in
    subst (λ (l : List Slot). c.pass-slot.result < length l) (sym was) (subst (λ (n : ℕ). n < length table.slots.items) (sym i) (out_slot given.0 table c.args.blocks store c.args.at c.requires.open job is out))

pub put-requires-clause-away : goal.put-requires-clause-away
put-requires-clause-away c =
    let table = c.args.self.now in
    let store = c.args.store.now in
    let job = c.index_mut.result.now in
    let is : c.index_mut.result.now ≡ get_or table.jobs.items c.args.at c.index_mut.result.now = c.index_mut.ensures.value in
    let given = c.requires.out c.index_mut.result.now in
    let out : IsOut given.0 c.index_mut.result.now c.args.blocks table store = subst (λ (j : Job). IsOut given.0 j c.args.blocks table store) (sym is) given.1 in
    let was : c.deref_mut.result.now ≡ table.slots.items = c.deref_mut.ensures.value in
    let i : c.pass-slot.result ≡ first_slot c.index_mut.result.now = c.pass-slot.ensures.slot in
    ap (λ (l : List Slot). (slot_at l c.pass-slot.result).held) was ∙ ap (λ (n : ℕ). (slot_at table.slots.items n).held) i ∙ out.away

pub put-requires-clause-size : goal.put-requires-clause-size
put-requires-clause-size c =
    let table = c.args.self.now in
    let store = c.args.store.now in
    let job = c.index_mut.result.now in
    let is : c.index_mut.result.now ≡ get_or table.jobs.items c.args.at c.index_mut.result.now = c.index_mut.ensures.value in
    let given = c.requires.out c.index_mut.result.now in
    let out : IsOut given.0 c.index_mut.result.now c.args.blocks table store = subst (λ (j : Job). IsOut given.0 j c.args.blocks table store) (sym is) given.1 in
    let was : c.deref_mut.result.now ≡ table.slots.items = c.deref_mut.ensures.value in
    let i : c.pass-slot.result ≡ first_slot c.index_mut.result.now = c.pass-slot.ensures.slot in
    out.count ∙ sym (ap (λ (l : List Slot). count_for (slot_at l c.pass-slot.result).key.size) was ∙ ap (λ (n : ℕ). count_for (slot_at table.slots.items n).key.size) i)

pub returns-clause-left : goal.returns-clause-left
returns-clause-left c = λ d.
    let table = c.args.self.now in
    let store = c.args.store.now in
    let job = c.index_mut.result.now in
    let is : c.index_mut.result.now ≡ get_or table.jobs.items c.args.at c.index_mut.result.now = c.index_mut.ensures.value in
    let given = c.requires.out c.index_mut.result.now in
    let out : IsOut given.0 c.index_mut.result.now c.args.blocks table store = subst (λ (j : Job). IsOut given.0 j c.args.blocks table store) (sym is) given.1 in
    let some = out.some in
    let passed : Job = c.pass-slot.new.self in
    let now : c.index.result.now ≡ c.pass-slot.new.self = c.index.ensures ∙ get_or-set_same table.jobs.items c.args.at c.pass-slot.new.self c.index.result.now c.requires.open in
    let long : c.len.result ≡ length c.index.result.now.left.items = omega (arith, c.len.ensures, c.index.result.now.left.ok.0) in
    let same : length c.index.result.now.left.items ≡ length c.pass-slot.new.self.left.items = ap (λ (j : Job). length j.left.items) now in
    let less = ap length c.pass-slot.ensures.passed.left in
    let own : length c.index_mut.result.now.left.items ≡ length (get_or table.jobs.items c.args.at d).left.items = ap (λ (j : Job). length j.left.items) (is ∙ get_or_default table.jobs.items c.args.at job d c.requires.open) in
    omega (arith, long, same, less, own, some, length-take (length job.left.items - 1) job.left.items)
