use Rattle.std.proofs.Common.{◌≡◌, ◌<◌, ◌≤◌, List, length, vec_len, sym, ◌∙◌, ap, arith}
use Rattle.std.proofs.lemmas.Bool.{leb-false, leb-true, ltb-false, ltb-true}
use Rattle.small_types.specs.declared.limits.TheConstants.{JOB_LIMIT, NUMBER_LIMIT}
use Rattle.jobs.specs.NewJobs.{need_for}
use Rattle.jobs.specs.declared.held.Slot.{Slot}
use Rattle.jobs.proofs.Hindrances.{full_hinders, need_hinders, none_hinders, spent_hinders}
use Rattle.jobs.proofs.table.JobTable.hindrance.Goals as goal

pub returns-then-is_full : goal.returns-then-is_full
returns-then-is_full c =
    let full : JOB_LIMIT ≤ length c.args.self.now.jobs.items = omega (arith, leb-true JOB_LIMIT (vec_len c.args.self.now.jobs) (sym c.if-is_full.ensures), c.args.self.now.jobs.ok.0) in
    full_hinders c.args.self.now c.args.entries.now c.args.left.now c.args.store.now full

pub returns-then-is_spent : goal.returns-then-is_spent
returns-then-is_spent c =
    let room : length c.args.self.now.jobs.items < JOB_LIMIT = omega (arith, leb-false JOB_LIMIT (vec_len c.args.self.now.jobs) (sym c.if-is_full.ensures), c.args.self.now.jobs.ok.0) in
    spent_hinders c.args.self.now c.args.entries.now c.args.left.now c.args.store.now room (leb-true NUMBER_LIMIT c.args.self.now.next (sym c.if-is_spent.ensures))

pub returns-then-exceeds : goal.returns-then-exceeds
returns-then-exceeds c =
    let room : length c.args.self.now.jobs.items < JOB_LIMIT = omega (arith, leb-false JOB_LIMIT (vec_len c.args.self.now.jobs) (sym c.if-is_full.ensures), c.args.self.now.jobs.ok.0) in
    let number = leb-false NUMBER_LIMIT c.args.self.now.next (sym c.if-is_spent.ensures) in
    let need : c.need-need.result ≡ need_for c.args.self.now.slots.items c.args.entries.now c.args.left.now = c.need-need.ensures ∙ ap (λ (l : List Slot). need_for l c.args.entries.now c.args.left.now) c.deref.ensures.value in
    need_hinders c.args.self.now c.args.entries.now c.args.left.now c.args.store.now c.need-need.result c.free-free.result need c.free-free.ensures room number (ltb-true c.free-free.result c.need-need.result (sym c.if-exceeds.ensures))

pub returns : goal.returns
returns c =
    let room : length c.args.self.now.jobs.items < JOB_LIMIT = omega (arith, leb-false JOB_LIMIT (vec_len c.args.self.now.jobs) (sym c.if-is_full.ensures), c.args.self.now.jobs.ok.0) in
    let number = leb-false NUMBER_LIMIT c.args.self.now.next (sym c.if-is_spent.ensures) in
    let need : c.need-need.result ≡ need_for c.args.self.now.slots.items c.args.entries.now c.args.left.now = c.need-need.ensures ∙ ap (λ (l : List Slot). need_for l c.args.entries.now c.args.left.now) c.deref.ensures.value in
    none_hinders c.args.self.now c.args.entries.now c.args.left.now c.args.store.now c.need-need.result c.free-free.result need c.free-free.ensures room number (ltb-false c.free-free.result c.need-need.result (sym c.if-exceeds.ensures))
