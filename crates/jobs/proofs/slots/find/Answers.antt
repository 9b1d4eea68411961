use Rattle.std.proofs.Common.{◌≡◌, ◌&&◌, false, get_or, sym, subst}
use Rattle.jobs.specs.Keys.{key_by}
use Rattle.jobs.specs.Slots.{is_for, is_used}
use Rattle.jobs.specs.declared.held.Slot.{Slot}
use Rattle.jobs.proofs.ReferredSlots.{needed_more, needed_none}
use Rattle.jobs.proofs.slots.find.Goals as goal

pub loop-at-init : goal.loop-at-init
loop-at-init c = needed_none (key_by c.args.size c.args.list.now)

pub loop-at-preserved : goal.loop-at-preserved
loop-at-preserved c =
    let other : (is_for (key_by c.args.size c.args.list.now) (get_or c.args.slots.now c.loop-at.at c.index-slots-at.result) && is_used (get_or c.args.slots.now c.loop-at.at c.index-slots-at.result)) ≡ false = subst (λ (s : Slot). (is_for (key_by c.args.size c.args.list.now) s && is_used s) ≡ false) c.index-slots-at.is (sym c.if-is_for.ensures) in
    needed_more (key_by c.args.size c.args.list.now) c.args.slots.now c.loop-at.at c.index-slots-at.result c.loop-at-test.true other c.loop-at.invariant
