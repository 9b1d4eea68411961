use Rattle.std.proofs.Common.{◌≡◌, ◌+◌, ◌<◌, List, length, get_or, take, refl, sym, ◌∙◌, subst, arith}
use Rattle.jobs.specs.Balance.{times}
use Rattle.jobs.specs.Slots.{KeepUsed, slot_at}
use Rattle.jobs.specs.declared.held.Slot.{Slot}
use Rattle.jobs.proofs.Counts.{times-nil}
use Rattle.jobs.proofs.LetGoAll.{keep_more, keep_none, some_left, users_more}
use Rattle.jobs.proofs.slots.let_go_all.Goals as goal

pub loop-need-init : goal.loop-need-init
loop-need-init c = record {
  balanced = λ kept balanced. balanced;
  users = λ at low. omega (arith, times-nil at);
  kept = keep_none c.args.slots.now;
  range = record { number = refl; base = refl };
}

pub let_go-requires-clause-used : goal.let_go-requires-clause-used
let_go-requires-clause-used c =
    let low = c.requires.within c.loop-need.need-index 0 c.loop-need-test.true in
    some_left c.args.slots.now c.loop-need.slots c.args.needs.now c.loop-need.need-index 0 c.loop-need-test.true
    (c.requires.counted (get_or c.args.needs.now c.loop-need.need-index 0) low) (c.loop-need.invariant.users (get_or c.args.needs.now c.loop-need.need-index 0) low)

pub let_go-requires-clause-balanced : goal.let_go-requires-clause-balanced
let_go-requires-clause-balanced c =
    (c.requires.balanced.0, c.loop-need.invariant.balanced c.requires.balanced.0 c.requires.balanced.1)

pub loop-need-preserved : goal.loop-need-preserved
loop-need-preserved c =
    let k = c.loop-need.need-index in
    let needs = c.args.needs.now in
    let first = c.args.slots.now in
    let slots = c.loop-need.slots in
    let within : get_or needs k 0 < length first = c.requires.within k 0 c.loop-need-test.true in
    let same : length slots ≡ length first = c.loop-need.auto.slots in
    let low : get_or needs k 0 < length slots = omega arith in
    let some = some_left first slots needs k 0 c.loop-need-test.true (c.requires.counted (get_or needs k 0) within) (c.loop-need.invariant.users (get_or needs k 0) within) in
    record {
      balanced = λ kept balanced. c.let_go.ensures.balanced kept (c.loop-need.invariant.balanced kept balanced);
      users = λ at there. subst (λ (l : List Slot). (slot_at l at).users + times at (take (k + 1) needs) ≡ (slot_at first at).users) (sym c.let_go.ensures.slots) (users_more first slots needs k 0 c.loop-need-test.true low some at (c.loop-need.invariant.users at there));
      kept = subst (KeepUsed first) (sym c.let_go.ensures.slots) (keep_more first slots needs k 0 c.loop-need-test.true low some c.loop-need.invariant.kept);
      range = record { number = c.let_go.ensures.range.number ∙ c.loop-need.invariant.range.number; base = c.let_go.ensures.range.base ∙ c.loop-need.invariant.range.base };
    }
