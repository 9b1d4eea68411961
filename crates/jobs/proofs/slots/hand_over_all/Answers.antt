use Rattle.std.proofs.Common.{◌≡◌, ℕ, ◌+◌, ◌<◌, List, [], length, get_or, take, refl, sym, ◌∙◌, ap, subst, arith}
use Rattle.jobs.specs.Balance.{Balanced, times}
use Rattle.jobs.specs.HandOver.{gained}
use Rattle.jobs.specs.Slots.{KeepFiles, held_blocks, no_slot, slot_at}
use Rattle.jobs.specs.declared.held.Held.{Held}
use Rattle.jobs.specs.declared.held.Slot.{Slot}
use Rattle.jobs.proofs.Counts.{times-nil}
use Rattle.jobs.proofs.HandedSlots.{Empties, empties_more, empties_none, files_more, files_none, gained_has, gained_longer, gained_more, gained_none, handed_over, needed_handed, still_empty, still_there, take_all, users_handed}
use Rattle.jobs.proofs.LetGoAll.{some_left}
use Rattle.jobs.proofs.slots.hand_over_all.Goals as goal

pub loop-need-init : goal.loop-need-init
loop-need-init c = record {
  balanced = λ kept store balanced. gained_none kept c.args.slots.now store balanced;
  users = λ at low. omega (arith, times-nil at);
  files = files_none c.args.slots.now;
  empties = empties_none c.args.slots.now;
}

pub hand_over-requires-clause-used : goal.hand_over-requires-clause-used
hand_over-requires-clause-used c =
    let low = c.requires.within c.loop-need.need-index 0 c.loop-need-test.true in
    some_left c.args.slots.now c.loop-need.slots c.args.needs.now c.loop-need.need-index 0 c.loop-need-test.true
    (c.requires.counted (get_or c.args.needs.now c.loop-need.need-index 0) low) (c.loop-need.invariant.users (get_or c.args.needs.now c.loop-need.need-index 0) low)

pub loop-need-preserved : goal.loop-need-preserved
loop-need-preserved c =
    let k = c.loop-need.need-index in
    let needs = c.args.needs.now in
    let first = c.args.slots.now in
    let slots = c.loop-need.slots in
    let inv = c.loop-need.invariant in
    let within : get_or needs k 0 < length first = c.requires.within k 0 c.loop-need-test.true in
    let same : length slots ≡ length first = c.loop-need.auto.slots in
    let low : get_or needs k 0 < length slots = omega arith in
    let counted = c.requires.counted (get_or needs k 0) within in
    let some = some_left first slots needs k 0 c.loop-need-test.true counted (c.loop-need.invariant.users (get_or needs k 0) within) in
    let programs = c.requires.programs k 0 c.loop-need-test.true in
    record {
      balanced = λ kept store balanced.
          let there : (slot_at slots (get_or needs k 0)).held ≡ (slot_at first (get_or needs k 0)).held =
          still_there first slots needs k 0 c.loop-need-test.true inv.empties programs (balanced.fit (get_or needs k 0) no_slot within) counted in
          subst (λ (l : List Slot). Balanced (gained kept first (take (k + 1) needs)) l [] store) (sym c.hand_over.ensures)
          (handed_over (gained kept first (take k needs)) (gained kept first (take (k + 1) needs)) slots (get_or needs k 0) store low some
          (still_empty first slots needs k 0 c.loop-need-test.true inv.empties programs)
          (λ block. gained_more kept first needs k 0 c.loop-need-test.true block ∙ ap (λ (h : Held). (gained kept first (take k needs)).standing block + times block (held_blocks h)) (sym there))
          (gained_longer kept first needs k 0 c.loop-need-test.true ∙ ap (λ (h : Held). (gained kept first (take k needs)).count + length (held_blocks h)) (sym there))
          (λ key. gained_has key kept first (take (k + 1) needs) ∙ sym (gained_has key kept first (take k needs)))
          (inv.balanced kept store balanced));
      users = λ at there. subst (λ (l : List Slot). (slot_at l at).users + times at (take (k + 1) needs) ≡ (slot_at first at).users) (sym c.hand_over.ensures) (users_handed first slots needs k 0 c.loop-need-test.true low some at (inv.users at there));
      files = subst (KeepFiles first) (sym c.hand_over.ensures) (files_more first slots (get_or needs k 0) low inv.files);
      empties = subst (λ (l : List Slot). Empties first l (take (k + 1) needs)) (sym c.hand_over.ensures) (empties_more first slots needs k 0 c.loop-need-test.true low inv.empties);
    }

pub returns-clause-balanced : goal.returns-clause-balanced
returns-clause-balanced c = λ kept store balanced.
    subst (λ (l : List ℕ). Balanced (gained kept c.args.slots.now l) c.loop-need.slots [] store) (take_all c.args.needs.now c.loop-need.need-index (omega (arith, c.loop-need-test.false, c.loop-need.auto.need-index-end)))
    (c.loop-need.invariant.balanced kept store balanced)

pub returns-clause-users : goal.returns-clause-users
returns-clause-users c = λ at low.
    subst (λ (l : List ℕ). (slot_at c.loop-need.slots at).users + times at l ≡ (slot_at c.args.slots.now at).users) (take_all c.args.needs.now c.loop-need.need-index (omega (arith, c.loop-need-test.false, c.loop-need.auto.need-index-end)))
    (c.loop-need.invariant.users at low)

pub returns-clause-others : goal.returns-clause-others
returns-clause-others c = λ fit.
    let all : take c.loop-need.need-index c.args.needs.now ≡ c.args.needs.now = take_all c.args.needs.now c.loop-need.need-index (omega (arith, c.loop-need-test.false, c.loop-need.auto.need-index-end)) in
    needed_handed c.args.slots.now c.loop-need.slots c.args.needs.now fit
    (subst (λ (l : List ℕ). Empties c.args.slots.now c.loop-need.slots l) all c.loop-need.invariant.empties) c.loop-need.invariant.files
    (λ at low. subst (λ (l : List ℕ). (slot_at c.loop-need.slots at).users + times at l ≡ (slot_at c.args.slots.now at).users) all (c.loop-need.invariant.users at low))
    c.requires.programs
