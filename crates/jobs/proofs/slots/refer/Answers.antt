use Rattle.std.proofs.Common.{◌≡◌, ℕ, ◌<◌, true, [], not, ◌&&◌, List, length, set, sym, ◌∙◌, ap, subst, arith}
use Rattle.std.specs.Vec.{with_items}
use Rattle.std.proofs.lemmas.List.{with_items_is}
use Rattle.jobs.specs.NewJobs.{Refers, more}
use Rattle.machine.specs.Views.{content_key, same_key}
use Rattle.jobs.specs.Balance.{Balanced}
use Rattle.jobs.specs.Slots.{slot_at}
use Rattle.jobs.specs.declared.held.Slot.{Slot}
use Rattle.jobs.proofs.ReferredSlots.{refers_joined, refers_listed}
use Rattle.jobs.proofs.slots.refer.Goals as goal

pub returns-in-Some-clause-ok : goal.returns-in-Some-clause-ok
returns-in-Some-clause-ok c =
    let slots = c.args.slots.now.items in
    let entry = c.args.entry.now in
    let at = c.in-Some.at in
    let was : c.deref.result.now ≡ c.args.slots.now.items = c.deref.ensures.value in
    let lent : c.deref_mut.result.now ≡ c.args.slots.now.items = c.deref_mut.ensures.value in
    let found = c.in-Some.ensures.found in
    let low : c.in-Some.at < length c.args.slots.now.items = omega (arith, found.1, ap length was) in
    let is : (not (slot_at c.args.slots.now.items c.in-Some.at).local && same_key (content_key c.args.entry.now) (slot_at c.args.slots.now.items c.in-Some.at).key) ≡ true =
    subst (λ (l : List Slot). (not (slot_at l at).local && same_key (content_key entry) (slot_at l at).key) ≡ true) was found.2 in
    let written : (with_items c.args.slots.now c.join.new.slots).items ≡ c.join.new.slots =
    with_items_is c.args.slots.now c.join.new.slots (c.join.auto.slots ∙ ap length lent ∙ sym c.args.slots.now.ok.0) in
    let made = written ∙ c.join.ensures.slots ∙ ap (λ (l : List Slot). set l at (more (slot_at l at))) lent in
    subst (λ (l : List Slot). Refers slots l entry at) (sym made) (refers_joined slots entry at low found.0 is)

pub returns-clause-ok : goal.returns-clause-ok
returns-clause-ok c =
    let slots = c.args.slots.now.items in
    let entry = c.args.entry.now in
    let ok = c.in_ok-enlist.ensures.ok in
    let end : c.len-at.result ≡ length c.args.slots.now.items = omega (arith, c.len-at.ensures, c.args.slots.now.ok.0) in
    subst (λ (n : ℕ). Refers slots c.enlist.new.slots.items entry n) (sym end)
    (subst (λ (l : List Slot). Refers slots l entry (length slots)) (sym ok.2) (refers_listed slots entry ok.0 ok.1))

pub returns-in-Some-clause-balanced : goal.returns-in-Some-clause-balanced
returns-in-Some-clause-balanced c = λ tables tells balanced.
    let lent : c.deref_mut.result.now ≡ c.args.slots.now.items = c.deref_mut.ensures.value in
    let written : (with_items c.args.slots.now c.join.new.slots).items ≡ c.join.new.slots =
    with_items_is c.args.slots.now c.join.new.slots (c.join.auto.slots ∙ ap length lent ∙ sym c.args.slots.now.ok.0) in
    subst (λ (l : List Slot). Balanced tables l [] c.args.store.now) (sym written)
    (c.join.ensures.balanced tables (subst (λ (l : List Slot). Balanced tables l [] c.args.store.now) (sym lent) balanced))
