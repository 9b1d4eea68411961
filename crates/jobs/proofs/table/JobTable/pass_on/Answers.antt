use Rattle.std.proofs.Common.{◌≡◌, ◌<◌, ℕ, List, [], length, set, refl, sym, ◌∙◌, ap, subst, arith}
use Rattle.std.specs.Vec.{with_items}
use Rattle.std.proofs.lemmas.List.{with_items_is}
use Rattle.digest_list.specs.declared.digest.Digest.{Digest}
use Rattle.jobs.specs.Balance.{needed_as}
use Rattle.jobs.specs.Keys.{key_by}
use Rattle.jobs.specs.Moves.{IsSlotFor, KeepOrFill}
use Rattle.jobs.specs.Slots.{slot_at, with_held}
use Rattle.jobs.specs.declared.held.Held.TheVariants.{Whole}
use Rattle.jobs.specs.declared.held.Slot.{Slot}
use Rattle.jobs.specs.declared.table.JobTable.{JobTable}
use Rattle.jobs.proofs.MovedBlocks.{lost_filled, lost_freed, lost_turned, lost_used, out_none, slots_turn}
use Rattle.jobs.proofs.table.JobTable.pass_on.Goals as goal

pub release_blocks-requires : goal.release_blocks-requires
release_blocks-requires c =
    let lost = c.requires.lost in
    lost_used lost.0 lost.1 (key_by c.args.size c.args.list.now) c.args.blocks lost.2 c.args.self.now c.args.store.now lost.3

pub returns-in-None-clause-sound : goal.returns-in-None-clause-sound
returns-in-None-clause-sound c = λ before after loses sound.
    let none : needed_as (key_by c.args.size c.args.list.now) c.args.self.now.slots.items ≡ 0 =
    subst (λ (l : List Digest). needed_as (key_by c.args.size l) c.args.self.now.slots.items ≡ 0) c.as_slice.ensures.value c.in-None.ensures.none in
    lost_freed before after (key_by c.args.size c.args.list.now) c.args.blocks loses c.args.self.now c.args.store.now sound
    c.release_blocks.new.self none c.release_blocks.ensures.freed c.release_blocks.ensures.range

pub returns-in-Some-clause-sound : goal.returns-in-Some-clause-sound
returns-in-Some-clause-sound c = λ before after loses sound.
    let table = c.args.self.now in
    let key = key_by c.args.size c.args.list.now in
    let is : IsSlotFor (key_by c.args.size c.args.list.now) c.args.self.now.slots.items c.in-Some.at =
    subst (λ (l : List Digest). IsSlotFor (key_by c.args.size l) table.slots.items c.in-Some.at) c.as_slice.ensures.value c.in-Some.ensures.found in
    let lent : c.deref_mut.result.now ≡ c.args.self.now.slots.items = c.deref_mut.ensures.value in
    let new : JobTable = record { jobs = table.jobs; next = table.next; slots = with_items table.slots c.fill.new.slots } in
    let written : (with_items table.slots c.fill.new.slots).items ≡ c.fill.new.slots =
    with_items_is table.slots c.fill.new.slots (c.fill.auto.slots ∙ ap length lent ∙ sym table.slots.ok.0) in
    let made = written ∙ c.fill.ensures ∙ ap (λ (l : List Slot). set l c.in-Some.at (with_held (slot_at l c.in-Some.at) (Whole c.args.blocks))) lent in
    slots_turn before after table new [] [] [] [] c.args.store.now key c.in-Some.at (Whole c.args.blocks) is
    (lost_turned before after key c.args.blocks loses table c.args.store.now sound c.in-Some.at is)
    (out_none c.in-Some.at (Whole c.args.blocks) refl) refl refl made sound

pub returns-in-Some-clause-slots : goal.returns-in-Some-clause-slots
returns-in-Some-clause-slots c =
    let table = c.args.self.now in
    let key = key_by c.args.size c.args.list.now in
    let is : IsSlotFor (key_by c.args.size c.args.list.now) c.args.self.now.slots.items c.in-Some.at =
    subst (λ (l : List Digest). IsSlotFor (key_by c.args.size l) table.slots.items c.in-Some.at) c.as_slice.ensures.value c.in-Some.ensures.found in
    let lent : c.deref_mut.result.now ≡ c.args.self.now.slots.items = c.deref_mut.ensures.value in
    let written : (with_items table.slots c.fill.new.slots).items ≡ c.fill.new.slots =
    with_items_is table.slots c.fill.new.slots (c.fill.auto.slots ∙ ap length lent ∙ sym table.slots.ok.0) in
    let made = written ∙ c.fill.ensures ∙ ap (λ (l : List Slot). set l c.in-Some.at (with_held (slot_at l c.in-Some.at) (Whole c.args.blocks))) lent in
    subst (KeepOrFill key c.args.blocks table.slots.items) (sym made) (lost_filled table.slots.items key c.args.blocks c.in-Some.at is)

pub fill-requires : goal.fill-requires
fill-requires c = subst (λ (l : List Slot). c.in-Some.at < length l) (sym c.deref_mut.ensures.value) c.in-Some.ensures.found.within
