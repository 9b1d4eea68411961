use Rattle.std.proofs.Common.{◌≡◌, ℕ, ◌-◌, ◌<◌, false, List, [], length, get_or, set, Some, None, sym, ◌∙◌, ap, subst, refl, arith}
use Rattle.std.specs.Vec.{with_items}
use Rattle.std.proofs.lemmas.List.{get_or_default, with_items_is}
use Rattle.small_types.specs.Blocks.{count_for}
use Rattle.file_store.specs.Stores.{draft_blocks, draft_size}
use Rattle.manifests.specs.declared.facts.FileEntry.{FileEntry}
use Rattle.jobs.specs.Balance.{Balanced}
use Rattle.jobs.specs.Jobs.{HasAlready, IsSound, TakesDraft, first_left, first_slot}
use Rattle.jobs.specs.Kept.{Kept}
use Rattle.jobs.specs.Slots.{draft_of, is_coming, lent, slot_at, with_held}
use Rattle.jobs.specs.declared.held.Held.{Held}
use Rattle.jobs.specs.declared.held.Slot.{Slot}
use Rattle.jobs.specs.declared.table.Job.{Job}
use Rattle.jobs.specs.declared.table.JobTable.{JobTable}
use Rattle.jobs.proofs.LetGoAll.{slot_at_set}
use Rattle.jobs.proofs.Steps.{away_from, coming_from, first_low, here_from, job_open, lent_same, need_low, nowhere, same_sound, slot_low, taken_sound}
use Rattle.jobs.proofs.table.JobTable.take.Goals as goal

pub returns-in-Some-lend-clause-takes : goal.returns-in-Some-lend-clause-takes
returns-in-Some-lend-clause-takes c = λ d.
    let table = c.args.self.now in
    let tables = c.requires.sound.0 in
    let sound = c.requires.sound.1 in
    let store = c.args.store.now in
    let job = c.index-job.result.now in
    let first = c.in-Some.first.now in
    let draft = c.in-Some-lend.draft in
    let left : c.deref.result.now ≡ c.index-job.result.now.left.items = c.deref.ensures.value in
    let some : 0 < length c.index-job.result.now.left.items = omega (arith, c.in-Some.ensures.item.3.0, ap length left) in
    let is : c.in-Some.first.now ≡ first_left c.index-job.result.now = c.in-Some.ensures.item.3.1 0 ∙ ap (λ (l : List ℕ). get_or l (length l - 1) 0) left in
    let low : first_left c.index-job.result.now < length c.index-job.result.now.needs.items = need_low tables table [] [] store sound c.args.at c.requires.open job c.index-job.ensures some in
    let entry_low : first_left c.index-job.result.now < length c.index-job.result.now.entries.items = first_low tables table [] [] store sound c.args.at c.requires.open job c.index-job.ensures some in
    let slot_below = slot_low tables table [] [] store sound c.args.at c.requires.open job c.index-job.ensures some in
    let open_job = job_open tables table [] [] store sound c.args.at c.requires.open job c.index-job.ensures some in
    let i : c.index.result.now ≡ first_slot c.index-job.result.now =
    c.index.ensures ∙ get_or_default job.needs.items first c.index.result.now 0 (subst (λ (n : ℕ). n < length job.needs.items) (sym is) low) ∙ ap (λ (n : ℕ). get_or job.needs.items n 0) is in
    let was : c.deref_mut.result.now ≡ table.slots.items = c.deref_mut.ensures.value in
    let new : JobTable = record { jobs = table.jobs; next = table.next; slots = with_items table.slots c.lend.new.slots } in
    let written : (with_items table.slots c.lend.new.slots).items ≡ c.lend.new.slots =
    with_items_is table.slots c.lend.new.slots (c.lend.auto.slots ∙ ap length was ∙ sym table.slots.ok.0) in
    let slots : new.slots.items ≡ set table.slots.items (first_slot job) (lent (slot_at table.slots.items (first_slot job))) =
    written ∙ c.lend.ensures.slots ∙ ap (λ (l : List Slot). set l c.index.result.now (lent (slot_at l c.index.result.now))) was ∙ ap (λ (n : ℕ). set table.slots.items n (lent (slot_at table.slots.items n))) i in
    let given : Some c.in-Some-lend.draft ≡ draft_of (slot_at table.slots.items (first_slot job)).held =
    c.in-Some-lend.ensures.draft ∙ ap (λ (l : List Slot). draft_of (slot_at l c.index.result.now).held) was ∙ ap (λ (n : ℕ). draft_of (slot_at table.slots.items n).held) i in
    let balanced : (kept : Kept) → IsSound kept table [] [] store → Balanced kept new.slots.items (draft_blocks draft) store =
    λ kept beside. subst (λ (l : List Slot). Balanced kept l (draft_blocks draft) store) (sym written) (c.in-Some-lend.ensures.balanced kept (subst (λ (l : List Slot). Balanced kept l [] store) (sym was) beside.balanced)) in
    let size : draft_size draft ≡ (slot_at table.slots.items (first_slot job)).key.size =
    c.in-Some-lend.ensures.size tables (subst (λ (l : List Slot). Balanced tables l [] store) (sym was) sound.balanced) ∙ ap (λ (l : List Slot). (slot_at l c.index.result.now).key.size) was ∙ ap (λ (n : ℕ). (slot_at table.slots.items n).key.size) i in
    let away = away_from (slot_at table.slots.items (first_slot job)).held draft given in
    let there : slot_at new.slots.items (first_slot job) ≡ lent (slot_at table.slots.items (first_slot job)) =
    ap (λ (l : List Slot). slot_at l (first_slot job)) slots ∙ slot_at_set table.slots.items (first_slot job) (lent (slot_at table.slots.items (first_slot job))) slot_below in
    let room : draft_size draft ≡ (slot_at new.slots.items (first_slot job)).key.size = size ∙ sym (ap (λ (s : Slot). s.key.size) there) in
    subst (λ (j : Job). TakesDraft j first draft table new store) (c.index-job.ensures ∙ get_or_default table.jobs.items c.args.at job d c.requires.open)
    record {
      is = is;
      within = subst (λ (n : ℕ). n < length job.entries.items) (sym is) entry_low;
      room = room;
      size = λ e. subst (λ (n : ℕ). draft_size draft ≡ (get_or job.entries.items n e).size) (sym is) (size ∙ ap (λ k. k.size) (open_job.suits (first_left job) e entry_low).key);
      own = coming_from (slot_at table.slots.items (first_slot job)).held draft given;
      slots = slots ∙ ap (λ (h : Held). set table.slots.items (first_slot job) (with_held (slot_at table.slots.items (first_slot job)) h)) away;
      jobs = refl;
      out = λ kept beside. record {
        some = some;
        away = ap (λ (s : Slot). s.held) there ∙ away;
        count = draft.counted ∙ ap count_for room;
        sound = taken_sound kept table [] [] store beside c.args.at c.requires.open job c.index-job.ensures some new draft refl refl refl slots (balanced kept beside);
      };
    }

pub returns-in-None-clause-takes : goal.returns-in-None-clause-takes
returns-in-None-clause-takes c = λ d.
    let table = c.args.self.now in
    let tables = c.requires.sound.0 in
    let sound = c.requires.sound.1 in
    let store = c.args.store.now in
    let job = c.index-job.result.now in
    let first = c.in-Some.first.now in
    let left : c.deref.result.now ≡ c.index-job.result.now.left.items = c.deref.ensures.value in
    let some : 0 < length c.index-job.result.now.left.items = omega (arith, c.in-Some.ensures.item.3.0, ap length left) in
    let is : c.in-Some.first.now ≡ first_left c.index-job.result.now = c.in-Some.ensures.item.3.1 0 ∙ ap (λ (l : List ℕ). get_or l (length l - 1) 0) left in
    let low : first_left c.index-job.result.now < length c.index-job.result.now.needs.items = need_low tables table [] [] store sound c.args.at c.requires.open job c.index-job.ensures some in
    let entry_low : first_left c.index-job.result.now < length c.index-job.result.now.entries.items = first_low tables table [] [] store sound c.args.at c.requires.open job c.index-job.ensures some in
    let slot_below = slot_low tables table [] [] store sound c.args.at c.requires.open job c.index-job.ensures some in
    let i : c.index.result.now ≡ first_slot c.index-job.result.now =
    c.index.ensures ∙ get_or_default job.needs.items first c.index.result.now 0 (subst (λ (n : ℕ). n < length job.needs.items) (sym is) low) ∙ ap (λ (n : ℕ). get_or job.needs.items n 0) is in
    let was : c.deref_mut.result.now ≡ table.slots.items = c.deref_mut.ensures.value in
    let new : JobTable = record { jobs = table.jobs; next = table.next; slots = with_items table.slots c.lend.new.slots } in
    let written : (with_items table.slots c.lend.new.slots).items ≡ c.lend.new.slots =
    with_items_is table.slots c.lend.new.slots (c.lend.auto.slots ∙ ap length was ∙ sym table.slots.ok.0) in
    let given : None ≡ draft_of (slot_at table.slots.items (first_slot job)).held =
    c.in-None.ensures.draft ∙ ap (λ (l : List Slot). draft_of (slot_at l c.index.result.now).held) was ∙ ap (λ (n : ℕ). draft_of (slot_at table.slots.items n).held) i in
    let slots : new.slots.items ≡ table.slots.items =
    written ∙ c.lend.ensures.slots ∙ ap (λ (l : List Slot). set l c.index.result.now (lent (slot_at l c.index.result.now))) was ∙ ap (λ (n : ℕ). set table.slots.items n (lent (slot_at table.slots.items n))) i ∙ lent_same table.slots.items (first_slot job) given in
    let here : is_coming (slot_at table.slots.items (first_slot job)).held ≡ false =
    here_from (slot_at table.slots.items (first_slot job)).held given (λ away. nowhere (first_slot job) (sound.settled (first_slot job) slot_below away)) in
    subst (λ (j : Job). HasAlready j first table new) (c.index-job.ensures ∙ get_or_default table.jobs.items c.args.at job d c.requires.open)
    record {
      some = some;
      is = is;
      within = subst (λ (n : ℕ). n < length job.entries.items) (sym is) entry_low;
      here = ap (λ (l : List Slot). is_coming (slot_at l (first_slot job)).held) slots ∙ here;
      jobs = refl;
      slots = slots;
      sound = λ other kept beside. same_sound kept table new [] [] other slots refl refl beside;
    }

pub index-requires : goal.index-requires
index-requires c =
    let table = c.args.self.now in
    let tables = c.requires.sound.0 in
    let sound = c.requires.sound.1 in
    let store = c.args.store.now in
    let job = c.index-job.result.now in
    let first = c.in-Some.first.now in
    let left : c.deref.result.now ≡ c.index-job.result.now.left.items = c.deref.ensures.value in
    let some : 0 < length c.index-job.result.now.left.items = omega (arith, c.in-Some.ensures.item.3.0, ap length left) in
    let is : c.in-Some.first.now ≡ first_left c.index-job.result.now = c.in-Some.ensures.item.3.1 0 ∙ ap (λ (l : List ℕ). get_or l (length l - 1) 0) left in
    let low : first_left c.index-job.result.now < length c.index-job.result.now.needs.items = need_low tables table [] [] store sound c.args.at c.requires.open job c.index-job.ensures some in
    let there : c.in-Some.first.now < length c.index-job.result.now.needs.items = subst (λ (n : ℕ). n < length job.needs.items) (sym is) low in
    omega (arith, there, c.index-job.result.now.needs.ok.0)

pub lend-requires : goal.lend-requires
lend-requires c =
    let table = c.args.self.now in
    let tables = c.requires.sound.0 in
    let sound = c.requires.sound.1 in
    let store = c.args.store.now in
    let job = c.index-job.result.now in
    let first = c.in-Some.first.now in
    let left : c.deref.result.now ≡ c.index-job.result.now.left.items = c.deref.ensures.value in
    let some : 0 < length c.index-job.result.now.left.items = omega (arith, c.in-Some.ensures.item.3.0, ap length left) in
    let is : c.in-Some.first.now ≡ first_left c.index-job.result.now = c.in-Some.ensures.item.3.1 0 ∙ ap (λ (l : List ℕ). get_or l (length l - 1) 0) left in
    let low : first_left c.index-job.result.now < length c.index-job.result.now.needs.items = need_low tables table [] [] store sound c.args.at c.requires.open job c.index-job.ensures some in
    let slot_below = slot_low tables table [] [] store sound c.args.at c.requires.open job c.index-job.ensures some in
    let was : c.deref_mut.result.now ≡ table.slots.items = c.deref_mut.ensures.value in
    let i : c.index.result.now ≡ first_slot c.index-job.result.now =
    c.index.ensures ∙ get_or_default job.needs.items first c.index.result.now 0 (subst (λ (n : ℕ). n < length job.needs.items) (sym is) low) ∙ ap (λ (n : ℕ). get_or job.needs.items n 0) is in
    record { within = subst (λ (l : List Slot). c.index.result.now < length l) (sym was) (subst (λ (n : ℕ). n < length table.slots.items) (sym i) slot_below) }

pub returns-in-Some-lend-clause-nothing : goal.returns-in-Some-lend-clause-nothing
returns-in-Some-lend-clause-nothing c = λ d none.
    let left : c.deref.result.now ≡ c.index-job.result.now.left.items = c.deref.ensures.value in
    let some : 0 < length c.index-job.result.now.left.items = omega (arith, c.in-Some.ensures.item.3.0, ap length left) in
    let own : length c.index-job.result.now.left.items ≡ length (get_or c.args.self.now.jobs.items c.args.at d).left.items = ap (λ (j : Job). length j.left.items) (c.index-job.ensures ∙ get_or_default c.args.self.now.jobs.items c.args.at c.index-job.result.now d c.requires.open) in
    absurd (omega (arith, some, own, none))

pub returns-in-None-clause-nothing : goal.returns-in-None-clause-nothing
returns-in-None-clause-nothing c = λ d none.
    let left : c.deref.result.now ≡ c.index-job.result.now.left.items = c.deref.ensures.value in
    let some : 0 < length c.index-job.result.now.left.items = omega (arith, c.in-Some.ensures.item.3.0, ap length left) in
    let own : length c.index-job.result.now.left.items ≡ length (get_or c.args.self.now.jobs.items c.args.at d).left.items = ap (λ (j : Job). length j.left.items) (c.index-job.ensures ∙ get_or_default c.args.self.now.jobs.items c.args.at c.index-job.result.now d c.requires.open) in
    absurd (omega (arith, some, own, none))
