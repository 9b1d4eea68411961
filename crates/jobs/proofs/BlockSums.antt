-- What the blocks in use are.
use Rattle.std.proofs.Common.{◌≡◌, ◌⊎◌, ℕ, zero, suc, ◌+◌, ◌<◌, ◌≤◌, ◌&&◌, ◌==◌, not, min, true, false, Bool, cond, if◌then◌else◌, List, [], ◌∷◌, length, get_or, refl, sym, ◌∙◌, ap, arith, inl, inr, All, Contains}
use Rattle.std.specs.List.{sum_by, count_by}
use Rattle.std.proofs.lemmas.Bool.{and_from, and_parts, cases_lt, cond-true, eqb-true, lt-ltb, ltb-true}
use Rattle.std.proofs.lemmas.List.{get_or_default}
use Rattle.std.proofs.lemmas.List.Elements.{All-contains, All-head, All-tail, Contains-get_or}
use Rattle.std.proofs.lemmas.List.Sums.{get_or-le-sum_by, sum_by-cons}
use Rattle.small_types.specs.Blocks.{count_for}
use Rattle.file_store.specs.Stores.{free_of, block_count}
use Rattle.file_store.specs.declared.store.FileStore.{FileStore}
use Rattle.jobs.specs.Balance.{in_slots, held_as, kept_as, needed_as, times}
use Rattle.jobs.specs.NewJobs.{no_file}
use Rattle.jobs.specs.Jobs.{IsOpen, IsSound, references}
use Rattle.jobs.specs.Laws.{counted_by, entries_as}
use Rattle.jobs.specs.Slots.{HasSize, IsFit, has_blocks, held_blocks, is_away, is_for, is_used, no_slot, slot_at}
use Rattle.manifests.specs.declared.facts.FileEntry.{FileEntry}
use Rattle.machine.specs.Views.{ContentKey, content_key, same_key}
use Rattle.jobs.specs.declared.held.Held.{Held}
use Rattle.jobs.specs.declared.held.Held.TheVariants.{Nothing, Coming, Away, Whole}
use Rattle.jobs.specs.declared.held.Slot.{Slot}
use Rattle.jobs.specs.declared.table.Job.{Job}
use Rattle.jobs.specs.declared.table.JobTable.{JobTable}
use Rattle.jobs.specs.Kept.{Kept}
use Rattle.jobs.proofs.BalancedSlots.{needs_as}
use Rattle.jobs.proofs.Counts.{times_at}
use Rattle.jobs.proofs.OpenedJobs.{needs_within, users_are}
use Rattle.jobs.proofs.Steps.{nowhere}

sum_same : {X : Type 0} (f g : X → ℕ) (xs : List X) → All (λ x. f x ≡ g x) xs → sum_by f xs ≡ sum_by g xs
sum_same f g [] all = refl
sum_same {X} f g (x ∷ xs) all = omega (arith, sum_by-cons f x xs, sum_by-cons g x xs, All-head (λ (y : X). f y ≡ g y) x xs all, sum_same f g xs (All-tail (λ (y : X). f y ≡ g y) x xs all))

slot_count : (s : Slot) → IsFit s → (is_away s.held ≡ true → ⊥) → length (held_blocks s.held) ≡ (if has_blocks s.held then count_for s.key.size else 0)
slot_count s fit here = by s.held here fit.size
  where
    by : (h : Held) → (is_away h ≡ true → ⊥) → HasSize s.key.size h → length (held_blocks h) ≡ (if has_blocks h then count_for s.key.size else 0)
    by Nothing here size = refl
    by (Coming draft) here size = draft.counted ∙ ap count_for size
    by Away here size = absurd (here refl)
    by (Whole blocks) here size = size

pub adds_up : (kept : Kept) (table : JobTable) (store : FileStore) → IsSound kept table [] [] store → kept.count + counted_by table.slots.items + length (free_of store) ≡ block_count store
unfolding counted_by in_slots
adds_up kept table store sound =
    omega (
      arith,
      sound.balanced.count,
      sum_same (λ (s : Slot). length (held_blocks s.held)) (λ (s : Slot). if has_blocks s.held then count_for s.key.size else 0) table.slots.items
          (λ k d low. slot_count (get_or table.slots.items k d) (sound.balanced.fit k d low)
          (λ away. nowhere k (sound.settled k low (ap (λ (s : Slot). is_away s.held) (get_or_default table.slots.items k no_slot d low) ∙ away)))),
    )

-- a sum above 0 has a part above 0
sum_some : {X : Type 0} (f : X → ℕ) (xs : List X) → 0 < sum_by f xs → (x : X) × Contains xs x × (0 < f x)
sum_some f [] some = absurd (omega arith)
sum_some {X} f (x ∷ xs) some = by (cases_lt 0 (f x)) (sum_some f xs)
  where
    by : (0 < f x) ⊎ (f x ≤ 0) → (0 < sum_by f xs → (y : X) × Contains xs y × (0 < f y)) → (y : X) × Contains (x ∷ xs) y × (0 < f y)
    by (inl here) rest = (x, (zero, omega arith, refl), here)
    by (inr none) rest = let there = rest (omega (arith, sum_by-cons f x xs)) in (there.0, (suc there.1.0, (let low = there.1.1 in omega arith), there.1.2), there.2)

sum_holds : {X : Type 0} (f : X → ℕ) (xs : List X) (x : X) → Contains xs x → f x ≤ sum_by f xs
sum_holds f xs x there = let same = ap f there.2 in omega (arith, same, get_or-le-sum_by f xs there.0 x there.1)

one_true : (b : Bool) → 0 < cond {A = ℕ} b 1 0 → b ≡ true
one_true true some = refl
one_true false some = absurd (omega arith)

count_some : {X : Type 0} (p : X → Bool) (xs : List X) → 0 < count_by p xs → (x : X) × Contains xs x × (p x ≡ true)
count_some {X} p xs some = let there = sum_some (λ (x : X). cond (p x) 1 0) xs some in (there.0, there.1, one_true (p there.0) there.2)

count_holds : {X : Type 0} (p : X → Bool) (xs : List X) (x : X) → Contains xs x → p x ≡ true → 0 < count_by p xs
count_holds {X} p xs x there is = let one : cond {A = ℕ} (p x) 1 0 ≡ 1 = cond-true (p x) 1 0 is in omega (arith, one, sum_holds (λ (x : X). cond (p x) 1 0) xs x there)

needed_some : (key : ContentKey) (slots : List Slot) → 0 < needed_as key slots → (s : Slot) × Contains slots s × ((is_for key s && is_used s) ≡ true)
unfolding needed_as
needed_some key slots some = count_some (λ (s : Slot). is_for key s && is_used s) slots some

references_some : (jobs : List Job) (at : ℕ) → 0 < references jobs at → (j : Job) × Contains jobs j × (0 < times at j.needs.items)
unfolding references
references_some jobs at some = sum_some (λ (j : Job). times at j.needs.items) jobs some

references_holds : (jobs : List Job) (at : ℕ) (j : Job) → Contains jobs j → times at j.needs.items ≤ references jobs at
unfolding references
references_holds jobs at j there = sum_holds (λ (j : Job). times at j.needs.items) jobs j there

times_some : (at : ℕ) (needs : List ℕ) → 0 < times at needs → (i : ℕ) × (i < length needs) × (get_or needs i 0 ≡ at)
unfolding times
times_some at needs some =
    let there = count_some (λ b. b == at) needs some in
    (there.1.0, there.1.1, get_or_default needs there.1.0 0 there.0 there.1.1 ∙ there.1.2 ∙ eqb-true there.0 at there.2)

entries_holds : (key : ContentKey) (jobs : List Job) (j : Job) (e : FileEntry) → Contains jobs j → Contains j.entries.items e → (not e.local && same_key key (content_key e)) ≡ true → 0 < entries_as key jobs
unfolding entries_as
entries_holds key jobs j e there within is =
    omega (arith, sum_holds (λ (j : Job). count_by (λ e. not e.local && same_key key (content_key e)) j.entries.items) jobs j there, count_holds (λ (e : FileEntry). not e.local && same_key key (content_key e)) j.entries.items e within is)

entries_some : (key : ContentKey) (jobs : List Job) → 0 < entries_as key jobs → (j : Job) × Contains jobs j × ((e : FileEntry) × Contains j.entries.items e × ((not e.local && same_key key (content_key e)) ≡ true))
unfolding entries_as
entries_some key jobs some =
    let job = sum_some (λ (j : Job). count_by (λ e. not e.local && same_key key (content_key e)) j.entries.items) jobs some in
    (job.0, job.1, count_some (λ (e : FileEntry). not e.local && same_key key (content_key e)) job.0.entries.items job.2)

module _ (tables : Kept) (table : JobTable) (store : FileStore) (sound : IsSound tables table [] [] store) (key : ContentKey) where
  none : FileEntry
  none = no_file

  pub needed_listed : 0 < needed_as key table.slots.items → 0 < entries_as key table.jobs.items
  needed_listed some =
      let slot = needed_some key table.slots.items some in
      let s = slot.0 in
      let at = slot.1.0 in
      let is : slot_at table.slots.items slot.1.0 ≡ slot.0 = get_or_default table.slots.items slot.1.0 no_slot slot.0 slot.1.1 ∙ slot.1.2 in
      let both = and_parts (is_for key slot.0) (is_used slot.0) slot.2 in
      let user = ltb-true 0 slot.0.users both.1 in
      let users : 0 < references table.jobs.items slot.1.0 = omega (arith, users_are tables table store sound slot.1.0, ap (λ (x : Slot). x.users) is, user) in
      let job = references_some table.jobs.items slot.1.0 users in
      let need = times_some slot.1.0 job.0.needs.items job.2 in
      let opened = All-contains (IsOpen table.slots.items) table.jobs.items job.0 sound.open_jobs job.1 in
      let low : need.0 < length job.0.entries.items = omega (arith, need.1, opened.count) in
      let e : FileEntry = get_or job.0.entries.items need.0 none in
      let suits = opened.suits need.0 none low in
      let place : slot_at table.slots.items (get_or job.0.needs.items need.0 0) ≡ slot.0 = ap (slot_at table.slots.items) need.2 ∙ is in
      let local : (get_or job.0.entries.items need.0 none).local ≡ slot.0.local = sym suits.local ∙ ap (λ (x : Slot). x.local) place in
      let own : (content_key (get_or job.0.entries.items need.0 none)) ≡ slot.0.key = sym suits.key ∙ ap (λ (x : Slot). x.key) place in
      let test : (not (get_or job.0.entries.items need.0 none).local && same_key key (content_key (get_or job.0.entries.items need.0 none))) ≡ true =
      ap (λ (b : Bool). not b && same_key key (content_key (get_or job.0.entries.items need.0 none))) local ∙ ap (λ (k : ContentKey). not slot.0.local && same_key key k) own ∙ both.0 in
      entries_holds key table.jobs.items job.0 e job.1 (Contains-get_or job.0.entries.items need.0 none low) test

  pub listed_needed : 0 < entries_as key table.jobs.items → 0 < needed_as key table.slots.items
  listed_needed some =
      let found = entries_some key table.jobs.items some in
      let j = found.0 in
      let e = found.2.0 in
      let i = found.2.1.0 in
      let opened = All-contains (IsOpen table.slots.items) table.jobs.items found.0 sound.open_jobs found.1 in
      let low : found.2.1.0 < length found.0.needs.items = let there = found.2.1.1 in omega (arith, there, opened.count) in
      let suits = opened.suits found.2.1.0 found.2.0 found.2.1.1 in
      let at = get_or found.0.needs.items found.2.1.0 0 in
      let within = opened.within found.2.1.0 0 low in
      let users : 0 < (slot_at table.slots.items (get_or found.0.needs.items found.2.1.0 0)).users =
      omega (arith, users_are tables table store sound (get_or found.0.needs.items found.2.1.0 0), references_holds table.jobs.items (get_or found.0.needs.items found.2.1.0 0) found.0 found.1, times_at found.0.needs.items found.2.1.0 0 low) in
      let local : (slot_at table.slots.items (get_or found.0.needs.items found.2.1.0 0)).local ≡ found.2.0.local = suits.local ∙ ap (λ (x : FileEntry). x.local) found.2.1.2 in
      let own : (slot_at table.slots.items (get_or found.0.needs.items found.2.1.0 0)).key ≡ (content_key found.2.0) = suits.key ∙ ap (λ (x : FileEntry). content_key x) found.2.1.2 in
      let for_it : is_for key (slot_at table.slots.items (get_or found.0.needs.items found.2.1.0 0)) ≡ true =
      ap (λ (b : Bool). not b && same_key key (slot_at table.slots.items at).key) local ∙ ap (λ (k : ContentKey). not e.local && same_key key k) own ∙ found.2.2 in
      let one : needs_as key (slot_at table.slots.items (get_or found.0.needs.items found.2.1.0 0)) ≡ 1 =
      cond-true (is_for key (slot_at table.slots.items at) && is_used (slot_at table.slots.items at)) 1 0 (and_from (is_for key (slot_at table.slots.items at)) (is_used (slot_at table.slots.items at)) for_it (lt-ltb 0 (slot_at table.slots.items at).users users)) in
      omega (arith, one, needs_within key table.slots.items (get_or found.0.needs.items found.2.1.0 0) within)

  pub one_list : kept_as key tables + held_as key table.slots.items ≡ min 1 (kept_as key tables + entries_as key table.jobs.items)
  one_list = by (cases_lt 0 (needed_as key table.slots.items)) (cases_lt 0 (entries_as key table.jobs.items))
    where
      by : (0 < needed_as key table.slots.items) ⊎ (needed_as key table.slots.items ≤ 0) → (0 < entries_as key table.jobs.items) ⊎ (entries_as key table.jobs.items ≤ 0) → kept_as key tables + held_as key table.slots.items ≡ min 1 (kept_as key tables + entries_as key table.jobs.items)
      by (inl needed) listed = omega (arith, sound.balanced.content key, needed_listed needed)
      by (inr unneeded) (inl listed) = absurd (omega (arith, listed_needed listed))
      by (inr unneeded) (inr unlisted) = omega (arith, sound.balanced.content key)
