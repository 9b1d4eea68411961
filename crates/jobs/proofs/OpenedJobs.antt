-- A job is opened, or could not be.
use Rattle.std.proofs.Common.{◌≡◌, ◌⊎◌, ℕ, ◌+◌, ◌-◌, ◌*◌, ◌<◌, ◌≤◌, ◌&&◌, ◌==◌, not, Bool, true, false, cond, None, List, [], ◌∷◌, ◌++◌, length, get_or, set, refl, sym, ◌∙◌, ap, subst, arith, inl, inr, All, Contains}
use Rattle.std.specs.List.{AllPairs}
use Rattle.std.proofs.lemmas.Bool.{and_from, cases_Bool, cases_eq, cases_lt, cond-false, cond-true, ne_eqb, eq-eqb, lt-ltb}
use Rattle.std.proofs.lemmas.List.{get_or_append_left, get_or-append_right, get_or_past, length-append, length-set}
use Rattle.std.proofs.lemmas.List.Elements.{All-contains, All-head, All-push, All-tail}
use Rattle.std.proofs.lemmas.List.Sums.{get_or-le-sum_by, sum_by-cons, sum_by-le, sum_by_push}
use Rattle.small_types.specs.declared.limits.TheConstants.{FILE_COUNT_LIMIT, JOB_LIMIT, NUMBER_LIMIT}
use Rattle.file_store.specs.declared.store.FileStore.{FileStore}
use Rattle.jobs.specs.Balance.{Balanced, needed_as, held_as, times}
use Rattle.jobs.specs.NewJobs.{AllSuit, HasTaken, HaveOneContent, IsWanted, Tell, has_blocks_for}
use Rattle.jobs.specs.Jobs.{IsOpen, IsSound, references}
use Rattle.jobs.specs.Slots.{KeepNeeded, KeepUsed, KeepsFile, Suits, has_blocks, is_away, is_coming, is_for, is_fresh, is_used, no_slot, slot_at}
use Rattle.manifests.specs.declared.facts.FileEntry.{FileEntry}
use Rattle.machine.specs.Views.{ContentKey, content_key, same_key}
use Rattle.jobs.specs.declared.held.Held.{Held}
use Rattle.jobs.specs.declared.held.Held.TheVariants.{Nothing, Coming, Away, Whole}
use Rattle.jobs.specs.declared.held.Slot.{Slot}
use Rattle.jobs.specs.declared.table.Job.{Job}
use Rattle.jobs.specs.declared.table.JobTable.{JobTable}
use Rattle.jobs.specs.Kept.{Kept}
use Rattle.jobs.proofs.BalancedSlots.{holds_as, needed-set, needs_as}
use Rattle.jobs.proofs.ReferredSlots.{kept_where}
use Rattle.jobs.proofs.Counts.{times_at}
use Rattle.jobs.proofs.Keys.{key_one}
use Rattle.jobs.proofs.LetGoAll.{slot_at_other}
use Rattle.jobs.proofs.LetGo.{idle_needs}
use Rattle.jobs.proofs.RemovedJobs.{needed_used}
use Rattle.jobs.proofs.TakenSlots.{times_few}

times_none : (b n : ℕ) (xs : List ℕ) → All (λ x. x < n) xs → n ≤ b → times b xs ≡ 0
unfolding times
times_none b n [] below past = refl
times_none b n (x ∷ xs) below past =
    let rest = times_none b n xs (All-tail (λ y. y < n) x xs below) past in
    let first = All-head (λ y. y < n) x xs below in
    let other : cond {A = ℕ} (x == b) 1 0 ≡ 0 = cond-false (x == b) 1 0 (ne_eqb x b (λ same. omega arith)) in
    omega (arith, sum_by-cons (λ y. cond (y == b) 1 0) x xs, rest, other)

pub needs_within : (key : ContentKey) (slots : List Slot) (at : ℕ) → at < length slots → needs_as key (slot_at slots at) ≤ needed_as key slots
unfolding needed_as
needs_within key slots at low = get_or-le-sum_by (needs_as key) slots at no_slot low

pub holds_within : (key : ContentKey) (slots : List Slot) (at : ℕ) → at < length slots → holds_as key (slot_at slots at) ≤ held_as key slots
unfolding held_as
holds_within key slots at low = get_or-le-sum_by (holds_as key) slots at no_slot low

for_key : (s : Slot) (key : ContentKey) → 0 < s.users → s.local ≡ false → s.key ≡ key → (is_for key s && is_used s) ≡ true
for_key s key some program is =
    let same : same_key key s.key ≡ true = key_one key s.key (sym is) in
    and_from (is_for key s) (is_used s) (and_from (not s.local) (same_key key s.key) (ap not program) same) (lt-ltb 0 s.users some)

-- no two slots are for one content
one_slot : (slots : List Slot) (key : ContentKey) (i j : ℕ) → i < length slots → j < length slots → (is_for key (slot_at slots i) && is_used (slot_at slots i)) ≡ true → (is_for key (slot_at slots j) && is_used (slot_at slots j)) ≡ true
    → needed_as key slots ≤ 1 → i ≡ j
one_slot slots key i j low_i low_j for_i for_j single = by (cases_eq i j)
  where
    idle : Slot
    idle = record no_slot { users = 0 }

    by : (i ≡ j) ⊎ (i ≡ j → ⊥) → i ≡ j
    by (inl same) = same
    by (inr other) =
        let one : needs_as key (slot_at slots i) ≡ 1 = cond-true (is_for key (slot_at slots i) && is_used (slot_at slots i)) 1 0 for_i in
        let two : needs_as key (slot_at slots j) ≡ 1 = cond-true (is_for key (slot_at slots j) && is_used (slot_at slots j)) 1 0 for_j in
        let there : needs_as key (slot_at (set slots i idle) j) ≡ needs_as key (slot_at slots j) = ap (needs_as key) (slot_at_other slots i j idle (λ is. other (sym is))) in
        absurd (omega (arith, one, two, there, needed-set slots i idle low_i key, idle_needs key idle refl, needs_within key (set slots i idle) j (omega (arith, low_j, length-set slots i idle)), single))

coming_blocks : (held : Held) → is_coming held ≡ true → has_blocks held ≡ true
coming_blocks Nothing is = absurd (cc)
coming_blocks (Coming draft) is = refl
coming_blocks Away is = refl
coming_blocks (Whole blocks) is = refl

pub references_past : (slots : List Slot) (jobs : List Job) (at : ℕ) → All (IsOpen slots) jobs → length slots ≤ at → references jobs at ≡ 0
unfolding references
references_past slots jobs at opens past =
    omega (arith, sum_by-le (λ j. times at j.needs.items) 0 jobs (λ k d low. omega (arith, times_none at (length slots) (get_or jobs k d).needs.items (opens k d low).within past)))

pub references_few : (slots : List Slot) (jobs : List Job) (at : ℕ) → All (IsOpen slots) jobs → references jobs at ≤ length jobs * 16384
unfolding references
references_few slots jobs at opens =
    sum_by-le (λ j. times at j.needs.items) 16384 jobs (λ k d low. omega (arith, times_few at (get_or jobs k d).needs.items, (opens k d low).count, (opens k d low).few))

references_push : (jobs : List Job) (job : Job) (at : ℕ) → references (jobs ++ job ∷ []) at ≡ references jobs at + times at job.needs.items
unfolding references
references_push jobs job at = sum_by_push (λ j. times at j.needs.items) jobs job

-- a job whose slots are for the same files
pub open_longer : (slots new : List Slot) (job : Job) → length slots ≤ length new → ((at : ℕ) → at < length slots → 0 < (slot_at slots at).users → KeepsFile (slot_at slots at) (slot_at new at))
    → ((k : ℕ) → k < length job.needs.items → 0 < (slot_at slots (get_or job.needs.items k 0)).users) → IsOpen slots job → IsOpen new job
open_longer slots new job longer files used is = record {
  count = is.count;
  few = is.few;
  within = λ k d low. omega (arith, longer, is.within k d low);
  suits = λ k d low. let file = at k low in let suits = is.suits k d low in record { key = file.key ∙ suits.key; local = file.local ∙ suits.local };
  left = is.left;
  coming = λ k low still. is.coming k low ((at k low).coming still);
}
  where
    at : (k : ℕ) → k < length job.entries.items → KeepsFile (slot_at slots (get_or job.needs.items k 0)) (slot_at new (get_or job.needs.items k 0))
    at k low = let there : k < length job.needs.items = omega (arith, is.count) in files (get_or job.needs.items k 0) (is.within k 0 there) (used k there)

file_from : (old new : Slot) → new.key ≡ old.key → new.local ≡ old.local → new.held ≡ old.held → KeepsFile old new
file_from old new key local held = record { key = key; local = local; coming = λ is. ap is_coming (sym held) ∙ is; away = λ is. ap is_away (sym held) ∙ is }

fresh_here : (held : Held) → is_fresh held ≡ true → is_away held ≡ false
fresh_here Nothing is = refl
fresh_here (Coming draft) is = refl
fresh_here Away is = absurd (cc)
fresh_here (Whole blocks) is = refl

pub needed_undone : (old mid new : List Slot) (needs : List ℕ) → HasTaken old mid needs → KeepUsed mid new → KeepNeeded old new
needed_undone old mid new needs taken kept at low some =
    let one = taken.same at low in
    let two = kept.each at (omega (arith, low, taken.longer)) in
    record { key = two.key ∙ one.key; local = two.local ∙ one.local; held = two.held some ∙ one.held }

module _ (tables : Kept) (table : JobTable) (store : FileStore) (sound : IsSound tables table [] [] store) where
  pub users_are : (at : ℕ) → (slot_at table.slots.items at).users ≡ references table.jobs.items at
  users_are at = by (cases_lt at (length table.slots.items))
    where
      by : (at < length table.slots.items) ⊎ (length table.slots.items ≤ at) → (slot_at table.slots.items at).users ≡ references table.jobs.items at
      by (inl low) = sound.counted at low
      by (inr past) = ap (λ (s : Slot). s.users) (get_or_past table.slots.items at no_slot past) ∙ sym (references_past table.slots.items table.jobs.items at sound.open_jobs past)

  pub users_few : (at : ℕ) → (slot_at table.slots.items at).users ≤ 262144
  users_few at = let few = sound.few in omega (arith, users_are at, references_few table.slots.items table.jobs.items at sound.open_jobs)

  used : (k : ℕ) (d : Job) (i : ℕ) → k < length table.jobs.items → i < length (get_or table.jobs.items k d).needs.items → 0 < (slot_at table.slots.items (get_or (get_or table.jobs.items k d).needs.items i 0)).users
  used k d i low within = omega (arith, users_are (get_or (get_or table.jobs.items k d).needs.items i 0), needed_used table.jobs.items k d i low within)

  module _ (mid : List Slot) (needs : List ℕ) (taken : HasTaken table.slots.items mid needs) where
    -- where the entries let their slots go again
    pub undone_sound : (new : JobTable) (later : FileStore) → new.jobs.items ≡ table.jobs.items → new.next ≡ table.next
        → ((at : ℕ) → at < length mid → (slot_at new.slots.items at).users + times at needs ≡ (slot_at mid at).users)
        → KeepUsed mid new.slots.items → Balanced tables new.slots.items [] later → IsSound tables new [] [] later
    undone_sound new later jobs next users kept balanced = record {
      balanced = balanced;
      counted = λ at low. back at low ∙ ap (λ (l : List Job). references l at) (sym jobs);
      settled = λ at low away. settled at low away (cases_lt 0 (slot_at new.slots.items at).users) (cases_lt at (length table.slots.items));
      open_jobs = subst (All (IsOpen new.slots.items)) (sym jobs) (λ k d low. open_longer table.slots.items new.slots.items (get_or table.jobs.items k d) (omega (arith, taken.longer, kept.count)) files (λ i within. used k d i low within) (sound.open_jobs k d low));
      few = omega (arith, ap length jobs, sound.few);
      apart = subst (AllPairs (λ one other. one.number ≡ other.number → ⊥)) (sym jobs) sound.apart;
      below = subst (λ (n : ℕ). All (λ (j : Job). j.number < n) new.jobs.items) (sym next) (subst (All (λ (j : Job). j.number < table.next)) (sym jobs) sound.below);
      next = omega (arith, next, sound.next);
    }
      where
        back : (at : ℕ) → at < length new.slots.items → (slot_at new.slots.items at).users ≡ references table.jobs.items at
        back at low = omega (arith, users at (omega (arith, low, kept.count)), taken.users at, users_are at)

        files : (at : ℕ) → at < length table.slots.items → 0 < (slot_at table.slots.items at).users → KeepsFile (slot_at table.slots.items at) (slot_at new.slots.items at)
        files at low some =
            let there : at < length mid = omega (arith, low, taken.longer) in
            let same = taken.same at low in
            let keeps = kept.each at there in
            let still : 0 < (slot_at new.slots.items at).users = omega (arith, back at (omega (arith, there, kept.count)), users_are at, some) in
            file_from (slot_at table.slots.items at) (slot_at new.slots.items at) (keeps.key ∙ same.key) (keeps.local ∙ same.local) (keeps.held still ∙ same.held)

        settled : (at : ℕ) → at < length new.slots.items → is_away (slot_at new.slots.items at).held ≡ true → (0 < (slot_at new.slots.items at).users) ⊎ ((slot_at new.slots.items at).users ≤ 0)
            → (at < length table.slots.items) ⊎ (length table.slots.items ≤ at) → Contains [] at
        settled at low away (inl some) (inl old) =
            let keeps = kept.each at (omega (arith, low, kept.count)) in
            sound.settled at old (ap is_away (sym (keeps.held some ∙ (taken.same at old).held)) ∙ away)
        settled at low away (inl some) (inr past) =
            let keeps = kept.each at (omega (arith, low, kept.count)) in
            absurd (let fresh = ap is_away (keeps.held some) ∙ fresh_here (slot_at mid at).held (taken.fresh at past) in cc)
        settled at low away (inr none) other = absurd (let idle = ap is_away ((balanced.fit at no_slot low).idle (omega arith)) in cc)

    -- where the job is opened
    pub begun_sound : (new : JobTable) (job : Job) (later : FileStore) → new.jobs.items ≡ table.jobs.items ++ job ∷ [] → new.next ≡ table.next + 1 → new.slots.items ≡ mid → job.needs.items ≡ needs → job.number ≡ table.next
        → length table.jobs.items < JOB_LIMIT → table.next < NUMBER_LIMIT → length needs ≡ length job.entries.items → length job.entries.items ≤ FILE_COUNT_LIMIT
        → AllSuit mid needs job.entries.items → (flags : List Bool) → Tell flags tables job.entries.items → IsWanted flags job.entries.items job.left.items
        → Balanced tables mid [] later → IsSound tables new [] [] later
    begun_sound new job later jobs next slots own number room spent count few suits flags tell wanted balanced = record {
      balanced = subst (λ (l : List Slot). Balanced tables l [] later) (sym slots) balanced;
      counted = λ at low. ap (λ (l : List Slot). (slot_at l at).users) slots ∙ counted at ∙ ap (λ (l : List Job). references l at) (sym jobs);
      settled = subst (λ (l : List Slot). (at : ℕ) → at < length l → is_away (slot_at l at).held ≡ true → Contains [] at) (sym slots) (λ at low away. settled at low away (cases_lt at (length table.slots.items)));
      open_jobs = subst (λ (l : List Slot). All (IsOpen l) new.jobs.items) (sym slots) (subst (All (IsOpen mid)) (sym jobs) (All-push (IsOpen mid) table.jobs.items job olds opened));
      few = omega (arith, ap length jobs, length-append table.jobs.items (job ∷ []));
      apart = subst (AllPairs (λ one other. one.number ≡ other.number → ⊥)) (sym jobs) (λ i j d order low. apart i j d order low (cases_lt j (length table.jobs.items)));
      below = subst (All (λ (j : Job). j.number < new.next)) (sym jobs) (All-push (λ (j : Job). j.number < new.next) table.jobs.items job (λ k d low. omega (arith, sound.below k d low)) (omega arith));
      next = omega arith;
    }
      where
        counted : (at : ℕ) → (slot_at mid at).users ≡ references (table.jobs.items ++ job ∷ []) at
        counted at = let same : times at job.needs.items ≡ times at needs = ap (times at) own in omega (arith, taken.users at, users_are at, references_push table.jobs.items job at, same)

        settled : (at : ℕ) → at < length mid → is_away (slot_at mid at).held ≡ true → (at < length table.slots.items) ⊎ (length table.slots.items ≤ at) → Contains [] at
        settled at low away (inl old) = sound.settled at old (ap is_away (sym (taken.same at old).held) ∙ away)
        settled at low away (inr past) = absurd (let fresh = fresh_here (slot_at mid at).held (taken.fresh at past) in cc)

        olds : All (IsOpen mid) table.jobs.items
        olds k d low =
            open_longer table.slots.items mid (get_or table.jobs.items k d) taken.longer
            (λ at there some. let same = taken.same at there in file_from (slot_at table.slots.items at) (slot_at mid at) same.key same.local same.held)
            (λ i within. used k d i low within) (sound.open_jobs k d low)

        apart : (i j : ℕ) (d : Job) → i < j → j < length (table.jobs.items ++ job ∷ []) → (j < length table.jobs.items) ⊎ (length table.jobs.items ≤ j) → (get_or (table.jobs.items ++ job ∷ []) i d).number ≡ (get_or (table.jobs.items ++ job ∷ []) j d).number → ⊥
        apart i j d order low (inl before) same =
            sound.apart i j d order before
            (ap (λ (x : Job). x.number) (sym (get_or_append_left table.jobs.items (job ∷ []) d i (omega arith))) ∙ same ∙ ap (λ (x : Job). x.number) (get_or_append_left table.jobs.items (job ∷ []) d j before))
        apart i j d order low (inr last) same =
            let here : j ≡ length table.jobs.items = omega (arith, length-append table.jobs.items (job ∷ [])) in
            let none : length table.jobs.items - length table.jobs.items ≡ 0 = omega arith in
            let end : get_or (table.jobs.items ++ job ∷ []) (length table.jobs.items) d ≡ job = get_or-append_right table.jobs.items (job ∷ []) (length table.jobs.items) (length table.jobs.items) d refl (omega arith) ∙ ap (λ (n : ℕ). get_or (job ∷ []) n d) none in
            let one : (get_or (table.jobs.items ++ job ∷ []) i d).number ≡ (get_or table.jobs.items i d).number = ap (λ (x : Job). x.number) (get_or_append_left table.jobs.items (job ∷ []) d i (omega arith)) in
            let two : (get_or (table.jobs.items ++ job ∷ []) j d).number ≡ job.number = ap (λ (n : ℕ). (get_or (table.jobs.items ++ job ∷ []) n d).number) here ∙ ap (λ (x : Job). x.number) end in
            omega (arith, one, two, same, number, sound.below i d (omega arith))

        some : (k : ℕ) → k < length needs → 0 < (slot_at mid (get_or needs k 0)).users
        some k low = omega (arith, taken.users (get_or needs k 0), times_at needs k 0 low)

        none : FileEntry
        none = record { name = []; size = 0; list = []; group = None; local = false }

        slot : (k : ℕ) → Slot
        slot k = slot_at mid (get_or needs k 0)

        -- what the tables have is not still to come
        kept : (k : ℕ) → k < length needs → is_coming (slot_at mid (get_or needs k 0)).held ≡ true → has_blocks_for tables (get_or job.entries.items k none) ≡ true → ⊥
        kept k low still has =
            let where_kept = kept_where tables (get_or job.entries.items k none) has in
            let suit = suits k none low in
            let key = (content_key (get_or job.entries.items k none)) in
            let for_it = for_key (slot_at mid (get_or needs k 0)) key (some k low) (suit.local ∙ where_kept.0) suit.key in
            let held : holds_as (content_key (get_or job.entries.items k none)) (slot_at mid (get_or needs k 0)) ≡ 1 =
            cond-true ((is_for key (slot_at mid (get_or needs k 0)) && is_used (slot_at mid (get_or needs k 0))) && has_blocks (slot_at mid (get_or needs k 0)).held) 1 0
            (and_from (is_for key (slot_at mid (get_or needs k 0)) && is_used (slot_at mid (get_or needs k 0))) (has_blocks (slot_at mid (get_or needs k 0)).held) for_it (coming_blocks (slot_at mid (get_or needs k 0)).held still)) in
            omega (arith, held, where_kept.1, balanced.content key, holds_within key mid (get_or needs k 0) (taken.within k 0 low))

        coming : (k : ℕ) → k < length needs → is_coming (slot_at mid (get_or needs k 0)).held ≡ true → (has_blocks_for tables (get_or job.entries.items k none) ≡ true) ⊎ (has_blocks_for tables (get_or job.entries.items k none) ≡ false)
            → (p : ℕ) × Contains job.left.items p × (get_or needs p 0 ≡ get_or needs k 0)
        coming k low still (inl has) = absurd (kept k low still has)
        coming k low still (inr lacks) = let given = wanted.each k none (omega (arith, low, count)) (tell k none (omega (arith, low, count)) ∙ lacks) in by given.0 given.1 given.2
          where
            by : (p : ℕ) → Contains job.left.items p → (p ≡ k) ⊎ HaveOneContent (get_or job.entries.items p none) (get_or job.entries.items k none) → (q : ℕ) × Contains job.left.items q × (get_or needs q 0 ≡ get_or needs k 0)
            by p listed (inl same) = (p, listed, ap (λ (n : ℕ). get_or needs n 0) same)
            by p listed (inr content) =
                let within : p < length needs = omega (arith, count, All-contains (λ i. i < length job.entries.items) job.left.items p wanted.within listed) in
                let one = suits p none within in
                let two = suits k none low in
                let key = (content_key (get_or job.entries.items k none)) in (
                  p,
                  listed,
                  one_slot mid key (get_or needs p 0) (get_or needs k 0) (taken.within p 0 within) (taken.within k 0 low)
                      (for_key (slot_at mid (get_or needs p 0)) key (some p within) (one.local ∙ content.one_program) (one.key ∙ content.key))
                      (for_key (slot_at mid (get_or needs k 0)) key (some k low) (two.local ∙ content.other_program) two.key) (balanced.single key),
                )

        opened : IsOpen mid job
        opened = record {
          count = ap length own ∙ count;
          few = few;
          within = subst (All (λ at. at < length mid)) (sym own) taken.within;
          suits = λ k d low. subst (λ (l : List ℕ). Suits (get_or job.entries.items k d) (slot_at mid (get_or l k 0))) (sym own) (suits k d (omega (arith, low, count)));
          left = wanted.within;
          coming = λ k low. subst (λ (l : List ℕ). is_coming (slot_at mid (get_or l k 0)).held ≡ true → (p : ℕ) × Contains job.left.items p × (get_or l p 0 ≡ get_or l k 0)) (sym own) (λ still. coming k (omega (arith, low, count)) still (cases_Bool (has_blocks_for tables (get_or job.entries.items k none))));
        }

-- a table with the same jobs and slots
pub sound_same : (tables : Kept) (table new : JobTable) (store : FileStore) → new.jobs.items ≡ table.jobs.items → new.next ≡ table.next → new.slots.items ≡ table.slots.items
    → IsSound tables table [] [] store → IsSound tables new [] [] store
sound_same tables table new store jobs next slots sound = record {
  balanced = subst (λ (l : List Slot). Balanced tables l [] store) (sym slots) sound.balanced;
  counted = λ at low. ap (λ (l : List Slot). (slot_at l at).users) slots ∙ sound.counted at (omega (arith, low, ap length slots)) ∙ ap (λ (l : List Job). references l at) (sym jobs);
  settled = λ at low away. sound.settled at (omega (arith, low, ap length slots)) (ap (λ (l : List Slot). is_away (slot_at l at).held) (sym slots) ∙ away);
  open_jobs = subst (λ (l : List Slot). All (IsOpen l) new.jobs.items) (sym slots) (subst (All (IsOpen table.slots.items)) (sym jobs) sound.open_jobs);
  few = omega (arith, ap length jobs, sound.few);
  apart = subst (AllPairs (λ one other. one.number ≡ other.number → ⊥)) (sym jobs) sound.apart;
  below = subst (λ (n : ℕ). All (λ (j : Job). j.number < n) new.jobs.items) (sym next) (subst (All (λ (j : Job). j.number < table.next)) (sym jobs) sound.below);
  next = omega (arith, next, sound.next);
}
