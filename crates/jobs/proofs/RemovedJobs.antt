-- A job is taken out.
use Rattle.std.proofs.Common.{◌≡◌, ◌⊎◌, ℕ, ◌+◌, ◌<◌, ◌≤◌, true, List, [], ◌∷◌, length, get_or, remove, refl, sym, ◌∙◌, ap, subst, arith, inl, inr, All, Contains}
use Rattle.std.specs.List.{AllPairs}
use Rattle.std.proofs.lemmas.Bool.{cases_lt}
use Rattle.std.proofs.lemmas.List.Edits.{length-remove, get_or-remove_above, get_or-remove_below}
use Rattle.std.proofs.lemmas.List.Quantifiers.{all_pairs_remove}
use Rattle.std.proofs.lemmas.List.Sums.{get_or-le-sum_by, sum_by-remove}
use Rattle.file_store.specs.declared.store.FileStore.{FileStore}
use Rattle.jobs.specs.Balance.{Balanced, times}
use Rattle.jobs.specs.Jobs.{IsOpen, IsSound, references}
use Rattle.jobs.specs.Slots.{KeepFiles, KeepUsed, is_away, is_coming, no_slot, slot_at}
use Rattle.jobs.specs.declared.held.Slot.{Slot}
use Rattle.jobs.specs.declared.table.Job.{Job}
use Rattle.jobs.specs.declared.table.JobTable.{JobTable}
use Rattle.jobs.specs.Kept.{Kept}
use Rattle.jobs.proofs.Counts.{times_at}

pub all_remove : {X : Type 0} (P : X → Type 0) (xs : List X) (i : ℕ) → i < length xs → All P xs → All P (remove xs i)
all_remove P xs i low all k d within = by (cases_lt k i)
  where
    by : (k < i) ⊎ (i ≤ k) → P (get_or (remove xs i) k d)
    by (inl below) = subst P (sym (get_or-remove_below xs i d k below low)) (all k d (omega arith))
    by (inr above) = subst P (sym (get_or-remove_above xs i d k above low)) (all (k + 1) d (omega (arith, length-remove xs i low)))

-- the references of the others
pub references_without : (jobs : List Job) (at : ℕ) (job : Job) → at < length jobs → job ≡ get_or jobs at job → (slot : ℕ) → references (remove jobs at) slot + times slot job.needs.items ≡ references jobs slot
unfolding references
references_without jobs at job low is slot =
    ap (λ (j : Job). references (remove jobs at) slot + times slot j.needs.items) is ∙ sum_by-remove (λ j. times slot j.needs.items) jobs at job low

-- what a job needs has a user
pub needed_used : (jobs : List Job) (k : ℕ) (d : Job) (i : ℕ) → k < length jobs → i < length (get_or jobs k d).needs.items → 1 ≤ references jobs (get_or (get_or jobs k d).needs.items i 0)
unfolding references
needed_used jobs k d i low within =
    omega (arith, times_at (get_or jobs k d).needs.items i 0 within, get_or-le-sum_by (λ j. times (get_or (get_or jobs k d).needs.items i 0) j.needs.items) jobs k d low)

-- a job all of whose slots are kept
pub open_kept : (slots new : List Slot) (job : Job) → KeepUsed slots new → ((i : ℕ) → i < length job.needs.items → 0 < (slot_at new (get_or job.needs.items i 0)).users) → IsOpen slots job → IsOpen new job
open_kept slots new job kept used is = record {
  count = is.count;
  few = is.few;
  within = λ k d low. omega (arith, kept.count, is.within k d low);
  suits = λ k d low. let keeps = kept.each (get_or job.needs.items k 0) (at k low) in let suits = is.suits k d low in record { key = keeps.key ∙ suits.key; local = keeps.local ∙ suits.local };
  left = is.left;
  coming = λ k low still. is.coming k low (ap is_coming (sym ((kept.each (get_or job.needs.items k 0) (at k low)).held (used k (omega (arith, is.count))))) ∙ still);
}
  where
    at : (k : ℕ) → k < length job.entries.items → get_or job.needs.items k 0 < length slots
    at k low = is.within k 0 (omega (arith, is.count))

open_files : (slots new : List Slot) (job : Job) → KeepFiles slots new → IsOpen slots job → IsOpen new job
open_files slots new job files is = record {
  count = is.count;
  few = is.few;
  within = λ k d low. omega (arith, files.count, is.within k d low);
  suits = λ k d low. let file = files.each (get_or job.needs.items k 0) (at k low) in let suits = is.suits k d low in record { key = file.key ∙ suits.key; local = file.local ∙ suits.local };
  left = is.left;
  coming = λ k low still. is.coming k low ((files.each (get_or job.needs.items k 0) (at k low)).coming still);
}
  where
    at : (k : ℕ) → k < length job.entries.items → get_or job.needs.items k 0 < length slots
    at k low = is.within k 0 (omega (arith, is.count))

module _ (tables : Kept) (table : JobTable) (store : FileStore) (at : ℕ) (job : Job) (low : at < length table.jobs.items) (is : job ≡ get_or table.jobs.items at job) (sound : IsSound tables table [] [] store) where
  pub counted_enough : (slot : ℕ) → slot < length table.slots.items → times slot job.needs.items ≤ (slot_at table.slots.items slot).users
  counted_enough slot there = omega (arith, sound.counted slot there, references_without table.jobs.items at job low is slot)

  pub within_needs : All (λ slot. slot < length table.slots.items) job.needs.items
  within_needs = subst (λ (j : Job). All (λ slot. slot < length table.slots.items) j.needs.items) (sym is) (sound.open_jobs at job low).within

  -- the table without it, once its entries have let their slots go
  pub sound_without : (after : Kept) (new : JobTable) (later : FileStore) → new.jobs.items ≡ remove table.jobs.items at → new.next ≡ table.next
      → ((slot : ℕ) → slot < length table.slots.items → (slot_at new.slots.items slot).users + times slot job.needs.items ≡ (slot_at table.slots.items slot).users)
      → KeepUsed table.slots.items new.slots.items → Balanced after new.slots.items [] later → IsSound after new [] [] later
  sound_without after new later rest next users kept balanced = record {
    balanced = balanced;
    counted = λ slot there. counted slot there;
    settled = λ slot there away. settled slot there away (cases_lt 0 (slot_at new.slots.items slot).users);
    open_jobs = λ k d there. open_kept table.slots.items new.slots.items (get_or new.jobs.items k d) kept (λ i within. used k d i there within) (subst (All (IsOpen table.slots.items)) (sym rest) (all_remove (IsOpen table.slots.items) table.jobs.items at low sound.open_jobs) k d there);
    few = omega (arith, ap length rest, length-remove table.jobs.items at low, sound.few);
    apart = subst (AllPairs (λ one other. one.number ≡ other.number → ⊥)) (sym rest) (all_pairs_remove (λ one other. one.number ≡ other.number → ⊥) table.jobs.items at low sound.apart);
    below = subst (λ (n : ℕ). All (λ (j : Job). j.number < n) new.jobs.items) (sym next) (subst (All (λ (j : Job). j.number < table.next)) (sym rest) (all_remove (λ (j : Job). j.number < table.next) table.jobs.items at low sound.below));
    next = omega (arith, next, sound.next);
  }
    where
      settled : (slot : ℕ) → slot < length new.slots.items → is_away (slot_at new.slots.items slot).held ≡ true → (0 < (slot_at new.slots.items slot).users) ⊎ ((slot_at new.slots.items slot).users ≤ 0) → Contains [] slot
      settled slot there away (inl some) =
          let old : slot < length table.slots.items = omega (arith, kept.count) in
          sound.settled slot old (ap is_away (sym ((kept.each slot old).held some)) ∙ away)
      settled slot there away (inr none) = absurd (let idle = ap is_away ((balanced.fit slot no_slot there).idle (omega arith)) in cc)

      counted : (slot : ℕ) → slot < length new.slots.items → (slot_at new.slots.items slot).users ≡ references new.jobs.items slot
      counted slot there =
          let old : slot < length table.slots.items = omega (arith, kept.count) in
          let fewer : references new.jobs.items slot ≡ references (remove table.jobs.items at) slot = ap (λ (l : List Job). references l slot) rest in
          omega (arith, fewer, users slot old, sound.counted slot old, references_without table.jobs.items at job low is slot)

      used : (k : ℕ) (d : Job) (i : ℕ) → k < length new.jobs.items → i < length (get_or new.jobs.items k d).needs.items → 0 < (slot_at new.slots.items (get_or (get_or new.jobs.items k d).needs.items i 0)).users
      used k d i there within =
          let old = (subst (All (IsOpen table.slots.items)) (sym rest) (all_remove (IsOpen table.slots.items) table.jobs.items at low sound.open_jobs) k d there).within i 0 within in
          omega (arith, counted (get_or (get_or new.jobs.items k d).needs.items i 0) (omega (arith, kept.count, old)), needed_used new.jobs.items k d i there within)

  -- the same, where its files became the tables'
  pub sound_handed : (after : Kept) (new : JobTable) → new.jobs.items ≡ remove table.jobs.items at → new.next ≡ table.next
      → ((slot : ℕ) → slot < length table.slots.items → (slot_at new.slots.items slot).users + times slot job.needs.items ≡ (slot_at table.slots.items slot).users)
      → KeepFiles table.slots.items new.slots.items → Balanced after new.slots.items [] store → IsSound after new [] [] store
  sound_handed after new rest next users files balanced = record {
    balanced = balanced;
    counted = λ slot there.
        let old : slot < length table.slots.items = omega (arith, files.count) in
        let fewer : references new.jobs.items slot ≡ references (remove table.jobs.items at) slot = ap (λ (l : List Job). references l slot) rest in
        omega (arith, fewer, users slot old, sound.counted slot old, references_without table.jobs.items at job low is slot);
    settled = λ slot there away. let old : slot < length table.slots.items = omega (arith, files.count) in sound.settled slot old ((files.each slot old).away away);
    open_jobs = subst (All (IsOpen new.slots.items)) (sym rest) (all_remove (IsOpen new.slots.items) table.jobs.items at low (λ k d there. open_files table.slots.items new.slots.items (get_or table.jobs.items k d) files (sound.open_jobs k d there)));
    few = omega (arith, ap length rest, length-remove table.jobs.items at low, sound.few);
    apart = subst (AllPairs (λ one other. one.number ≡ other.number → ⊥)) (sym rest) (all_pairs_remove (λ one other. one.number ≡ other.number → ⊥) table.jobs.items at low sound.apart);
    below = subst (λ (n : ℕ). All (λ (j : Job). j.number < n) new.jobs.items) (sym next) (subst (All (λ (j : Job). j.number < table.next)) (sym rest) (all_remove (λ (j : Job). j.number < table.next) table.jobs.items at low sound.below));
    next = omega (arith, next, sound.next);
  }
