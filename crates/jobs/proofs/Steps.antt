-- A step of a job: its draft goes out, and what came of it stands for all jobs that need it.
use Rattle.std.proofs.Common.{◌≡◌, ◌⊎◌, ℕ, zero, suc, ◌-◌, ◌<◌, true, false, List, [], ◌∷◌, length, get_or, set, Some, None, refl, sym, ◌∙◌, ap, subst, arith, inl, inr, All, Contains}
use Rattle.std.proofs.lemmas.Bool.{cases_eq}
use Rattle.std.proofs.lemmas.List.{get_or_default, get_or-set_same, get_or-set_other, get_or-take, length-set, length-take, set-get_or}
use Rattle.std.proofs.lemmas.List.Sums.{sum_by-set}
use Rattle.file_store.specs.Stores.{draft_blocks}
use Rattle.file_store.specs.declared.draft.Draft.{Draft}
use Rattle.file_store.specs.declared.store.FileStore.{FileStore}
use Rattle.jobs.specs.Balance.{Balanced, times}
use Rattle.jobs.specs.Jobs.{HasPassed, IsOpen, IsOut, IsSound, first_left, first_slot, references}
use Rattle.jobs.specs.Slots.{draft_of, is_away, is_coming, lent, no_slot, slot_at, with_held, without_draft}
use Rattle.jobs.specs.declared.held.Held.{Held}
use Rattle.jobs.specs.declared.held.Held.TheVariants.{Nothing, Coming, Away, Whole}
use Rattle.jobs.specs.declared.held.Slot.{Slot}
use Rattle.jobs.specs.declared.table.Job.{Job}
use Rattle.jobs.specs.declared.table.JobTable.{JobTable}
use Rattle.jobs.specs.Kept.{Kept}
use Rattle.jobs.proofs.LetGoAll.{slot_at_set, slot_at_other}

-- the same file for the same users, and no more to come than before
pub record Follows (old new : Slot) : Type 0 where
  pub key : new.key ≡ old.key
  pub local : new.local ≡ old.local
  pub users : new.users ≡ old.users
  pub coming : is_coming new.held ≡ true → is_coming old.held ≡ true

pub record FollowAll (old new : List Slot) : Type 0 where
  pub count : length new ≡ length old
  pub each : (at : ℕ) → at < length old → Follows (slot_at old at) (slot_at new at)

pub follows_same : (s : Slot) → Follows s s
follows_same s = record { key = refl; local = refl; users = refl; coming = λ is. is }

pub follow_none : (slots : List Slot) → FollowAll slots slots
follow_none slots = record { count = refl; each = λ at low. follows_same (slot_at slots at) }

pub follow_set : (slots : List Slot) (i : ℕ) (s : Slot) → i < length slots → Follows (slot_at slots i) s → FollowAll slots (set slots i s)
follow_set slots i s low follows = record { count = length-set slots i s; each = λ at there. by at (cases_eq at i) }
  where
    by : (at : ℕ) → (at ≡ i) ⊎ (at ≡ i → ⊥) → Follows (slot_at slots at) (slot_at (set slots i s) at)
    by at (inl is) = subst (λ (n : ℕ). Follows (slot_at slots n) (slot_at (set slots i s) n)) (sym is) (subst (Follows (slot_at slots i)) (sym (slot_at_set slots i s low)) follows)
    by at (inr other) = subst (Follows (slot_at slots at)) (sym (slot_at_other slots i at s other)) (follows_same (slot_at slots at))

pub open_follow : (slots new : List Slot) (job : Job) → FollowAll slots new → IsOpen slots job → IsOpen new job
open_follow slots new job follow is = record {
  count = is.count;
  few = is.few;
  within = λ k d low. omega (arith, follow.count, is.within k d low);
  suits = λ k d low. let to = follow.each (get_or job.needs.items k 0) (at k low) in let suits = is.suits k d low in record { key = to.key ∙ suits.key; local = to.local ∙ suits.local };
  left = is.left;
  coming = λ k low still. is.coming k low ((follow.each (get_or job.needs.items k 0) (at k low)).coming still);
}
  where
    at : (k : ℕ) → k < length job.entries.items → get_or job.needs.items k 0 < length slots
    at k low = is.within k 0 (omega (arith, is.count))

pub nowhere : (slot : ℕ) → Contains [] slot → ⊥
nowhere slot found = let low = found.1 in omega arith

-- a job one of whose entries is left no more
pub left_less : (slots : List Slot) (job passed : Job) → IsOpen slots job → HasPassed job passed → 0 < length job.left.items → is_coming (slot_at slots (first_slot job)).held ≡ false → IsOpen slots passed
left_less slots job passed is has some here =
    subst (λ e. IsOpen slots (record passed { entries = e })) (sym has.entries)
    (subst (λ n. IsOpen slots (record passed { entries = job.entries; needs = n })) (sym has.needs)
    record {
      count = is.count;
      few = is.few;
      within = is.within;
      suits = is.suits;
      left = subst (All (λ k. k < length job.entries.items)) (sym has.left) (λ k d low. subst (λ (n : ℕ). n < length job.entries.items) (sym (get_or-take (length job.left.items - 1) job.left.items k d (omega (arith, low, length-take (length job.left.items - 1) job.left.items)))) (is.left k d (omega (arith, low, length-take (length job.left.items - 1) job.left.items))));
      coming = λ k low still. let old = is.coming k low still in by k still old.0 old.1.0 old.1.1 old.1.2 old.2 (cases_eq old.1.0 (length job.left.items - 1));
    })
  where
    by : (k : ℕ) → is_coming (slot_at slots (get_or job.needs.items k 0)).held ≡ true → (p i : ℕ) → i < length job.left.items → get_or job.left.items i p ≡ p → get_or job.needs.items p 0 ≡ get_or job.needs.items k 0
        → (i ≡ length job.left.items - 1) ⊎ (i ≡ length job.left.items - 1 → ⊥) → (q : ℕ) × Contains passed.left.items q × (get_or job.needs.items q 0 ≡ get_or job.needs.items k 0)
    by k still p i low at same (inl last) =
        let first : first_left job ≡ p = get_or_default job.left.items (length job.left.items - 1) 0 p (omega arith) ∙ ap (λ (n : ℕ). get_or job.left.items n p) (sym last) ∙ at in
        let there : first_slot job ≡ get_or job.needs.items k 0 = ap (λ (n : ℕ). get_or job.needs.items n 0) first ∙ same in
        absurd (let none : is_coming (slot_at slots (get_or job.needs.items k 0)).held ≡ false = subst (λ (n : ℕ). is_coming (slot_at slots n).held ≡ false) there here in cc)
    by k still p i low at same (inr other) =
        (p, subst (λ (l : List ℕ). Contains l p) (sym has.left) (i, omega (arith, length-take (length job.left.items - 1) job.left.items), get_or-take (length job.left.items - 1) job.left.items i p (omega arith) ∙ at), same)

references_set : (jobs : List Job) (at : ℕ) (job passed : Job) → at < length jobs → job ≡ get_or jobs at job → HasPassed job passed → (slot : ℕ) → references (set jobs at passed) slot ≡ references jobs slot
unfolding references
references_set jobs at job passed low is has slot =
    let sums = sum_by-set (λ j. times slot j.needs.items) jobs at passed job low in
    let here : times slot (get_or jobs at job).needs.items ≡ times slot job.needs.items = ap (λ (j : Job). times slot j.needs.items) (sym is) in
    let there : times slot passed.needs.items ≡ times slot job.needs.items = ap (λ v. times slot v.items) has.needs in
    omega arith

pub sound_turn : (tables after : Kept) (table new : JobTable) (out hands out' hands' : List ℕ) (store later : FileStore) → IsSound tables table out hands store
    → Balanced after new.slots.items hands' later → FollowAll table.slots.items new.slots.items
    → ((slot : ℕ) → references new.jobs.items slot ≡ references table.jobs.items slot)
    → All (IsOpen new.slots.items) new.jobs.items → length new.jobs.items ≡ length table.jobs.items
    → ((k : ℕ) (d : Job) → k < length table.jobs.items → (get_or new.jobs.items k d).number ≡ (get_or table.jobs.items k d).number)
    → new.next ≡ table.next
    → ((at : ℕ) → at < length new.slots.items → is_away (slot_at new.slots.items at).held ≡ true → Contains out' at)
    → IsSound after new out' hands' later
sound_turn tables after table new out hands out' hands' store later sound balanced follow same opens count numbers next settled = record {
  balanced = balanced;
  counted = λ at there. let low : at < length table.slots.items = omega (arith, follow.count) in (follow.each at low).users ∙ sound.counted at low ∙ sym (same at);
  settled = settled;
  open_jobs = opens;
  few = omega (arith, sound.few);
  apart = λ i j d order low is. let there : j < length table.jobs.items = omega arith in sound.apart i j d order there (sym (numbers i d (omega arith)) ∙ is ∙ numbers j d there);
  below = λ k d low. let there : k < length table.jobs.items = omega arith in let before = sound.below k d there in let is = numbers k d there in omega arith;
  next = omega (arith, sound.next);
}

-- what is sound goes by the items alone
pub same_sound : (tables : Kept) (table new : JobTable) (out hands : List ℕ) (store : FileStore) → new.slots.items ≡ table.slots.items → new.jobs.items ≡ table.jobs.items → new.next ≡ table.next → IsSound tables table out hands store → IsSound tables new out hands store
same_sound tables table new out hands store slots jobs next sound =
    sound_turn tables tables table new out hands out hands store store sound
    (subst (λ (l : List Slot). Balanced tables l hands store) (sym slots) sound.balanced)
    (subst (FollowAll table.slots.items) (sym slots) (follow_none table.slots.items))
    (λ slot. ap (λ (l : List Job). references l slot) jobs)
    (subst (λ (l : List Slot). All (IsOpen l) new.jobs.items) (sym slots) (subst (All (IsOpen table.slots.items)) (sym jobs) sound.open_jobs))
    (ap length jobs) (λ k d there. ap (λ (l : List Job). (get_or l k d).number) jobs) next
    (subst (λ (l : List Slot). (at : ℕ) → at < length l → is_away (slot_at l at).held ≡ true → Contains out at) (sym slots) sound.settled)

module _ (tables : Kept) (table : JobTable) (out hands : List ℕ) (store : FileStore) (sound : IsSound tables table out hands store) (at : ℕ) (low : at < length table.jobs.items) (job : Job) (is : job ≡ get_or table.jobs.items at job) (some : 0 < length job.left.items) where
  pub job_open : IsOpen table.slots.items job
  job_open = subst (IsOpen table.slots.items) (sym is) (sound.open_jobs at job low)

  pub first_low : first_left job < length job.entries.items
  first_low = job_open.left (length job.left.items - 1) 0 (omega arith)

  pub need_low : first_left job < length job.needs.items
  need_low = omega (arith, first_low, job_open.count)

  pub slot_low : first_slot job < length table.slots.items
  slot_low = job_open.within (first_left job) 0 need_low

  -- its draft is out
  pub taken_sound : (new : JobTable) (draft : Draft) → out ≡ [] → new.jobs.items ≡ table.jobs.items → new.next ≡ table.next
      → new.slots.items ≡ set table.slots.items (first_slot job) (lent (slot_at table.slots.items (first_slot job)))
      → Balanced tables new.slots.items (draft_blocks draft) store → IsSound tables new (first_slot job ∷ []) (draft_blocks draft) store
  taken_sound new draft none jobs next slots balanced =
      sound_turn tables tables table new out hands (first_slot job ∷ []) (draft_blocks draft) store store sound balanced follow
      (λ slot. ap (λ (l : List Job). references l slot) jobs)
      (subst (All (IsOpen new.slots.items)) (sym jobs) (λ k d there. open_follow table.slots.items new.slots.items (get_or table.jobs.items k d) follow (sound.open_jobs k d there)))
      (ap length jobs) (λ k d there. ap (λ (l : List Job). (get_or l k d).number) jobs) next
      (λ slot there away. settled slot there away (cases_eq slot (first_slot job)))
    where
      i : ℕ
      i = first_slot job

      still : (held : Held) → is_coming (without_draft held) ≡ true → is_coming held ≡ true
      still Nothing is = is
      still (Coming draft) is = refl
      still Away is = is
      still (Whole blocks) is = is

      follow : FollowAll table.slots.items new.slots.items
      follow =
          subst (FollowAll table.slots.items) (sym slots)
          (follow_set table.slots.items (first_slot job) (lent (slot_at table.slots.items (first_slot job))) slot_low
          record { key = refl; local = refl; users = refl; coming = still (slot_at table.slots.items (first_slot job)).held })

      settled : (slot : ℕ) → slot < length new.slots.items → is_away (slot_at new.slots.items slot).held ≡ true → (slot ≡ first_slot job) ⊎ (slot ≡ first_slot job → ⊥) → Contains (first_slot job ∷ []) slot
      settled slot there away (inl same) = (0, omega arith, sym same)
      settled slot there away (inr other) =
          absurd (nowhere slot (subst (λ (l : List ℕ). Contains l slot) none (sound.settled slot (omega (arith, follow.count))
          (ap (λ (s : Slot). is_away s.held) (sym (ap (λ (l : List Slot). slot_at l slot) slots ∙ slot_at_other table.slots.items (first_slot job) slot (lent (slot_at table.slots.items (first_slot job))) other)) ∙ away))))

  -- the first entry left is fetched
  pub passed_sound : (new : JobTable) (out' hands' : List ℕ) (passed : Job) → HasPassed job passed → new.jobs.items ≡ set table.jobs.items at passed → new.next ≡ table.next
      → FollowAll table.slots.items new.slots.items → is_coming (slot_at new.slots.items (first_slot job)).held ≡ false
      → Balanced tables new.slots.items hands' store
      → ((slot : ℕ) → slot < length new.slots.items → is_away (slot_at new.slots.items slot).held ≡ true → Contains out' slot)
      → IsSound tables new out' hands' store
  passed_sound new out' hands' passed has jobs next follow here balanced settled =
      sound_turn tables tables table new out hands out' hands' store store sound balanced follow
      (λ slot. ap (λ (l : List Job). references l slot) jobs ∙ same slot)
      (subst (All (IsOpen new.slots.items)) (sym jobs) (λ k d there. opens k d (omega (arith, there, length-set table.jobs.items at passed)) (cases_eq k at)))
      (ap length jobs ∙ length-set table.jobs.items at passed)
      (λ k d there. ap (λ (l : List Job). (get_or l k d).number) jobs ∙ numbers k d (cases_eq k at))
      next settled
    where
      same : (slot : ℕ) → references (set table.jobs.items at passed) slot ≡ references table.jobs.items slot
      same slot = references_set table.jobs.items at job passed low is has slot

      numbers : (k : ℕ) (d : Job) → (k ≡ at) ⊎ (k ≡ at → ⊥) → (get_or (set table.jobs.items at passed) k d).number ≡ (get_or table.jobs.items k d).number
      numbers k d (inl this) =
          ap (λ (n : ℕ). (get_or (set table.jobs.items at passed) n d).number) this ∙ ap (λ (j : Job). j.number) (get_or-set_same table.jobs.items at passed d low)
          ∙ has.number ∙ ap (λ (j : Job). j.number) (is ∙ get_or_default table.jobs.items at job d low) ∙ ap (λ (n : ℕ). (get_or table.jobs.items n d).number) (sym this)
      numbers k d (inr other) = ap (λ (j : Job). j.number) (get_or-set_other table.jobs.items at k passed d other)

      opens : (k : ℕ) (d : Job) → k < length table.jobs.items → (k ≡ at) ⊎ (k ≡ at → ⊥) → IsOpen new.slots.items (get_or (set table.jobs.items at passed) k d)
      opens k d there (inl this) =
          subst (IsOpen new.slots.items) (sym (ap (λ (n : ℕ). get_or (set table.jobs.items at passed) n d) this ∙ get_or-set_same table.jobs.items at passed d low))
          (left_less new.slots.items job passed (open_follow table.slots.items new.slots.items job follow job_open) has some here)
      opens k d there (inr other) =
          subst (IsOpen new.slots.items) (sym (get_or-set_other table.jobs.items at k passed d other))
          (open_follow table.slots.items new.slots.items (get_or table.jobs.items k d) follow (sound.open_jobs k d there))

pub away_from : (held : Held) (draft : Draft) → Some draft ≡ draft_of held → without_draft held ≡ Away
away_from Nothing draft is = absurd (cc)
away_from (Coming other) draft is = refl
away_from Away draft is = absurd (cc)
away_from (Whole blocks) draft is = absurd (cc)

pub same_from : (held : Held) → None ≡ draft_of held → without_draft held ≡ held
same_from Nothing is = refl
same_from (Coming other) is = absurd (cc)
same_from Away is = refl
same_from (Whole blocks) is = refl

pub here_from : (held : Held) → None ≡ draft_of held → (is_away held ≡ true → ⊥) → is_coming held ≡ false
here_from Nothing is other = refl
here_from (Coming draft) is other = absurd (cc)
here_from Away is other = absurd (other refl)
here_from (Whole blocks) is other = refl

pub lent_same : (slots : List Slot) (i : ℕ) → None ≡ draft_of (slot_at slots i).held → set slots i (lent (slot_at slots i)) ≡ slots
lent_same slots i is = ap (λ (h : Held). set slots i (with_held (slot_at slots i) h)) (same_from (slot_at slots i).held is) ∙ set-get_or slots i no_slot

module _ (tables : Kept) (table : JobTable) (blocks : List ℕ) (store : FileStore) (at : ℕ) (low : at < length table.jobs.items) (job : Job) (is : job ≡ get_or table.jobs.items at job) (out : IsOut tables job blocks table store) where
  i_low : first_slot job < length table.slots.items
  i_low = slot_low tables table (first_slot job ∷ []) blocks store out.sound at low job is out.some

  pub out_slot : first_slot job < length table.slots.items
  out_slot = i_low

  pub out_need : first_left job < length job.needs.items
  out_need = need_low tables table (first_slot job ∷ []) blocks store out.sound at low job is out.some

  follow_put : (new : JobTable) (held : Held) → new.slots.items ≡ set table.slots.items (first_slot job) (with_held (slot_at table.slots.items (first_slot job)) held) → FollowAll table.slots.items new.slots.items
  follow_put new held slots =
      subst (FollowAll table.slots.items) (sym slots)
      (follow_set table.slots.items (first_slot job) (with_held (slot_at table.slots.items (first_slot job)) held) i_low
      record { key = refl; local = refl; users = refl; coming = λ still. ap is_coming out.away })

  here_put : (new : JobTable) (held : Held) → new.slots.items ≡ set table.slots.items (first_slot job) (with_held (slot_at table.slots.items (first_slot job)) held) → (slot_at new.slots.items (first_slot job)).held ≡ held
  here_put new held slots = ap (λ (l : List Slot). (slot_at l (first_slot job)).held) slots ∙ ap (λ (s : Slot). s.held) (slot_at_set table.slots.items (first_slot job) (with_held (slot_at table.slots.items (first_slot job)) held) i_low)

  settled_put : (new : JobTable) (held : Held) → new.slots.items ≡ set table.slots.items (first_slot job) (with_held (slot_at table.slots.items (first_slot job)) held) → is_away held ≡ false
      → (slot : ℕ) → slot < length new.slots.items → is_away (slot_at new.slots.items slot).held ≡ true → (slot ≡ first_slot job) ⊎ (slot ≡ first_slot job → ⊥) → Contains [] slot
  settled_put new held slots none slot there away (inl same) =
      absurd (let not_away : is_away (slot_at new.slots.items slot).held ≡ false = ap (λ (n : ℕ). is_away (slot_at new.slots.items n).held) same ∙ ap is_away (here_put new held slots) ∙ none in cc)
  settled_put new held slots none slot there away (inr other) =
      let old = out.sound.settled slot (omega (arith, (follow_put new held slots).count))
      (ap (λ (s : Slot). is_away s.held) (sym (ap (λ (l : List Slot). slot_at l slot) slots ∙ slot_at_other table.slots.items (first_slot job) slot (with_held (slot_at table.slots.items (first_slot job)) held) other)) ∙ away) in
      absurd (other (sym (only (first_slot job) slot old)))
    where
      only : (x y : ℕ) → Contains (x ∷ []) y → x ≡ y
      only x y found = at_zero found.0 found.1 found.2
        where
          at_zero : (k : ℕ) → k < length (x ∷ []) → get_or (x ∷ []) k y ≡ y → x ≡ y
          at_zero zero low same = same
          at_zero (suc k) low same = absurd (omega arith)

  -- the file stands
  pub kept_sound : (new : JobTable) (held : Held) (passed : Job) → HasPassed job passed → new.jobs.items ≡ set table.jobs.items at passed → new.next ≡ table.next
      → new.slots.items ≡ set table.slots.items (first_slot job) (with_held (slot_at table.slots.items (first_slot job)) held) → is_away held ≡ false → is_coming held ≡ false
      → Balanced tables new.slots.items [] store → IsSound tables new [] [] store
  kept_sound new held passed has jobs next slots none here balanced =
      passed_sound tables table (first_slot job ∷ []) blocks store out.sound at low job is out.some new [] [] passed has jobs next (follow_put new held slots)
      (ap is_coming (here_put new held slots) ∙ here) balanced
      (λ slot there away. settled_put new held slots none slot there away (cases_eq slot (first_slot job)))

  -- the draft waits again
  pub back_sound : (new : JobTable) (held : Held) → new.jobs.items ≡ table.jobs.items → new.next ≡ table.next
      → new.slots.items ≡ set table.slots.items (first_slot job) (with_held (slot_at table.slots.items (first_slot job)) held) → is_away held ≡ false
      → Balanced tables new.slots.items [] store → IsSound tables new [] [] store
  back_sound new held jobs next slots none balanced =
      sound_turn tables tables table new (first_slot job ∷ []) blocks [] [] store store out.sound balanced (follow_put new held slots)
      (λ slot. ap (λ (l : List Job). references l slot) jobs)
      (subst (All (IsOpen new.slots.items)) (sym jobs) (λ k d there. open_follow table.slots.items new.slots.items (get_or table.jobs.items k d) (follow_put new held slots) (out.sound.open_jobs k d there)))
      (ap length jobs) (λ k d there. ap (λ (l : List Job). (get_or l k d).number) jobs) next
      (λ slot there away. settled_put new held slots none slot there away (cases_eq slot (first_slot job)))

pub coming_from : (held : Held) (draft : Draft) → Some draft ≡ draft_of held → held ≡ Coming draft
coming_from Nothing draft is = absurd (cc)
coming_from (Coming other) draft is = cc
coming_from Away draft is = absurd (cc)
coming_from (Whole blocks) draft is = absurd (cc)
