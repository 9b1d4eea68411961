-- A new job: an entry more needs a slot, or a new one.
use Rattle.std.proofs.Common.{◌≡◌, ◌⊎◌, ℕ, ◌+◌, ◌-◌, ◌<◌, ◌≤◌, ◌==◌, ◌&&◌, not, min, Bool, true, false, cond, nat_lt, List, [], ◌∷◌, ◌++◌, length, get_or, take, set, refl, sym, ◌∙◌, ap, subst, arith, inl, inr}
use Rattle.std.specs.List.{count_by}
use Rattle.std.proofs.lemmas.Bool.{and_left, and_parts, and_right, cases_Bool, cases_eq, cases_order, eq-eqb, ne_eqb, cond-false, cond-true, eqb-true, lt-ltb, ltb-false, ltb-true, not-true}
use Rattle.std.proofs.lemmas.List.{get_or_append_left, get_or-append_right, get_or_past, length-append, length-set}
use Rattle.std.proofs.lemmas.List.Elements.{All-push}
use Rattle.std.proofs.lemmas.List.Sums.{get_or-le-sum_by, sum_by_more, sum_by_push}
use Rattle.file_store.specs.Stores.{SameRange, draft_blocks, free_of, draft_size}
use Rattle.file_store.specs.declared.draft.Draft.{Draft}
use Rattle.file_store.specs.declared.store.FileStore.{FileStore}
use Rattle.jobs.specs.Balance.{Balanced, in_slots, kept_as, needed_as, held_as, one_below, times}
use Rattle.jobs.specs.NewJobs.{Refers, more, slot_for}
use Rattle.jobs.specs.Slots.{IsFit, IsSame, held_blocks, has_blocks, is_for, is_fresh, is_used, no_slot, slot_at}
use Rattle.manifests.specs.declared.facts.FileEntry.{FileEntry}
use Rattle.machine.specs.Views.{ContentKey, content_key, same_key}
use Rattle.jobs.specs.declared.held.Held.{Held}
use Rattle.jobs.specs.declared.held.Held.TheVariants.{Nothing, Coming}
use Rattle.jobs.specs.declared.held.Slot.{Slot}
use Rattle.jobs.specs.Kept.{Kept}
use Rattle.jobs.proofs.BalancedSlots.{holds_as, needs_as, needs_most, turn}
use Rattle.jobs.proofs.Counts.{times-append, times-nil}
use Rattle.jobs.proofs.Keys.{one_key}
use Rattle.jobs.proofs.LetGoAll.{slot_at_set, slot_at_other}

pub needed_more : (key : ContentKey) (slots : List Slot) (i : ℕ) (d : Slot) → i < length slots → (is_for key (get_or slots i d) && is_used (get_or slots i d)) ≡ false → needed_as key (take i slots) ≡ 0 → needed_as key (take (i + 1) slots) ≡ 0
unfolding needed_as
needed_more key slots i d low other none =
    let one : needs_as key (get_or slots i d) ≡ 0 = cond-false (is_for key (get_or slots i d) && is_used (get_or slots i d)) 1 0 other in
    omega (arith, sum_by_more (needs_as key) slots i d low, one, none)

pub needed_none : (key : ContentKey) → needed_as key [] ≡ 0
unfolding needed_as
needed_none key = refl

-- an entry more needs a slot
pub joined : (tables : Kept) (slots : List Slot) (at : ℕ) (store : FileStore) → at < length slots → 0 < (slot_at slots at).users → (slot_at slots at).local ≡ false → Balanced tables slots [] store
    → Balanced tables (set slots at (more (slot_at slots at))) [] store
joined tables slots at store low some for_all balanced =
    turn tables tables slots at (more (slot_at slots at)) [] [] store store low
    record {
      blocks = λ block. refl;
      count = refl;
      number = refl;
      content = λ key n l n' l' one few within within' held needed. (omega (arith, same_holds key, same_needs key), omega (arith, same_needs key));
      fit = record {
        idle = λ none. absurd (omega arith);
        local = λ is. absurd (let other = for_all in cc);
        size = (balanced.fit at no_slot low).size;
      };
    }
    balanced
  where
    used : is_used (more (slot_at slots at)) ≡ is_used (slot_at slots at)
    used = lt-ltb 0 ((slot_at slots at).users + 1) (omega arith) ∙ sym (lt-ltb 0 (slot_at slots at).users some)

    same_needs : (key : ContentKey) → needs_as key (more (slot_at slots at)) ≡ needs_as key (slot_at slots at)
    same_needs key = ap (λ (b : Bool). cond (is_for key (slot_at slots at) && b) 1 0) used

    same_holds : (key : ContentKey) → holds_as key (more (slot_at slots at)) ≡ holds_as key (slot_at slots at)
    same_holds key = ap (λ (b : Bool). cond ((is_for key (slot_at slots at) && b) && has_blocks (slot_at slots at).held) 1 0) used

module _ (slots : List Slot) (s : Slot) where
  pub in_slots_push : (measure : List ℕ → ℕ) → in_slots measure (slots ++ s ∷ []) ≡ in_slots measure slots + measure (held_blocks s.held)
  unfolding in_slots
  in_slots_push measure = sum_by_push (λ (x : Slot). measure (held_blocks x.held)) slots s

  pub needed_push : (key : ContentKey) → needed_as key (slots ++ s ∷ []) ≡ needed_as key slots + needs_as key s
  unfolding needed_as
  needed_push key = sum_by_push (needs_as key) slots s

  pub held_push : (key : ContentKey) → held_as key (slots ++ s ∷ []) ≡ held_as key slots + holds_as key s
  unfolding held_as
  held_push key = sum_by_push (holds_as key) slots s

-- a new slot counts for its own content alone
pub own_needs : (key : ContentKey) (entry : FileEntry) (held : Held) → (needs_as key (slot_for entry held) ≡ 0) ⊎ ((key ≡ (content_key entry)) × (entry.local ≡ false))
own_needs key entry held = by (cases_Bool (not entry.local && same_key key (content_key entry)))
  where
    by : ((not entry.local && same_key key (content_key entry)) ≡ true) ⊎ ((not entry.local && same_key key (content_key entry)) ≡ false) → (needs_as key (slot_for entry held) ≡ 0) ⊎ ((key ≡ (content_key entry)) × (entry.local ≡ false))
    by (inl is) = let both = and_parts (not entry.local) (same_key key (content_key entry)) is in inr (one_key key (content_key entry) both.1, not-true entry.local both.0)
    by (inr other) = inl (cond-false ((not entry.local && same_key key (content_key entry)) && true) 1 0 (and_left (not entry.local && same_key key (content_key entry)) true other))

pub listed_new : (tables : Kept) (slots : List Slot) (entry : FileEntry) (draft : Draft) (store later : FileStore) → (entry.local ≡ false → (needed_as (content_key entry) slots ≡ 0) × (kept_as (content_key entry) tables ≡ 0))
    → Balanced tables slots [] store → free_of store ≡ draft_blocks draft ++ free_of later → SameRange store later → draft_size draft ≡ (content_key entry).size
    → Balanced tables (slots ++ slot_for entry (Coming draft) ∷ []) [] later
listed_new tables slots entry draft store later new balanced freed same size = record {
  blocks = λ block. omega (arith, balanced.blocks block, in_slots_push slots s (times block), moved (times block) (times-append block), ap (λ (n : ℕ). one_below n block) same.number);
  count = omega (arith, balanced.count, in_slots_push slots s length, moved length (λ xs ys. length-append xs ys), same.number);
  content = λ key. omega (arith, (both key (own_needs key entry (Coming draft))).0, held_push slots s key, needed_push slots s key);
  single = λ key. omega (arith, (both key (own_needs key entry (Coming draft))).1, needed_push slots s key);
  fit = All-push IsFit slots s balanced.fit record { idle = λ none. absurd (omega arith); local = λ is. refl; size = size };
}
  where
    s : Slot
    s = slot_for entry (Coming draft)

    moved : (measure : List ℕ → ℕ) → ((xs ys : List ℕ) → measure (xs ++ ys) ≡ measure xs + measure ys) → measure (free_of store) ≡ measure (draft_blocks draft) + measure (free_of later)
    moved measure adds = ap measure freed ∙ adds (draft_blocks draft) (free_of later)

    holds : (key : ContentKey) → holds_as key (slot_for entry (Coming draft)) ≡ needs_as key (slot_for entry (Coming draft))
    holds key = by (is_for key (slot_for entry (Coming draft)) && is_used (slot_for entry (Coming draft)))
      where
        by : (b : Bool) → cond {A = ℕ} (b && true) 1 0 ≡ cond b 1 0
        by true = refl
        by false = refl

    both : (key : ContentKey) → (needs_as key (slot_for entry (Coming draft)) ≡ 0) ⊎ ((key ≡ (content_key entry)) × (entry.local ≡ false))
        → (kept_as key tables + (held_as key slots + holds_as key (slot_for entry (Coming draft))) ≡ min 1 (kept_as key tables + (needed_as key slots + needs_as key (slot_for entry (Coming draft)))))
        × (needed_as key slots + needs_as key (slot_for entry (Coming draft)) ≤ 1)
    both key (inl none) = (omega (arith, none, holds key, balanced.content key), omega (arith, none, balanced.single key))
    both key (inr is) =
        let none = new is.1 in
        let no_need : needed_as key slots ≡ 0 = ap (λ (k : ContentKey). needed_as k slots) is.0 ∙ none.0 in
        let no_kept : kept_as key tables ≡ 0 = ap (λ (k : ContentKey). kept_as k tables) is.0 ∙ none.1 in
        (omega (arith, no_need, no_kept, holds key, balanced.content key, needs_most key (slot_for entry (Coming draft))), omega (arith, no_need, needs_most key (slot_for entry (Coming draft))))

pub listed_kept : (tables : Kept) (slots : List Slot) (entry : FileEntry) (store : FileStore) → entry.local ≡ false → needed_as (content_key entry) slots ≡ 0 → 0 < kept_as (content_key entry) tables
    → Balanced tables slots [] store → Balanced tables (slots ++ slot_for entry Nothing ∷ []) [] store
listed_kept tables slots entry store program new kept balanced = record {
  blocks = λ block. omega (arith, balanced.blocks block, in_slots_push slots s (times block), times-nil block);
  count = omega (arith, balanced.count, in_slots_push slots s length);
  content = λ key. omega (arith, (both key (own_needs key entry Nothing)).0, held_push slots s key, needed_push slots s key);
  single = λ key. omega (arith, (both key (own_needs key entry Nothing)).1, needed_push slots s key);
  fit = All-push IsFit slots s balanced.fit record { idle = λ none. absurd (omega arith); local = λ is. absurd (let other = program in cc); size = tt };
}
  where
    s : Slot
    s = slot_for entry Nothing

    holds : (key : ContentKey) → holds_as key (slot_for entry Nothing) ≡ 0
    holds key = cond-false ((is_for key (slot_for entry Nothing) && is_used (slot_for entry Nothing)) && false) 1 0 (and_right (is_for key (slot_for entry Nothing) && is_used (slot_for entry Nothing)) false refl)

    both : (key : ContentKey) → (needs_as key (slot_for entry Nothing) ≡ 0) ⊎ ((key ≡ (content_key entry)) × (entry.local ≡ false))
        → (kept_as key tables + (held_as key slots + holds_as key (slot_for entry Nothing)) ≡ min 1 (kept_as key tables + (needed_as key slots + needs_as key (slot_for entry Nothing))))
        × (needed_as key slots + needs_as key (slot_for entry Nothing) ≤ 1)
    both key (inl none) = (omega (arith, none, holds key, balanced.content key), omega (arith, none, balanced.single key))
    both key (inr is) =
        let no_need : needed_as key slots ≡ 0 = ap (λ (k : ContentKey). needed_as k slots) is.0 ∙ new in
        let some : kept_as key tables ≡ kept_as (content_key entry) tables = ap (λ (k : ContentKey). kept_as k tables) is.0 in
        (omega (arith, no_need, some, kept, holds key, balanced.content key, needs_most key (slot_for entry Nothing)), omega (arith, no_need, needs_most key (slot_for entry Nothing)))

pub kept_where : (tables : Kept) (entry : FileEntry) → (not entry.local && nat_lt 0 (kept_as (content_key entry) tables)) ≡ true → (entry.local ≡ false) × (0 < kept_as (content_key entry) tables)
kept_where tables entry is = let both = and_parts (not entry.local) (nat_lt 0 (kept_as (content_key entry) tables)) is in (not-true entry.local both.0, ltb-true 0 (kept_as (content_key entry) tables) both.1)

pub not_kept : (tables : Kept) (entry : FileEntry) → (not entry.local && nat_lt 0 (kept_as (content_key entry) tables)) ≡ false → entry.local ≡ false → kept_as (content_key entry) tables ≡ 0
not_kept tables entry is program =
    let other : nat_lt 0 (kept_as (content_key entry) tables) ≡ false = sym (ap (λ (b : Bool). not b && nat_lt 0 (kept_as (content_key entry) tables)) program) ∙ is in
    let none = ltb-false 0 (kept_as (content_key entry) tables) other in
    omega arith

times_this : (at k : ℕ) → at ≡ k → times k (at ∷ []) ≡ 1
unfolding times
times_this at k is = ap (λ (b : Bool). 0 + cond b 1 0) (eq-eqb at k is)

times_other : (at k : ℕ) → (at ≡ k → ⊥) → times k (at ∷ []) ≡ 0
unfolding times
times_other at k other = ap (λ (b : Bool). 0 + cond b 1 0) (ne_eqb at k other)

pub is_same : (s : Slot) → IsSame s s
is_same s = record { key = refl; local = refl; held = refl }

-- by one more user
pub refers_joined : (slots : List Slot) (entry : FileEntry) (at : ℕ) → at < length slots → entry.local ≡ false → (not (slot_at slots at).local && same_key (content_key entry) (slot_at slots at).key) ≡ true → Refers slots (set slots at (more (slot_at slots at))) entry at
refers_joined slots entry at low program is = record {
  within = omega (arith, length-set slots at (more (slot_at slots at)));
  key = ap (λ (s : Slot). s.key) (slot_at_set slots at (more (slot_at slots at)) low) ∙ sym (one_key (content_key entry) (slot_at slots at).key both.1);
  local = ap (λ (s : Slot). s.local) (slot_at_set slots at (more (slot_at slots at)) low) ∙ not-true (slot_at slots at).local both.0 ∙ sym program;
  users = λ k. users k (cases_eq at k);
  longer = omega (arith, length-set slots at (more (slot_at slots at)));
  same = λ k there. same k (cases_eq k at);
  fresh = λ k past. ap (λ (s : Slot). is_fresh s.held) (get_or_past (set slots at (more (slot_at slots at))) k no_slot (omega (arith, length-set slots at (more (slot_at slots at)))));
}
  where
    both : (not (slot_at slots at).local ≡ true) × (same_key (content_key entry) (slot_at slots at).key ≡ true)
    both = and_parts (not (slot_at slots at).local) (same_key (content_key entry) (slot_at slots at).key) is

    users : (k : ℕ) → (at ≡ k) ⊎ (at ≡ k → ⊥) → (slot_at (set slots at (more (slot_at slots at))) k).users ≡ (slot_at slots k).users + times k (at ∷ [])
    users k (inl this) =
        let here : (slot_at (set slots at (more (slot_at slots at))) k).users ≡ (slot_at slots at).users + 1 = ap (λ (n : ℕ). (slot_at (set slots at (more (slot_at slots at))) n).users) (sym this) ∙ ap (λ (s : Slot). s.users) (slot_at_set slots at (more (slot_at slots at)) low) in
        let there : (slot_at slots at).users ≡ (slot_at slots k).users = ap (λ (n : ℕ). (slot_at slots n).users) this in
        omega (arith, here, there, times_this at k this)
    users k (inr other) =
        let here : (slot_at (set slots at (more (slot_at slots at))) k).users ≡ (slot_at slots k).users = ap (λ (s : Slot). s.users) (slot_at_other slots at k (more (slot_at slots at)) (λ is. other (sym is))) in
        omega (arith, here, times_other at k other)

    same : (k : ℕ) → (k ≡ at) ⊎ (k ≡ at → ⊥) → IsSame (slot_at slots k) (slot_at (set slots at (more (slot_at slots at))) k)
    same k (inl this) =
        subst (λ (n : ℕ). IsSame (slot_at slots n) (slot_at (set slots at (more (slot_at slots at))) n)) (sym this)
        (subst (IsSame (slot_at slots at)) (sym (slot_at_set slots at (more (slot_at slots at)) low)) (record { key = refl; local = refl; held = refl }))
    same k (inr other) = subst (IsSame (slot_at slots k)) (sym (slot_at_other slots at k (more (slot_at slots at)) other)) (is_same (slot_at slots k))

-- by a new slot
pub refers_listed : (slots : List Slot) (entry : FileEntry) (held : Held) → is_fresh held ≡ true → Refers slots (slots ++ slot_for entry held ∷ []) entry (length slots)
refers_listed slots entry held here = record {
  within = omega (arith, length-append slots (slot_for entry held ∷ []));
  key = ap (λ (s : Slot). s.key) last;
  local = ap (λ (s : Slot). s.local) last;
  users = λ k. users k (cases_order (length slots) k);
  longer = omega (arith, length-append slots (slot_for entry held ∷ []));
  same = λ k there. subst (IsSame (slot_at slots k)) (sym (get_or_append_left slots (slot_for entry held ∷ []) no_slot k there)) (is_same (slot_at slots k));
  fresh = λ k past. fresh k (cases_order (length slots) k) past;
}
  where
    last : slot_at (slots ++ slot_for entry held ∷ []) (length slots) ≡ slot_for entry held
    last = get_or-append_right slots (slot_for entry held ∷ []) (length slots) (length slots) no_slot refl (omega arith) ∙ ap (λ (n : ℕ). get_or (slot_for entry held ∷ []) n no_slot) zero_left
      where
        zero_left : length slots - length slots ≡ 0
        zero_left = omega arith

    fresh : (k : ℕ) → (length slots ≡ k) ⊎ ((length slots < k) ⊎ (k < length slots)) → length slots ≤ k → is_fresh (slot_at (slots ++ slot_for entry held ∷ []) k).held ≡ true
    fresh k (inl this) past = ap (λ (n : ℕ). is_fresh (slot_at (slots ++ slot_for entry held ∷ []) n).held) (sym this) ∙ ap (λ (s : Slot). is_fresh s.held) last ∙ here
    fresh k (inr (inl above)) past = ap (λ (s : Slot). is_fresh s.held) (get_or_past (slots ++ slot_for entry held ∷ []) k no_slot (omega (arith, length-append slots (slot_for entry held ∷ []))))
    fresh k (inr (inr below)) past = absurd (omega arith)

    users : (k : ℕ) → (length slots ≡ k) ⊎ ((length slots < k) ⊎ (k < length slots)) → (slot_at (slots ++ slot_for entry held ∷ []) k).users ≡ (slot_at slots k).users + times k (length slots ∷ [])
    users k (inl this) =
        let here : (slot_at (slots ++ slot_for entry held ∷ []) k).users ≡ 1 = ap (λ (n : ℕ). (slot_at (slots ++ slot_for entry held ∷ []) n).users) (sym this) ∙ ap (λ (s : Slot). s.users) last in
        let none : (slot_at slots k).users ≡ 0 = ap (λ (s : Slot). s.users) (get_or_past slots k no_slot (omega arith)) in
        omega (arith, here, none, times_this (length slots) k this)
    users k (inr (inl above)) =
        let here : (slot_at (slots ++ slot_for entry held ∷ []) k).users ≡ 0 = ap (λ (s : Slot). s.users) (get_or_past (slots ++ slot_for entry held ∷ []) k no_slot (omega (arith, length-append slots (slot_for entry held ∷ [])))) in
        let none : (slot_at slots k).users ≡ 0 = ap (λ (s : Slot). s.users) (get_or_past slots k no_slot (omega arith)) in
        omega (arith, here, none, times_other (length slots) k (λ is. omega arith))
    users k (inr (inr below)) =
        let here : (slot_at (slots ++ slot_for entry held ∷ []) k).users ≡ (slot_at slots k).users = ap (λ (s : Slot). s.users) (get_or_append_left slots (slot_for entry held ∷ []) no_slot k below) in
        omega (arith, here, times_other (length slots) k (λ is. omega arith))
