-- An entry less needs a slot.
use Rattle.std.proofs.Common.{◌≡◌, ◌⊎◌, ℕ, ◌+◌, ◌-◌, ◌<◌, ◌≤◌, ◌==◌, ◌&&◌, min, Bool, true, false, cond, List, [], ◌++◌, length, set, if◌then◌else◌, refl, sym, ◌∙◌, ap, subst, arith, inl, inr}
use Rattle.std.proofs.lemmas.Bool.{and_right, cond-false, cases_eq, eq-eqb, ne_eqb, le-ltb, lt-ltb}
use Rattle.std.proofs.lemmas.List.{length-append}
use Rattle.file_store.specs.Stores.{AreUsed, SameRange, free_of}
use Rattle.file_store.specs.declared.store.FileStore.{FileStore}
use Rattle.jobs.specs.Balance.{Balanced, kept_as, times}
use Rattle.jobs.specs.Slots.{held_blocks, has_blocks, HasSize, is_for, is_used, slot_at, less, freed_by, IsFit}
use Rattle.machine.specs.Views.{ContentKey}
use Rattle.jobs.specs.declared.held.Held.{Held}
use Rattle.jobs.specs.declared.held.Held.TheVariants.{Nothing}
use Rattle.jobs.specs.declared.held.Slot.{Slot}
use Rattle.jobs.specs.Kept.{Kept}
use Rattle.jobs.proofs.BalancedSlots.{turn, slot_within, used_from_times, needs_as, holds_as, holds_le}
use Rattle.jobs.proofs.Counts.{times-append, times-nil}

-- a slot that nobody needs counts for no content
pub idle_needs : (key : ContentKey) (s : Slot) → s.users ≡ 0 → needs_as key s ≡ 0
idle_needs key s none = cond-false (is_for key s && is_used s) 1 0 (and_right (is_for key s) (is_used s) (le-ltb 0 s.users (omega arith)))

pub idle_holds : (key : ContentKey) (s : Slot) → s.users ≡ 0 → holds_as key s ≡ 0
idle_holds key s none = omega (arith, holds_le key s, idle_needs key s none)

module _ (s : Slot) (some : 0 < s.users) where
  pub let_split : (measure : List ℕ → ℕ) → measure [] ≡ 0 → measure (held_blocks (less s).held) + measure (held_blocks (freed_by s)) ≡ measure (held_blocks s.held)
  let_split measure none = by (s.users == 1)
    where
      by : (b : Bool) → measure (held_blocks (if b then Nothing else s.held)) + measure (held_blocks (if b then s.held else Nothing)) ≡ measure (held_blocks s.held)
      by true = omega (arith, none)
      by false = omega (arith, none)

  pub last_held : s.users ≡ 1 → (less s).held ≡ Nothing
  last_held last = ap (λ (b : Bool). if b then Nothing else s.held) (eq-eqb s.users 1 last)

  pub more_held : (s.users ≡ 1 → ⊥) → (less s).held ≡ s.held
  more_held more = ap (λ (b : Bool). if b then Nothing else s.held) (ne_eqb s.users 1 more)

  same_use : (s.users ≡ 1 → ⊥) → is_used (less s) ≡ is_used s
  same_use more = lt-ltb 0 (s.users - 1) (omega arith) ∙ sym (lt-ltb 0 s.users some)

  same_needs : (s.users ≡ 1 → ⊥) → (key : ContentKey) → needs_as key (less s) ≡ needs_as key s
  same_needs more key = ap (λ (b : Bool). cond (is_for key s && b) 1 0) (same_use more)

  same_holds : (s.users ≡ 1 → ⊥) → (key : ContentKey) → holds_as key (less s) ≡ holds_as key s
  same_holds more key =
      ap (λ (b : Bool). cond ((is_for key s && b) && has_blocks (less s).held) 1 0) (same_use more)
      ∙ ap (λ (h : Held). cond ((is_for key s && is_used s) && has_blocks h) 1 0) (more_held more)

  pub less_fit : IsFit s → IsFit (less s)
  less_fit fit = by (cases_eq s.users 1)
    where
      by : (s.users ≡ 1) ⊎ (s.users ≡ 1 → ⊥) → IsFit (less s)
      by (inl last) = record {
        idle = λ none. last_held last;
        local = λ is. let none : (if has_blocks (less s).held then 1 else 0) ≡ 0 = ap {B = ℕ} (λ (h : Held). if has_blocks h then 1 else 0) (last_held last) in omega arith;
        size = subst (HasSize s.key.size) (sym (last_held last)) tt;
      }
      by (inr more) = record {
        idle = λ none. absurd (omega arith);
        local = λ is. absurd (one (has_blocks s.held) (fit.local is) more);
        size = subst (HasSize s.key.size) (sym (more_held more)) fit.size;
      }
        where
          one : (b : Bool) → s.users ≡ (if b then 1 else 0) → (s.users ≡ 1 → ⊥) → ⊥
          one true is more = more is
          one false is more = omega arith

  pub let_content : (key : ContentKey) (t n l n' l' : ℕ) → t + n ≡ min 1 (t + l) → l ≤ 1 → n ≤ l → n' ≤ l'
      → n' + holds_as key s ≡ n + holds_as key (less s) → l' + needs_as key s ≡ l + needs_as key (less s)
      → (t + n' ≡ min 1 (t + l')) × (l' ≤ 1)
  let_content key t n l n' l' one few within within' held needed = by (cases_eq s.users 1)
    where
      by : (s.users ≡ 1) ⊎ (s.users ≡ 1 → ⊥) → (t + n' ≡ min 1 (t + l')) × (l' ≤ 1)
      by (inl last) =
          let none_needs = idle_needs key (less s) (omega arith) in
          let none_holds = idle_holds key (less s) (omega arith) in
          let some_le = holds_le key s in
          (omega arith, omega arith)
      by (inr more) =
          let needs = same_needs more key in
          let holds = same_holds more key in
          (omega arith, omega arith)

pub let_gone : (tables : Kept) (slots : List Slot) (at : ℕ) (held : Held) (hands : List ℕ) (store later : FileStore) → at < length slots → 0 < (slot_at slots at).users
    → Balanced tables slots hands store → held ≡ freed_by (slot_at slots at)
    → free_of later ≡ held_blocks held ++ free_of store → SameRange store later → Balanced tables (set slots at (less (slot_at slots at))) hands later
let_gone tables slots at held hands store later low some balanced is freed same =
    turn tables tables slots at (less (slot_at slots at)) hands hands store later low
    record {
      blocks = λ block. let split = let_split (slot_at slots at) some (times block) (times-nil block) in let moved = free (times block) (times-append block) in omega arith;
      count = let split = let_split (slot_at slots at) some length refl in let moved = free length (λ xs ys. length-append xs ys) in omega arith;
      number = same.number;
      content = λ key n l n' l'. let_content (slot_at slots at) some key (kept_as key tables) n l n' l';
      fit = less_fit (slot_at slots at) some (balanced.fit at _ low);
    }
    balanced
  where
    free : (measure : List ℕ → ℕ) → ((xs ys : List ℕ) → measure (xs ++ ys) ≡ measure xs + measure ys) → measure (free_of later) ≡ measure (held_blocks (freed_by (slot_at slots at))) + measure (free_of store)
    free measure adds = ap measure freed ∙ adds (held_blocks held) (free_of store) ∙ ap (λ (h : Held). measure (held_blocks h) + measure (free_of store)) is

-- what is let go is used
pub let_used : (tables : Kept) (slots : List Slot) (at : ℕ) (held : Held) (hands : List ℕ) (store : FileStore) → at < length slots → 0 < (slot_at slots at).users
    → Balanced tables slots hands store → held ≡ freed_by (slot_at slots at) → AreUsed store (held_blocks held)
let_used tables slots at held hands store low some balanced is =
    subst (λ (h : Held). AreUsed store (held_blocks h)) (sym is)
    (used_from_times store (held_blocks (freed_by (slot_at slots at)))
    (λ block. omega (arith, balanced.blocks block, slot_within slots at low (times block), let_split (slot_at slots at) some (times block) (times-nil block))))
