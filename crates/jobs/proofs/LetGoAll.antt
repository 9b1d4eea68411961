-- Entries less need their slots, one after the other.
use Rattle.std.proofs.Common.{◌≡◌, ◌⊎◌, ℕ, ◌+◌, ◌-◌, ◌<◌, ◌≤◌, ◌==◌, cond, Bool, List, length, get_or, take, set, refl, sym, ◌∙◌, ap, subst, arith, inl, inr}
use Rattle.std.proofs.lemmas.Bool.{cases_eq, eq-eqb, ne_eqb}
use Rattle.std.proofs.lemmas.List.{get_or-set_same, get_or-set_other, length-set}
use Rattle.std.proofs.lemmas.List.Sums.{sum_by_more, sum_by-take-le}
use Rattle.jobs.specs.Balance.{times}
use Rattle.jobs.specs.Slots.{KeepNeeded, Keeps, KeepUsed, less, no_slot, slot_at}
use Rattle.jobs.specs.declared.held.Slot.{Slot}
use Rattle.jobs.proofs.LetGo.{more_held}

pub times_take_same : (needs : List ℕ) (k d at : ℕ) → k < length needs → get_or needs k d ≡ at → times at (take (k + 1) needs) ≡ times at (take k needs) + 1
unfolding times
times_take_same needs k d at low is = sum_by_more (λ b. cond (b == at) 1 0) needs k d low ∙ ap (λ (b : Bool). times at (take k needs) + cond b 1 0) (eq-eqb (get_or needs k d) at is)

pub times_take_other : (needs : List ℕ) (k d at : ℕ) → k < length needs → (get_or needs k d ≡ at → ⊥) → times at (take (k + 1) needs) ≡ times at (take k needs) + 0
unfolding times
times_take_other needs k d at low other = sum_by_more (λ b. cond (b == at) 1 0) needs k d low ∙ ap (λ (b : Bool). times at (take k needs) + cond b 1 0) (ne_eqb (get_or needs k d) at other)

pub times-take-le : (needs : List ℕ) (k at : ℕ) → times at (take k needs) ≤ times at needs
unfolding times
times-take-le needs k at = sum_by-take-le (λ b. cond (b == at) 1 0) needs k

pub slot_at_set : (slots : List Slot) (i : ℕ) (s : Slot) → i < length slots → slot_at (set slots i s) i ≡ s
slot_at_set slots i s low = get_or-set_same slots i s no_slot low

pub slot_at_other : (slots : List Slot) (i at : ℕ) (s : Slot) → (at ≡ i → ⊥) → slot_at (set slots i s) at ≡ slot_at slots at
slot_at_other slots i at s other = get_or-set_other slots i at s no_slot other

pub keeps_same : (s : Slot) → Keeps s s
keeps_same s = record { key = refl; local = refl; users = omega arith; held = λ some. refl }

pub keeps_less : (s : Slot) → 0 < s.users → Keeps s (less s)
keeps_less s some = record {
  key = refl;
  local = refl;
  users = omega arith;
  held = λ left. more_held s some (λ last. absurd (omega arith));
}

pub keeps_on : (a b c : Slot) → Keeps a b → Keeps b c → Keeps a c
keeps_on a b c one two = record {
  key = two.key ∙ one.key;
  local = two.local ∙ one.local;
  users = omega arith;
  held = λ some. two.held some ∙ one.held (omega arith);
}

pub keep_none : (slots : List Slot) → KeepUsed slots slots
keep_none slots = record { count = refl; each = λ at low. keeps_same (slot_at slots at) }

module _ (first slots : List Slot) (needs : List ℕ) (k d : ℕ) (low : k < length needs) (within : get_or needs k d < length slots) (some : 0 < (slot_at slots (get_or needs k d)).users) where
  need : ℕ
  need = get_or needs k d

  after : List Slot
  after = set slots (get_or needs k d) (less (slot_at slots (get_or needs k d)))

  pub keep_more : KeepUsed first slots → KeepUsed first (set slots (get_or needs k d) (less (slot_at slots (get_or needs k d))))
  keep_more kept = record {
    count = length-set slots (get_or needs k d) (less (slot_at slots (get_or needs k d))) ∙ kept.count;
    each = λ at there. keeps_on (slot_at first at) (slot_at slots at) (slot_at (set slots (get_or needs k d) (less (slot_at slots (get_or needs k d)))) at) (kept.each at there) (step at (cases_eq at (get_or needs k d)));
  }
    where
      step : (at : ℕ) → (at ≡ get_or needs k d) ⊎ (at ≡ get_or needs k d → ⊥) → Keeps (slot_at slots at) (slot_at (set slots (get_or needs k d) (less (slot_at slots (get_or needs k d)))) at)
      step at (inl is) =
          subst (λ (n : ℕ). Keeps (slot_at slots n) (slot_at (set slots (get_or needs k d) (less (slot_at slots (get_or needs k d)))) n)) (sym is)
          (subst (Keeps (slot_at slots (get_or needs k d))) (sym (slot_at_set slots (get_or needs k d) (less (slot_at slots (get_or needs k d))) within)) (keeps_less (slot_at slots (get_or needs k d)) some))
      step at (inr other) = subst (Keeps (slot_at slots at)) (sym (slot_at_other slots (get_or needs k d) at (less (slot_at slots (get_or needs k d))) other)) (keeps_same (slot_at slots at))

  pub users_more : (at : ℕ) → (slot_at slots at).users + times at (take k needs) ≡ (slot_at first at).users
      → (slot_at (set slots (get_or needs k d) (less (slot_at slots (get_or needs k d)))) at).users + times at (take (k + 1) needs) ≡ (slot_at first at).users
  users_more at before = by (cases_eq (get_or needs k d) at)
    where
      by : (get_or needs k d ≡ at) ⊎ (get_or needs k d ≡ at → ⊥) → (slot_at (set slots (get_or needs k d) (less (slot_at slots (get_or needs k d)))) at).users + times at (take (k + 1) needs) ≡ (slot_at first at).users
      by (inl is) =
          let users : (slot_at (set slots (get_or needs k d) (less (slot_at slots (get_or needs k d)))) at).users ≡ (slot_at slots (get_or needs k d)).users - 1 =
          ap (λ (n : ℕ). (slot_at (set slots (get_or needs k d) (less (slot_at slots (get_or needs k d)))) n).users) (sym is) ∙ ap (λ (s : Slot). s.users) (slot_at_set slots (get_or needs k d) (less (slot_at slots (get_or needs k d))) within) in
          let there : (slot_at slots (get_or needs k d)).users ≡ (slot_at slots at).users = ap (λ (n : ℕ). (slot_at slots n).users) is in
          omega (arith, times_take_same needs k d at low is, before, users, there)
      by (inr other) =
          let users : (slot_at (set slots (get_or needs k d) (less (slot_at slots (get_or needs k d)))) at).users ≡ (slot_at slots at).users =
          ap (λ (s : Slot). s.users) (slot_at_other slots (get_or needs k d) at (less (slot_at slots (get_or needs k d))) (λ same. other (sym same))) in
          omega (arith, times_take_other needs k d at low other, before, users)

-- there is an entry less to be taken
pub some_left : (first slots : List Slot) (needs : List ℕ) (k d : ℕ) → k < length needs → times (get_or needs k d) needs ≤ (slot_at first (get_or needs k d)).users
    → (slot_at slots (get_or needs k d)).users + times (get_or needs k d) (take k needs) ≡ (slot_at first (get_or needs k d)).users → 0 < (slot_at slots (get_or needs k d)).users
some_left first slots needs k d low counted users =
    omega (arith, times_take_same needs k d (get_or needs k d) low refl, times-take-le needs (k + 1) (get_or needs k d))

pub needed_from : (old new : List Slot) → KeepUsed old new → KeepNeeded old new
needed_from old new kept at low some = let keeps = kept.each at low in record { key = keeps.key; local = keeps.local; held = keeps.held some }
