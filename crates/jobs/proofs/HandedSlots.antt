-- A job's files become the tables'.
use Rattle.std.proofs.Common.{◌≡◌, ◌⊎◌, ℕ, ◌+◌, ◌-◌, ◌<◌, ◌≤◌, ◌&&◌, not, min, true, false, Bool, cond, List, [], length, get_or, take, set, if◌then◌else◌, refl, sym, ◌∙◌, ap, subst, arith, inl, inr, All}
use Rattle.std.specs.List.{sum_by}
use Rattle.std.proofs.lemmas.Bool.{and_left, and_right, cases_Bool, cases_eq, cases_lt, cond-false, lt-ltb}
use Rattle.std.proofs.Math.Seq.{take-length}
use Rattle.std.proofs.lemmas.List.{length-set}
use Rattle.std.proofs.lemmas.List.Sums.{sum_by_more}
use Rattle.file_store.specs.declared.store.FileStore.{FileStore}
use Rattle.machine.specs.Views.{ContentKey, same_key}
use Rattle.jobs.specs.Balance.{Balanced, kept_as, times}
use Rattle.jobs.specs.HandOver.{Receives, gained}
use Rattle.jobs.specs.Kept.{Kept}
use Rattle.jobs.specs.Slots.{IsFit, KeepFiles, KeepNeeded, KeepsFile, handed, no_slot, has_blocks, held_blocks, is_for, is_used, slot_at}
use Rattle.jobs.specs.declared.held.Held.{Held}
use Rattle.jobs.specs.declared.held.Held.TheVariants.{Nothing}
use Rattle.jobs.specs.declared.held.Slot.{Slot}
use Rattle.jobs.proofs.BalancedSlots.{holds_as, needs_as, turn}
use Rattle.jobs.proofs.Counts.{times-nil}
use Rattle.jobs.proofs.LetGo.{idle_needs}
use Rattle.jobs.proofs.BareStore.{some_place}
use Rattle.jobs.proofs.LetGoAll.{slot_at_set, slot_at_other, times-take-le, times_take_same, times_take_other}

handed_holds : (key : ContentKey) (s : Slot) → holds_as key (handed s) ≡ 0
handed_holds key s = cond-false ((is_for key s && is_used (handed s)) && false) 1 0 (and_right (is_for key s && is_used (handed s)) false refl)

handed_needs : (key : ContentKey) (s : Slot) → 0 < s.users → (s.users ≡ 1 → ⊥) → needs_as key (handed s) ≡ needs_as key s
handed_needs key s some more = ap (λ (b : Bool). cond (is_for key s && b) 1 0) (lt-ltb 0 (s.users - 1) (omega arith) ∙ sym (lt-ltb 0 s.users some))

handed_fit : (s : Slot) → IsFit s → IsFit (handed s)
handed_fit s fit = record {
  idle = λ none. refl;
  local = λ is. omega (arith, few (has_blocks s.held) (fit.local is));
  size = tt;
}
  where
    few : (b : Bool) → s.users ≡ (if b then 1 else 0) → s.users ≤ 1
    few true is = omega arith
    few false is = omega arith

-- a slot counts no blocks for a content, where it has none for program files
empty_holds : (key : ContentKey) (s : Slot) → (s.local ≡ false → s.held ≡ Nothing) → holds_as key s ≡ 0
empty_holds key s empty = by (cases_Bool s.local)
  where
    by : (s.local ≡ true) ⊎ (s.local ≡ false) → holds_as key s ≡ 0
    by (inl is) =
        cond-false ((is_for key s && is_used s) && has_blocks s.held) 1 0
        (and_left (is_for key s && is_used s) (has_blocks s.held) (and_left (is_for key s) (is_used s) (and_left (not s.local) (same_key key s.key) (ap not is))))
    by (inr program) =
        cond-false ((is_for key s && is_used s) && has_blocks s.held) 1 0
        (and_right (is_for key s && is_used s) (has_blocks s.held) (ap has_blocks (empty program)))

pub handed_over : (before after : Kept) (slots : List Slot) (at : ℕ) (store : FileStore) → at < length slots → 0 < (slot_at slots at).users → ((slot_at slots at).local ≡ false → (slot_at slots at).held ≡ Nothing)
    → ((block : ℕ) → after.standing block ≡ before.standing block + times block (held_blocks (slot_at slots at).held)) → after.count ≡ before.count + length (held_blocks (slot_at slots at).held)
    → ((key : ContentKey) → kept_as key after ≡ kept_as key before)
    → Balanced before slots [] store → Balanced after (set slots at (handed (slot_at slots at))) [] store
handed_over before after slots at store low some empty standing count has balanced =
    turn before after slots at (handed (slot_at slots at)) [] [] store store low
    record {
      blocks = λ block. omega (arith, standing block, times-nil block);
      count = omega (arith, count);
      number = refl;
      content = λ key n l n' l' one few within within' held needed. content key n l n' l' one few within within' held needed (cases_eq (slot_at slots at).users 1);
      fit = handed_fit (slot_at slots at) (balanced.fit at _ low);
    }
    balanced
  where
    content : (key : ContentKey) (n l n' l' : ℕ) → kept_as key before + n ≡ min 1 (kept_as key before + l) → l ≤ 1 → n ≤ l → n' ≤ l'
        → n' + holds_as key (slot_at slots at) ≡ n + holds_as key (handed (slot_at slots at)) → l' + needs_as key (slot_at slots at) ≡ l + needs_as key (handed (slot_at slots at))
        → ((slot_at slots at).users ≡ 1) ⊎ ((slot_at slots at).users ≡ 1 → ⊥) → (kept_as key after + n' ≡ min 1 (kept_as key after + l')) × (l' ≤ 1)
    content key n l n' l' one few within within' held needed (inl last) =
        let none = handed_holds key (slot_at slots at) in
        let was = empty_holds key (slot_at slots at) empty in
        let idle = idle_needs key (handed (slot_at slots at)) (omega arith) in
        let kept = has key in
        (omega (arith, none, was, idle, kept, one, few, within, within', held, needed), omega (arith, idle, needed, few))
    content key n l n' l' one few within within' held needed (inr more) =
        let none = handed_holds key (slot_at slots at) in
        let was = empty_holds key (slot_at slots at) empty in
        let same = handed_needs key (slot_at slots at) some more in
        let kept = has key in
        (omega (arith, none, was, same, kept, one, few, within, within', held, needed), omega (arith, same, needed, few))

pub file_same : (s : Slot) → KeepsFile s s
file_same s = record { key = refl; local = refl; coming = λ is. is; away = λ is. is }

pub files_none : (slots : List Slot) → KeepFiles slots slots
files_none slots = record { count = refl; each = λ at low. file_same (slot_at slots at) }

pub files_more : (first slots : List Slot) (n : ℕ) → n < length slots → KeepFiles first slots → KeepFiles first (set slots n (handed (slot_at slots n)))
files_more first slots n within files = record {
  count = length-set slots n (handed (slot_at slots n)) ∙ files.count;
  each = λ at there. on (slot_at first at) (slot_at slots at) (slot_at (set slots n (handed (slot_at slots n))) at) (files.each at there) (step at (cases_eq at n));
}
  where
    on : (a b c : Slot) → KeepsFile a b → KeepsFile b c → KeepsFile a c
    on a b c one two = record { key = two.key ∙ one.key; local = two.local ∙ one.local; coming = λ is. one.coming (two.coming is); away = λ is. one.away (two.away is) }

    handed_file : (s : Slot) → KeepsFile s (handed s)
    handed_file s = record { key = refl; local = refl; coming = λ is. absurd (cc); away = λ is. absurd (cc) }

    step : (at : ℕ) → (at ≡ n) ⊎ (at ≡ n → ⊥) → KeepsFile (slot_at slots at) (slot_at (set slots n (handed (slot_at slots n))) at)
    step at (inl is) =
        subst (λ (m : ℕ). KeepsFile (slot_at slots m) (slot_at (set slots n (handed (slot_at slots n))) m)) (sym is)
        (subst (KeepsFile (slot_at slots n)) (sym (slot_at_set slots n (handed (slot_at slots n)) within)) (handed_file (slot_at slots n)))
    step at (inr other) = subst (KeepsFile (slot_at slots at)) (sym (slot_at_other slots n at (handed (slot_at slots n)) other)) (file_same (slot_at slots at))

pub users_handed : (first slots : List Slot) (needs : List ℕ) (k d : ℕ) → k < length needs → get_or needs k d < length slots → 0 < (slot_at slots (get_or needs k d)).users
    → (at : ℕ) → (slot_at slots at).users + times at (take k needs) ≡ (slot_at first at).users
    → (slot_at (set slots (get_or needs k d) (handed (slot_at slots (get_or needs k d)))) at).users + times at (take (k + 1) needs) ≡ (slot_at first at).users
users_handed first slots needs k d low within some at before = by (cases_eq (get_or needs k d) at)
  where
    by : (get_or needs k d ≡ at) ⊎ (get_or needs k d ≡ at → ⊥) → (slot_at (set slots (get_or needs k d) (handed (slot_at slots (get_or needs k d)))) at).users + times at (take (k + 1) needs) ≡ (slot_at first at).users
    by (inl is) =
        let users : (slot_at (set slots (get_or needs k d) (handed (slot_at slots (get_or needs k d)))) at).users ≡ (slot_at slots (get_or needs k d)).users - 1 =
        ap (λ (n : ℕ). (slot_at (set slots (get_or needs k d) (handed (slot_at slots (get_or needs k d)))) n).users) (sym is) ∙ ap (λ (s : Slot). s.users) (slot_at_set slots (get_or needs k d) (handed (slot_at slots (get_or needs k d))) within) in
        let there : (slot_at slots (get_or needs k d)).users ≡ (slot_at slots at).users = ap (λ (n : ℕ). (slot_at slots n).users) is in
        omega (arith, times_take_same needs k d at low is, before, users, there)
    by (inr other) =
        let users : (slot_at (set slots (get_or needs k d) (handed (slot_at slots (get_or needs k d)))) at).users ≡ (slot_at slots at).users =
        ap (λ (s : Slot). s.users) (slot_at_other slots (get_or needs k d) at (handed (slot_at slots (get_or needs k d))) (λ same. other (sym same))) in
        omega (arith, times_take_other needs k d at low other, before, users)

-- each slot has what it had, or it is among these and has nothing
pub record Empties (first slots : List Slot) (needs : List ℕ) : Type 0 where
  pub unvisited : (at : ℕ) → times at needs ≡ 0 → (slot_at slots at).held ≡ (slot_at first at).held
  pub nothing : (at : ℕ) → (slot_at first at).held ≡ Nothing → (slot_at slots at).held ≡ Nothing
  pub local : (at : ℕ) → (slot_at slots at).local ≡ (slot_at first at).local

pub empties_none : (slots : List Slot) → Empties slots slots []
empties_none slots = record { unvisited = λ at none. refl; nothing = λ at is. is; local = λ at. refl }

pub empties_more : (first slots : List Slot) (needs : List ℕ) (k d : ℕ) → k < length needs → get_or needs k d < length slots → Empties first slots (take k needs)
    → Empties first (set slots (get_or needs k d) (handed (slot_at slots (get_or needs k d)))) (take (k + 1) needs)
empties_more first slots needs k d low within empties = record {
  unvisited = λ at none. unvisited at none (cases_eq (get_or needs k d) at);
  nothing = λ at is. nothing at is (cases_eq (get_or needs k d) at);
  local = λ at. local at (cases_eq (get_or needs k d) at);
}
  where
    n : ℕ
    n = get_or needs k d

    after : List Slot
    after = set slots (get_or needs k d) (handed (slot_at slots (get_or needs k d)))

    here : (at : ℕ) → get_or needs k d ≡ at → slot_at (set slots (get_or needs k d) (handed (slot_at slots (get_or needs k d)))) at ≡ handed (slot_at slots at)
    here at is =
        ap (slot_at (set slots (get_or needs k d) (handed (slot_at slots (get_or needs k d))))) (sym is) ∙ slot_at_set slots (get_or needs k d) (handed (slot_at slots (get_or needs k d))) within
        ∙ ap (λ (m : ℕ). handed (slot_at slots m)) is

    there : (at : ℕ) → (get_or needs k d ≡ at → ⊥) → slot_at (set slots (get_or needs k d) (handed (slot_at slots (get_or needs k d)))) at ≡ slot_at slots at
    there at other = slot_at_other slots (get_or needs k d) at (handed (slot_at slots (get_or needs k d))) (λ same. other (sym same))

    unvisited : (at : ℕ) → times at (take (k + 1) needs) ≡ 0 → (get_or needs k d ≡ at) ⊎ (get_or needs k d ≡ at → ⊥) → (slot_at (set slots (get_or needs k d) (handed (slot_at slots (get_or needs k d)))) at).held ≡ (slot_at first at).held
    unvisited at none (inl is) = absurd (omega (arith, times_take_same needs k d at low is))
    unvisited at none (inr other) = ap (λ (s : Slot). s.held) (there at other) ∙ empties.unvisited at (omega (arith, times_take_other needs k d at low other))

    nothing : (at : ℕ) → (slot_at first at).held ≡ Nothing → (get_or needs k d ≡ at) ⊎ (get_or needs k d ≡ at → ⊥) → (slot_at (set slots (get_or needs k d) (handed (slot_at slots (get_or needs k d)))) at).held ≡ Nothing
    nothing at was (inl is) = ap (λ (s : Slot). s.held) (here at is)
    nothing at was (inr other) = ap (λ (s : Slot). s.held) (there at other) ∙ empties.nothing at was

    local : (at : ℕ) → (get_or needs k d ≡ at) ⊎ (get_or needs k d ≡ at → ⊥) → (slot_at (set slots (get_or needs k d) (handed (slot_at slots (get_or needs k d)))) at).local ≡ (slot_at first at).local
    local at (inl is) = ap (λ (s : Slot). s.local) (here at is) ∙ empties.local at
    local at (inr other) = ap (λ (s : Slot). s.local) (there at other) ∙ empties.local at

module _ (first slots : List Slot) (needs : List ℕ) (k d : ℕ) (low : k < length needs) (empties : Empties first slots (take k needs))
    (programs : (slot_at first (get_or needs k d)).local ≡ false → (slot_at first (get_or needs k d)).held ≡ Nothing) where
  pub still_empty : (slot_at slots (get_or needs k d)).local ≡ false → (slot_at slots (get_or needs k d)).held ≡ Nothing
  still_empty program = empties.nothing (get_or needs k d) (programs (sym (empties.local (get_or needs k d)) ∙ program))

  -- it has what it had at first
  pub still_there : IsFit (slot_at first (get_or needs k d)) → times (get_or needs k d) needs ≤ (slot_at first (get_or needs k d)).users → (slot_at slots (get_or needs k d)).held ≡ (slot_at first (get_or needs k d)).held
  still_there fit counted = by (cases_Bool (slot_at first (get_or needs k d)).local)
    where
      few : (b : Bool) → (slot_at first (get_or needs k d)).users ≡ (if b then 1 else 0) → (slot_at first (get_or needs k d)).users ≤ 1
      few true is = omega arith
      few false is = omega arith

      by : ((slot_at first (get_or needs k d)).local ≡ true) ⊎ ((slot_at first (get_or needs k d)).local ≡ false) → (slot_at slots (get_or needs k d)).held ≡ (slot_at first (get_or needs k d)).held
      by (inl is) =
          let most = few (has_blocks (slot_at first (get_or needs k d)).held) (fit.local is) in
          empties.unvisited (get_or needs k d) (omega (arith, most, counted, times_take_same needs k d (get_or needs k d) low refl, times-take-le needs (k + 1) (get_or needs k d)))
      by (inr program) = empties.nothing (get_or needs k d) (programs program) ∙ sym (programs program)

-- what the tables have gained by one more of these
pub gained_more : (before : Kept) (slots : List Slot) (needs : List ℕ) (k d : ℕ) → k < length needs → (block : ℕ)
    → (gained before slots (take (k + 1) needs)).standing block ≡ (gained before slots (take k needs)).standing block + times block (held_blocks (slot_at slots (get_or needs k d)).held)
gained_more before slots needs k d low block =
    let more = sum_by_more (λ n. times block (held_blocks (slot_at slots n).held)) needs k d low in omega (arith, more)

pub gained_longer : (before : Kept) (slots : List Slot) (needs : List ℕ) (k d : ℕ) → k < length needs
    → (gained before slots (take (k + 1) needs)).count ≡ (gained before slots (take k needs)).count + length (held_blocks (slot_at slots (get_or needs k d)).held)
gained_longer before slots needs k d low =
    let more = sum_by_more (λ n. length (held_blocks (slot_at slots n).held)) needs k d low in omega (arith, more)

pub gained_has : (key : ContentKey) (before : Kept) (slots : List Slot) (needs : List ℕ) → kept_as key (gained before slots needs) ≡ kept_as key before
unfolding kept_as
gained_has key before slots needs = refl

pub gained_none : (before : Kept) (slots : List Slot) (store : FileStore) → Balanced before slots [] store → Balanced (gained before slots []) slots [] store
gained_none before slots store balanced = record {
  blocks = λ block. omega (arith, balanced.blocks block);
  count = omega (arith, balanced.count);
  content = λ key. omega (arith, gained_has key before slots [], balanced.content key);
  single = balanced.single;
  fit = balanced.fit;
}

pub take_all : (needs : List ℕ) (k : ℕ) → k ≡ length needs → take k needs ≡ needs
take_all needs k end = ap (λ (n : ℕ). take n needs) end ∙ take-length needs

-- what entries still need has what it had
pub needed_handed : (first slots : List Slot) (needs : List ℕ) → All IsFit first → Empties first slots needs → KeepFiles first slots
    → ((at : ℕ) → at < length first → (slot_at slots at).users + times at needs ≡ (slot_at first at).users)
    → All (λ at. (slot_at first at).local ≡ false → (slot_at first at).held ≡ Nothing) needs → KeepNeeded first slots
needed_handed first slots needs fit empties files users programs at low some =
    record { key = (files.each at low).key; local = (files.each at low).local; held = held (cases_lt 0 (times at needs)) (cases_Bool (slot_at first at).local) }
  where
    few : (b : Bool) → (slot_at first at).users ≡ (if b then 1 else 0) → (slot_at first at).users ≤ 1
    few true is = omega arith
    few false is = omega arith

    held : (0 < times at needs) ⊎ (times at needs ≤ 0) → ((slot_at first at).local ≡ true) ⊎ ((slot_at first at).local ≡ false) → (slot_at slots at).held ≡ (slot_at first at).held
    held (inr none) other = empties.unvisited at (omega arith)
    held (inl there) (inl local) = absurd (omega (arith, few (has_blocks (slot_at first at).held) ((fit at no_slot low).local local), users at low, there, some))
    held (inl there) (inr program) =
        let place = some_place at needs there in
        let none : (slot_at first at).held ≡ Nothing = subst (λ (n : ℕ). (slot_at first n).local ≡ false → (slot_at first n).held ≡ Nothing) (place.2 0) (programs place.0 0 place.1) program in
        empties.nothing at none ∙ sym none

-- the tables have what was gained
pub received : (before after : Kept) (slots : List Slot) (needs : List ℕ) (made : List Slot) (store : FileStore) → Receives before after slots needs
    → Balanced (gained before slots needs) made [] store → Balanced after made [] store
received before after slots needs made store receives balanced = record {
  blocks = λ block. omega (arith, balanced.blocks block, receives.standing block);
  count = omega (arith, balanced.count, receives.count);
  content = λ key. omega (arith, balanced.content key, receives.has key, gained_has key before slots needs);
  single = balanced.single;
  fit = balanced.fit;
}
