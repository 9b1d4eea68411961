-- A session begins without jobs: each block is the tables' or free.
use Rattle.std.proofs.Common.{◌≡◌, ◌⊎◌, ℕ, zero, suc, ◌+◌, ◌<◌, ◌≤◌, ◌==◌, Bool, cond, List, [], ◌∷◌, ◌++◌, length, get_or, min, reverse, refl, sym, ◌∙◌, ap, subst, arith, inl, inr, All}
use Rattle.std.proofs.lemmas.Bool.{cases_eq, cases_lt, cond-false, eq-eqb, le-ltb, lt-ltb, ne_eqb}
use Rattle.std.proofs.lemmas.List.{length-append}
use Rattle.std.proofs.lemmas.List.Elements.{All-append, All-head, All-nil, All-tail}
use Rattle.std.proofs.lemmas.List.Sums.{sum_by-cons}
use Rattle.small_types.specs.Blocks.{AreApart}
use Rattle.file_store.specs.Stores.{block_count, free_of}
use Rattle.file_store.specs.declared.store.FileStore.{FileStore}
use Rattle.file_store.proofs.Apart.{all_reverse}
use Rattle.machine.specs.Views.{ContentKey}
use Rattle.jobs.specs.Balance.{Balanced, held_as, in_slots, kept_as, needed_as, one_below, times}
use Rattle.jobs.specs.Jobs.{IsBare, IsOpen, IsSound}
use Rattle.jobs.specs.Kept.{Kept}
use Rattle.jobs.specs.Slots.{IsFit}
use Rattle.jobs.specs.declared.held.Slot.{Slot}
use Rattle.jobs.specs.declared.table.Job.{Job}
use Rattle.jobs.specs.declared.table.JobTable.{JobTable}
use Rattle.jobs.proofs.ReferredSlots.{needed_none}
use Rattle.jobs.proofs.MovedBlocks.{kept_most}
use Rattle.jobs.proofs.Counts.{times-append, times-nil}

-- how often the numbers below n stand in a list
abbrev below : ℕ → List ℕ → ℕ
below zero xs = 0
below (suc n) xs = below n xs + times n xs

below_nil : (n : ℕ) → below n [] ≡ 0
below_nil zero = refl
below_nil (suc n) = omega (arith, below_nil n, times-nil n)

times_cons : (b x : ℕ) (xs : List ℕ) → times b (x ∷ xs) ≡ cond (x == b) 1 0 + times b xs
unfolding times
times_cons b x xs = sum_by-cons (λ y. cond (y == b) 1 0) x xs

below_past : (n x : ℕ) (xs : List ℕ) → n ≤ x → below n (x ∷ xs) ≡ below n xs
below_past zero x xs past = refl
below_past (suc n) x xs past =
    let other : cond {A = ℕ} (x == n) 1 0 ≡ 0 = cond-false (x == n) 1 0 (ne_eqb x n (λ is. omega arith)) in
    omega (arith, below_past n x xs (omega arith), times_cons n x xs, other)

below_cons : (n x : ℕ) (xs : List ℕ) → x < n → below n (x ∷ xs) ≡ 1 + below n xs
below_cons zero x xs low = absurd (omega arith)
below_cons (suc n) x xs low = by (below_cons n x xs) (cases_eq x n)
  where
    by : (x < n → below n (x ∷ xs) ≡ 1 + below n xs) → (x ≡ n) ⊎ (x ≡ n → ⊥) → below (suc n) (x ∷ xs) ≡ 1 + below (suc n) xs
    by rest (inl is) =
        let one : cond {A = ℕ} (x == n) 1 0 ≡ 1 = ap {B = ℕ} (λ (b : Bool). cond b 1 0) (eq-eqb x n is) in
        omega (arith, below_past n x xs (omega arith), times_cons n x xs, one)
    by rest (inr other) =
        let none : cond {A = ℕ} (x == n) 1 0 ≡ 0 = cond-false (x == n) 1 0 (ne_eqb x n other) in
        let more = rest (omega arith) in
        omega (arith, more, times_cons n x xs, none)

below_all : (n : ℕ) (xs : List ℕ) → All (λ x. x < n) xs → below n xs ≡ length xs
below_all n [] all = below_nil n
below_all n (x ∷ xs) all = omega (arith, below_cons n x xs (All-head (λ y. y < n) x xs all), below_all n xs (All-tail (λ y. y < n) x xs all))

below_most : (n : ℕ) (xs : List ℕ) → ((b : ℕ) → times b xs ≤ 1) → below n xs ≤ n
below_most zero xs once = omega arith
below_most (suc n) xs once = omega (arith, below_most n xs once, once n)

below_less : (n b : ℕ) (xs : List ℕ) → ((a : ℕ) → times a xs ≤ 1) → b < n → times b xs ≡ 0 → below n xs + 1 ≤ n
below_less zero b xs once low none = absurd (omega arith)
below_less (suc n) b xs once low none = by (below_less n b xs once) (cases_eq b n)
  where
    by : (b < n → times b xs ≡ 0 → below n xs + 1 ≤ n) → (b ≡ n) ⊎ (b ≡ n → ⊥) → below (suc n) xs + 1 ≤ suc n
    by rest (inl is) = let here : times n xs ≡ 0 = ap (λ (m : ℕ). times m xs) (sym is) ∙ none in omega (arith, here, below_most n xs once)
    by rest (inr other) = let less = rest (omega arith) none in omega (arith, less, once n)

-- a number that stands in a list has a place there
pub some_place : (b : ℕ) (xs : List ℕ) → 0 < times b xs → (i : ℕ) × (i < length xs) × ((d : ℕ) → get_or xs i d ≡ b)
some_place b [] some = absurd (omega (arith, times-nil b))
some_place b (x ∷ xs) some = by (some_place b xs) (cases_eq x b)
  where
    by : (0 < times b xs → (i : ℕ) × (i < length xs) × ((d : ℕ) → get_or xs i d ≡ b)) → (x ≡ b) ⊎ (x ≡ b → ⊥) → (i : ℕ) × (i < length (x ∷ xs)) × ((d : ℕ) → get_or (x ∷ xs) i d ≡ b)
    by later (inl is) = (zero, omega arith, λ d. is)
    by later (inr other) =
        let none : cond {A = ℕ} (x == b) 1 0 ≡ 0 = cond-false (x == b) 1 0 (ne_eqb x b other) in
        let rest = later (omega (arith, some, none, times_cons b x xs)) in
        (suc rest.0, (let low = rest.1 in omega arith), rest.2)

apart_tail : (x : ℕ) (xs : List ℕ) → AreApart (x ∷ xs) → AreApart xs
apart_tail x xs apart i j d order low = apart (suc i) (suc j) d (omega arith) (omega arith)

-- numbers that differ stand once
times_once : (xs : List ℕ) → AreApart xs → (b : ℕ) → times b xs ≤ 1
times_once [] apart b = omega (arith, times-nil b)
times_once (x ∷ xs) apart b = by (times_once xs (apart_tail x xs apart) b) (cases_eq x b) (cases_lt 0 (times b xs))
  where
    by : times b xs ≤ 1 → (x ≡ b) ⊎ (x ≡ b → ⊥) → (0 < times b xs) ⊎ (times b xs ≤ 0) → times b (x ∷ xs) ≤ 1
    by rest (inl is) (inl some) =
        let place = some_place b xs some in
        let low = place.1 in
        absurd (apart zero (suc place.0) b (omega arith) (omega arith) (is ∙ sym (place.2 b)))
    by rest (inl is) (inr none) =
        let one : cond {A = ℕ} (x == b) 1 0 ≡ 1 = ap {B = ℕ} (λ (t : Bool). cond t 1 0) (eq-eqb x b is) in
        omega (arith, one, none, times_cons b x xs)
    by rest (inr other) some =
        let zero_here : cond {A = ℕ} (x == b) 1 0 ≡ 0 = cond-false (x == b) 1 0 (ne_eqb x b other) in
        omega (arith, zero_here, times_cons b x xs, rest)

times_past : (n b : ℕ) (xs : List ℕ) → All (λ x. x < n) xs → n ≤ b → times b xs ≡ 0
times_past n b [] all past = times-nil b
times_past n b (x ∷ xs) all past =
    let low = All-head (λ y. y < n) x xs all in
    let other : cond {A = ℕ} (x == b) 1 0 ≡ 0 = cond-false (x == b) 1 0 (ne_eqb x b (λ is. omega arith)) in
    omega (arith, other, times_cons b x xs, times_past n b xs (All-tail (λ y. y < n) x xs all) past)

-- n numbers below n that differ are all of these
pub all_once : (n : ℕ) (xs : List ℕ) → All (λ x. x < n) xs → AreApart xs → length xs ≡ n → (b : ℕ) → times b xs ≡ one_below n b
unfolding one_below
all_once n xs all apart long b = by (cases_lt b n)
  where
    by : (b < n) ⊎ (n ≤ b) → times b xs ≡ one_below n b
    by (inr past) =
        let none : one_below n b ≡ 0 = ap (λ (t : Bool). cond t 1 0) (le-ltb b n past) in
        omega (arith, none, times_past n b xs all past)
    by (inl low) = here (cases_lt 0 (times b xs))
      where
        one : one_below n b ≡ 1
        one = ap (λ (t : Bool). cond t 1 0) (lt-ltb b n low)

        here : (0 < times b xs) ⊎ (times b xs ≤ 0) → times b xs ≡ one_below n b
        here (inl some) = omega (arith, one, times_once xs apart b)
        here (inr none) = absurd (omega (arith, below_less n b xs (times_once xs apart) low (omega arith), below_all n xs all, long))

in_no_slots : (measure : List ℕ → ℕ) → in_slots measure [] ≡ 0
unfolding in_slots
in_no_slots measure = refl

held_none : (key : ContentKey) → held_as key [] ≡ 0
unfolding held_as
held_none key = refl

bare_balanced : (kept : Kept) (store : FileStore) → IsBare kept store → Balanced kept [] [] store
bare_balanced kept store bare = record {
  blocks = λ block. omega (arith, bare.standing block, in_no_slots (times block), times-nil block, times-append block bare.blocks (free_of store), once block);
  count = omega (arith, bare.count, in_no_slots length, bare.all);
  content = λ key. omega (arith, held_none key, needed_none key, kept_most key kept);
  single = λ key. omega (arith, needed_none key);
  fit = All-nil IsFit;
}
  where
    once : (block : ℕ) → times block (bare.blocks ++ free_of store) ≡ one_below (block_count store) block
    once =
        all_once (block_count store) (bare.blocks ++ free_of store)
        (All-append (λ block. block < block_count store) bare.blocks (free_of store) bare.used.within (all_reverse (λ block. block < block_count store) store.free.items store.below))
        bare.used.apart (omega (arith, length-append bare.blocks (free_of store), bare.all))

-- a session without jobs
pub bare_sound : (kept : Kept) (table : JobTable) (store : FileStore) → table.jobs.items ≡ [] → table.slots.items ≡ [] → table.next ≡ 1 → IsBare kept store → IsSound kept table [] [] store
bare_sound kept table store jobs slots next bare = record {
  balanced = subst (λ (l : List Slot). Balanced kept l [] store) (sym slots) (bare_balanced kept store bare);
  counted = λ at low. absurd (omega (arith, ap length slots));
  settled = λ at low away. absurd (omega (arith, ap length slots));
  open_jobs = λ k d low. absurd (omega (arith, ap length jobs));
  few = omega (arith, ap length jobs);
  apart = λ i j d order low. absurd (omega (arith, ap length jobs));
  below = λ k d low. absurd (omega (arith, ap length jobs));
  next = omega (arith, next);
}
