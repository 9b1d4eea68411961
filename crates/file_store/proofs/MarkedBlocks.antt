-- Marks of the blocks that are in use.
use Rattle.std.proofs.Common.{◌≡◌, ◌≢◌, ◌⊎◌, ℕ, zero, suc, ◌+◌, ◌<◌, ◌≤◌, Bool, true, false, List, [], ◌∷◌, ◌++◌, length, reverse, take, drop, set, get_or, refl, sym, ◌∙◌, ap, subst, arith, inl, inr, All, Contains}
use Rattle.std.proofs.lemmas.Bool.{cases_eq}
use Rattle.std.proofs.lemmas.List.{drop_more, take_more, get_or_default, get_or-set_same, get_or-set_other, length-append, reverse-reverse}
use Rattle.std.proofs.lemmas.List.Elements.{All-append, All-cons, All-contains, All-nil, All-weaker, Contains-append_left, Contains-append_right, Contains-push}
use Rattle.std.proofs.lemmas.List.Kept.{AllPairs-cons}
use Rattle.small_types.specs.Blocks.{AreApart}
use Rattle.file_store.specs.Marks.{unmarked_from}
use Rattle.file_store.proofs.Apart.{all_reverse, apart_few, apart_join, apart_many, apart_reverse}

contains_here : (y : ℕ) (ys : List ℕ) → Contains (y ∷ ys) y
contains_here y ys = (0, omega arith, refl)

contains_there : (y x : ℕ) (ys : List ℕ) → Contains ys x → Contains (y ∷ ys) x
contains_there y x ys there = (suc there.0, (let low = there.1 in omega arith), there.2)

contains_cases : (y x : ℕ) (ys : List ℕ) → Contains (y ∷ ys) x → (y ≡ x) ⊎ Contains ys x
contains_cases y x ys there = at there.0 there.1 there.2
  where
    at : (k : ℕ) → k < length (y ∷ ys) → get_or (y ∷ ys) k x ≡ x → (y ≡ x) ⊎ Contains ys x
    at zero low is = inl is
    at (suc k) low is = inr (k, omega arith, is)

unmarked-nil : (k : ℕ) → unmarked_from k [] ≡ []
unfolding unmarked_from
unmarked-nil k = refl

unmarked-true : (k : ℕ) (marks : List Bool) → unmarked_from k (true ∷ marks) ≡ unmarked_from (k + 1) marks
unfolding unmarked_from
unmarked-true k marks = refl

unmarked-false : (k : ℕ) (marks : List Bool) → unmarked_from k (false ∷ marks) ≡ k ∷ unmarked_from (k + 1) marks
unfolding unmarked_from
unmarked-false k marks = refl

pub unmarked_at_end : (marks : List Bool) → [] ≡ unmarked_from (length marks) (drop (length marks) marks)
unmarked_at_end marks = sym (ap (unmarked_from (length marks)) (none marks) ∙ unmarked-nil (length marks))
  where
    none : (marks : List Bool) → drop (length marks) marks ≡ []
    none [] = refl
    none (m ∷ marks) = none marks

pub step_marked : (marks : List Bool) (i : ℕ) → i < length marks → get_or marks i false ≡ true → unmarked_from (i + 1) (drop (i + 1) marks) ≡ unmarked_from i (drop i marks)
step_marked marks i low is =
    sym (ap (unmarked_from i) (drop_more marks i false low) ∙ ap (λ (m : Bool). unmarked_from i (m ∷ drop (i + 1) marks)) is ∙ unmarked-true i (drop (i + 1) marks))

pub step_open : (marks : List Bool) (i : ℕ) → i < length marks → get_or marks i false ≡ false → i ∷ unmarked_from (i + 1) (drop (i + 1) marks) ≡ unmarked_from i (drop i marks)
step_open marks i low is =
    sym (ap (unmarked_from i) (drop_more marks i false low) ∙ ap (λ (m : Bool). unmarked_from i (m ∷ drop (i + 1) marks)) is ∙ unmarked-false i (drop (i + 1) marks))

abbrev Between : ℕ → ℕ → ℕ → Type 0
Between low high x = (low ≤ x) × (x < high)

pub unmarked_within : (k : ℕ) (marks : List Bool) → All (λ x. (k ≤ x) × (x < k + length marks)) (unmarked_from k marks)
unmarked_within k [] = subst (All (λ x. (k ≤ x) × (x < k + length {A = Bool} []))) (sym (unmarked-nil k)) (All-nil (λ x. (k ≤ x) × (x < k + length {A = Bool} [])))
unmarked_within k (true ∷ marks) =
    subst (All (λ x. (k ≤ x) × (x < k + length (true ∷ marks)))) (sym (unmarked-true k marks))
    (All-weaker (λ x. (k + 1 ≤ x) × (x < k + 1 + length marks)) (λ x. (k ≤ x) × (x < k + length (true ∷ marks))) (λ x both. (let low = both.0 in omega arith, let high = both.1 in omega arith)) (unmarked_from (k + 1) marks) (unmarked_within (k + 1) marks))
unmarked_within k (false ∷ marks) =
    subst (All (λ x. (k ≤ x) × (x < k + length (false ∷ marks)))) (sym (unmarked-false k marks))
    (All-cons (λ x. (k ≤ x) × (x < k + length (false ∷ marks))) k (unmarked_from (k + 1) marks) (omega arith, omega arith)
    (All-weaker (λ x. (k + 1 ≤ x) × (x < k + 1 + length marks)) (λ x. (k ≤ x) × (x < k + length (false ∷ marks))) (λ x both. (let low = both.0 in omega arith, let high = both.1 in omega arith)) (unmarked_from (k + 1) marks) (unmarked_within (k + 1) marks)))

pub unmarked_apart : (k : ℕ) (marks : List Bool) → AreApart (unmarked_from k marks)
unmarked_apart k [] = subst AreApart (sym (unmarked-nil k)) (λ i j d order within same. absurd (omega arith))
unmarked_apart k (true ∷ marks) = subst AreApart (sym (unmarked-true k marks)) (unmarked_apart (k + 1) marks)
unmarked_apart k (false ∷ marks) =
    subst AreApart (sym (unmarked-false k marks))
    (AllPairs-cons (λ a b. a ≢ b) k (unmarked_from (k + 1) marks)
    (All-weaker (λ x. (k + 1 ≤ x) × (x < k + 1 + length marks)) (λ x. k ≢ x) (λ x both same. let low = both.0 in omega arith) (unmarked_from (k + 1) marks) (unmarked_within (k + 1) marks))
    (unmarked_apart (k + 1) marks))

-- each number without a mark is there
pub unmarked_has : (k : ℕ) (marks : List Bool) (j x : ℕ) → x ≡ k + j → j < length marks → get_or marks j false ≡ false → Contains (unmarked_from k marks) x
unmarked_has k [] j x is low bare = absurd (omega arith)
unmarked_has k (true ∷ marks) zero x is low bare = absurd (cc)
unmarked_has k (false ∷ marks) zero x is low bare =
    let same : k ≡ x = omega arith in
    subst (λ (l : List ℕ). Contains l x) (sym (unmarked-false k marks)) (subst (λ (y : ℕ). Contains (y ∷ unmarked_from (k + 1) marks) x) (sym same) (contains_here x (unmarked_from (k + 1) marks)))
unmarked_has k (true ∷ marks) (suc j) x is low bare =
    subst (λ (l : List ℕ). Contains l x) (sym (unmarked-true k marks)) (unmarked_has (k + 1) marks j x (omega arith) (omega arith) bare)
unmarked_has k (false ∷ marks) (suc j) x is low bare =
    subst (λ (l : List ℕ). Contains l x) (sym (unmarked-false k marks)) (contains_there k x (unmarked_from (k + 1) marks) (unmarked_has (k + 1) marks j x (omega arith) (omega arith) bare))

-- and no other
pub unmarked_is : (k : ℕ) (marks : List Bool) (x : ℕ) → Contains (unmarked_from k marks) x → (j : ℕ) × (x ≡ k + j) × (get_or marks j true ≡ false)
unmarked_is k [] x there =
    let listed = subst (λ (l : List ℕ). Contains l x) (unmarked-nil k) there in
    absurd (let low = listed.1 in omega arith)
unmarked_is k (true ∷ marks) x there =
    let rest = unmarked_is (k + 1) marks x (subst (λ (l : List ℕ). Contains l x) (unmarked-true k marks) there) in
    (suc rest.0, (let is = rest.1 in omega arith), rest.2)
unmarked_is k (false ∷ marks) x there = by (contains_cases k x (unmarked_from (k + 1) marks) (subst (λ (l : List ℕ). Contains l x) (unmarked-false k marks) there)) (λ later. unmarked_is (k + 1) marks x later)
  where
    by : (k ≡ x) ⊎ Contains (unmarked_from (k + 1) marks) x → (Contains (unmarked_from (k + 1) marks) x → (j : ℕ) × (x ≡ k + 1 + j) × (get_or marks j true ≡ false)) → (j : ℕ) × (x ≡ k + j) × (get_or (false ∷ marks) j true ≡ false)
    by (inl here) next = (0, omega arith, refl)
    by (inr later) next = let rest = next later in (suc rest.0, (let is = rest.1 in omega arith), rest.2)

-- one mark more
pub marked_more : (marks : List Bool) (taken : List ℕ) (i : ℕ) → i < length taken → get_or taken i 0 < length marks → ((k : ℕ) → k < i → get_or marks (get_or taken k 0) false ≡ true)
    → (k : ℕ) → k < i + 1 → get_or (set marks (get_or taken i 0) true) (get_or taken k 0) false ≡ true
marked_more marks taken i within fits before k low = by (cases_eq (get_or taken k 0) (get_or taken i 0))
  where
    by : (get_or taken k 0 ≡ get_or taken i 0) ⊎ (get_or taken k 0 ≢ get_or taken i 0) → get_or (set marks (get_or taken i 0) true) (get_or taken k 0) false ≡ true
    by (inl same) = ap (λ (b : ℕ). get_or (set marks (get_or taken i 0) true) b false) same ∙ get_or-set_same marks (get_or taken i 0) true false fits
    by (inr other) = get_or-set_other marks (get_or taken i 0) (get_or taken k 0) true false other ∙ before k (earlier (cases_eq k i))
      where
        earlier : (k ≡ i) ⊎ (k ≢ i) → k < i
        earlier (inl is) = absurd (other (ap (λ (n : ℕ). get_or taken n 0) is))
        earlier (inr differ) = omega arith

pub only_more : (marks : List Bool) (taken : List ℕ) (i : ℕ) → i < length taken → ((b : ℕ) → get_or marks b false ≡ true → Contains (take i taken) b)
    → (b : ℕ) → get_or (set marks (get_or taken i 0) true) b false ≡ true → Contains (take (i + 1) taken) b
only_more marks taken i within before b is = by (cases_eq b (get_or taken i 0))
  where
    by : (b ≡ get_or taken i 0) ⊎ (b ≢ get_or taken i 0) → Contains (take (i + 1) taken) b
    by (inl same) = subst (λ (l : List ℕ). Contains l b) (sym (take_more taken i 0 within)) (subst (λ (y : ℕ). Contains (take i taken ++ y ∷ []) b) same (Contains-push (take i taken) b))
    by (inr other) = subst (λ (l : List ℕ). Contains l b) (sym (take_more taken i 0 within)) (Contains-append_left (take i taken) (get_or taken i 0 ∷ []) b (before b (sym (get_or-set_other marks (get_or taken i 0) b true false other) ∙ is)))

pub all_marked : (marks : List Bool) (taken : List ℕ) (i : ℕ) → length taken ≤ i → ((k : ℕ) → k < i → get_or marks (get_or taken k 0) false ≡ true) → (b : ℕ) → Contains taken b → get_or marks b false ≡ true
all_marked marks taken i end each b there =
    let low = there.1 in
    let same : get_or taken there.0 0 ≡ b = get_or_default taken there.0 0 b low ∙ there.2 in
    sym (ap (λ (k : ℕ). get_or marks k false) same) ∙ each there.0 (omega arith)

-- ---- a store of the blocks without a mark

module _ (free taken : List ℕ) (marks : List Bool) (blocks : ℕ)
    (is_free : reverse free ≡ unmarked_from 0 marks) (count : length marks ≡ blocks)
    (marked : (b : ℕ) → Contains taken b → get_or marks b false ≡ true) (only : (b : ℕ) → get_or marks b false ≡ true → Contains taken b)
    (below : All (λ b. b < blocks) taken) (apart : AreApart taken) where
  turned : free ≡ reverse (unmarked_from 0 marks)
  turned = sym (reverse-reverse free) ∙ ap reverse is_free

  pub free_below : All (λ b. b < blocks) free
  free_below =
      subst (All (λ b. b < blocks)) (sym turned)
      (all_reverse (λ b. b < blocks) (unmarked_from 0 marks)
      (All-weaker (λ x. (0 ≤ x) × (x < 0 + length marks)) (λ b. b < blocks) (λ x both. let high = both.1 in omega (arith, count)) (unmarked_from 0 marks) (unmarked_within 0 marks)))

  pub free_apart : AreApart free
  free_apart = subst AreApart (sym turned) (apart_reverse (unmarked_from 0 marks) (unmarked_apart 0 marks))

  pub free_others : AreApart (taken ++ reverse free)
  free_others =
      subst (λ (l : List ℕ). AreApart (taken ++ l)) (sym is_free)
      (apart_join taken (unmarked_from 0 marks) apart (unmarked_apart 0 marks) (λ b one two.
      let there = unmarked_is 0 marks b two in
      let at : there.0 ≡ b = let is = there.1 in omega arith in
      let low : b < length marks = let inside = All-contains (λ k. k < blocks) taken b below one in omega (arith, count) in
      let shut : get_or marks b true ≡ true = get_or_default marks b true false low ∙ marked b one in
      let bare : get_or marks b true ≡ false = ap (λ (k : ℕ). get_or marks k true) (sym at) ∙ there.2 in
      absurd (cc)))

  pub free_count : length taken + length (reverse free) ≡ blocks
  free_count =
      let whole : All (λ b. b < blocks) (taken ++ reverse free) = All-append (λ b. b < blocks) taken (reverse free) below (all_reverse (λ b. b < blocks) free free_below) in
      let few : length (taken ++ reverse free) ≤ blocks = apart_few (taken ++ reverse free) blocks free_others whole in
      let many : blocks ≤ length (taken ++ reverse free) = apart_many (taken ++ reverse free) blocks (λ b low. each b low (marks_tell b)) in
      omega (arith, few, many, length-append taken (reverse free))
    where
      marks_tell : (b : ℕ) → (get_or marks b false ≡ true) ⊎ (get_or marks b false ≡ false)
      marks_tell b = tells (get_or marks b false)
        where
          tells : (v : Bool) → (v ≡ true) ⊎ (v ≡ false)
          tells true = inl refl
          tells false = inr refl

      each : (b : ℕ) → b < blocks → (get_or marks b false ≡ true) ⊎ (get_or marks b false ≡ false) → Contains (taken ++ reverse free) b
      each b low (inl shut) = Contains-append_left taken (reverse free) b (only b shut)
      each b low (inr bare) = Contains-append_right taken (reverse free) b (subst (λ (l : List ℕ). Contains l b) (sym is_free) (unmarked_has 0 marks b b (omega arith) (omega (arith, count)) bare))
