-- Whether blocks are below their number and differ, by marks.
use Rattle.std.proofs.Common.{◌≡◌, ◌≢◌, ◌⊎◌, ℕ, ◌+◌, ◌<◌, ◌≤◌, Bool, true, false, List, length, get_or, sym, ◌∙◌, subst, arith, inl, inr, All}
use Rattle.std.proofs.lemmas.Bool.{cases_eq}
use Rattle.std.proofs.lemmas.List.{get_or_default}
use Rattle.small_types.specs.Blocks.{AreApart}

-- so many blocks from the first on are below a number, and differ
pub record Judged (blocks : List ℕ) (n i : ℕ) : Type 0 where
  pub below : (k : ℕ) → k < i → get_or blocks k 0 < n
  pub apart : (j k : ℕ) → j < k → k < i → get_or blocks j 0 ≢ get_or blocks k 0

pub judged_none : (blocks : List ℕ) (n : ℕ) → Judged blocks n 0
judged_none blocks n = record { below = λ k low. absurd (omega arith); apart = λ j k order low. absurd (omega arith) }

-- one that had no mark more, where those before it have theirs
pub judged_more : (blocks : List ℕ) (marks : List Bool) (n i : ℕ) → get_or blocks i 0 < n → get_or marks (get_or blocks i 0) false ≡ false
    → ((k : ℕ) → k < i → get_or marks (get_or blocks k 0) false ≡ true) → Judged blocks n i → Judged blocks n (i + 1)
judged_more blocks marks n i fits bare marked before = record { below = λ k low. below k low (cases_eq k i); apart = λ j k order low. apart j k order low (cases_eq k i) }
  where
    below : (k : ℕ) → k < i + 1 → (k ≡ i) ⊎ (k ≢ i) → get_or blocks k 0 < n
    below k low (inl is) = subst (λ (m : ℕ). get_or blocks m 0 < n) (sym is) fits
    below k low (inr other) = before.below k (omega arith)

    apart : (j k : ℕ) → j < k → k < i + 1 → (k ≡ i) ⊎ (k ≢ i) → get_or blocks j 0 ≢ get_or blocks k 0
    apart j k order low (inl is) same =
        let first : j < i = omega arith in
        let last : get_or blocks j 0 ≡ get_or blocks i 0 = subst (λ (m : ℕ). get_or blocks j 0 ≡ get_or blocks m 0) is same in
        let shut : get_or marks (get_or blocks i 0) false ≡ true = subst (λ (b : ℕ). get_or marks b false ≡ true) last (marked j first) in
        absurd (cc)
    apart j k order low (inr other) same = before.apart j k order (omega arith) same

-- all of them
pub judged_below : (blocks : List ℕ) (n i : ℕ) → length blocks ≤ i → Judged blocks n i → All (λ block. block < n) blocks
judged_below blocks n i end judged k d low = subst (λ (b : ℕ). b < n) (get_or_default blocks k 0 d low) (judged.below k (omega arith))

pub judged_apart : (blocks : List ℕ) (n i : ℕ) → length blocks ≤ i → Judged blocks n i → AreApart blocks
judged_apart blocks n i end judged j k d order low same =
    let first : j < length blocks = omega arith in
    judged.apart j k order (omega arith) (get_or_default blocks j 0 d first ∙ same ∙ get_or_default blocks k d 0 low)
