-- Lists in which each element is below the next one.
use Rattle.std.proofs.Common.{◌≡◌, ◌∙◌, ◌<◌, ◌≤◌, ◌+◌, ◌-◌, ℕ, zero, suc, List, length, get_or, AllPairs, arith, subst, sym}
use Rattle.std.specs.Cmp.{IsTotalOrder}
use Rattle.std.specs.declared.cmp.Ordering.{Ordering}
use Rattle.std.specs.declared.cmp.Ordering.TheVariants.{Less}
use Rattle.std.proofs.lemmas.List.{get_or_default}

-- each of the first elements is below the next one
abbrev pub RisesTo : {X : Type 0} → (X → X → Ordering) → List X → ℕ → Type 0
RisesTo {X} R xs place = (k : ℕ) (d : X) → k + 1 < place → R (get_or xs k d) (get_or xs (k + 1) d) ≡ Less

module _ {X : Type 0} (R : X → X → Ordering) (o : IsTotalOrder R) where
  between : (xs : List X) (place : ℕ) → RisesTo R xs place → (i n : ℕ) (d : X) → i + 1 + n < place → R (get_or xs i d) (get_or xs (i + 1 + n) d) ≡ Less
  between xs place rises i zero d within = subst (λ (k : ℕ). R (get_or xs i d) (get_or xs k d) ≡ Less) (omega arith) (rises i d (omega arith))
  between xs place rises i (suc n) d within =
      let low = get_or xs i d in
      let middle = get_or xs (i + 1 + n) d in
      let high = get_or xs (i + 1 + n + 1) d in
      let less : R low high ≡ Less = o.trans low middle high (between xs place rises i n d (omega arith)) (rises (i + 1 + n) d (omega arith)) in
      subst (λ (k : ℕ). R low (get_or xs k d) ≡ Less) (omega arith) less

  pub pairs_rise : (xs : List X) → RisesTo R xs (length xs) → AllPairs (λ x y. R x y ≡ Less) xs
  pairs_rise xs rises = λ i j d less within. subst (λ (k : ℕ). R (get_or xs i d) (get_or xs k d) ≡ Less) (omega arith) (between xs (length xs) rises i (j - (i + 1)) d (omega arith))

-- two neighbours of which a relation does not hold refute it of all pairs
pub pairs_refuted : {X : Type 0} (R : X → X → Type 0) (xs : List X) (place : ℕ) (low high : X) → 1 ≤ place → place < length xs → low ≡ get_or xs (place - 1) low → high ≡ get_or xs place high → ¬ R low high → AllPairs R xs → ⊥
pairs_refuted {X} R xs place low high some within first second unlike pairs =
    let found = pairs (place - 1) place low (omega arith) within in
    let same : get_or xs place low ≡ high = get_or_default xs place low high within ∙ sym second in
    unlike (subst (λ (x : X). R x high) (sym first) (subst (λ (x : X). R (get_or xs (place - 1) low) x) same found))
