-- Sums of the counts of links.
use Rattle.std.proofs.Common.{◌≡◌, ℕ, zero, suc, ◌<◌, ◌≤◌, ◌⊎◌, ⊎_elim, inl, inr, refl, ap, subst, ◌∙◌, arith}
use Rattle.std.proofs.lemmas.Bool.{cases_order}
use Rattle.outside.specs.Streams.{Rose, total}
use Rattle.outside.proofs.Counts.{total_later, total_rose_left, total_rose_right}
use Rattle.links.specs.Link.{LinkState}
use Rattle.links.specs.Links.{counted}

-- a place below the next number is that one or below it
last_or_below : (place n : ℕ) → place < suc n → (place ≡ n) ⊎ (place < n)
last_or_below place n less =
    ⊎_elim (λ e. inl e) (λ apart. ⊎_elim (λ below. inr below) (λ above. absurd (omega arith)) apart) (cases_order place n)

-- where no count falls, the sum does not
pub counted_later : (old new : ℕ → LinkState) (n : ℕ) → ((k : ℕ) → k < n → (old k).count ≤ (new k).count) → counted old n ≤ counted new n
counted_later old new zero later = omega arith
counted_later old new (suc n) later =
    total_later (counted old n) (old n).count (counted new n) (new n).count
    (counted_later old new n (λ k less. later k (omega arith))) (later n (omega arith))

-- where the count of one rose and no other fell, the sum rose
pub counted_rose : (old new : ℕ → LinkState) (n place : ℕ) → ((k : ℕ) → k < n → (old k).count ≤ (new k).count) → place < n → Rose (old place).count (new place).count → Rose (counted old n) (counted new n)
counted_rose old new zero place later less rose = absurd (omega arith)
counted_rose old new (suc n) place later less rose =
    ⊎_elim
    (λ e. total_rose_right (counted old n) (old n).count (counted new n) (new n).count
    (counted_later old new n (λ k below. later k (omega arith))) (subst (λ (k : ℕ). Rose (old k).count (new k).count) e rose))
    (λ below. total_rose_left (counted old n) (old n).count (counted new n) (new n).count
    (counted_rose old new n place (λ k under. later k (omega arith)) below rose) (later n (omega arith)))
    (last_or_below place n less)

-- where no count changed, the sum did not
pub counted_same : (old new : ℕ → LinkState) (n : ℕ)
    → ((k : ℕ) → k < n → (new k).count ≡ (old k).count) → counted new n ≡ counted old n
counted_same old new zero same = refl
counted_same old new (suc n) same =
    let first : counted new n ≡ counted old n = counted_same old new n (λ k less. same k (omega arith)) in
    ap (λ (m : ℕ). total m (new n).count) first ∙ ap (total (counted old n)) (same n (omega arith))
