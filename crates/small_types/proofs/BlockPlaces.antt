-- Where the bytes of a content stand.
use Rattle.std.proofs.Common.{◌≡◌, ℕ, ◌+◌, ◌*◌, ◌/◌, ◌%◌, ◌<◌, List, ◌∷◌, get_or, refl, sym, ◌∙◌, ap, arith}
use Rattle.small_types.specs.Blocks.{place_of, place_at, InBlock}

pub block_within : (i n : ℕ) → i < 4096 * n → i / 4096 < n
block_within i n below = omega arith

pub place_is : (base : ℕ) (blocks : List ℕ) (i : ℕ) → place_at base blocks i ≡ base + 4096 * get_or blocks (i / 4096) 0 + i % 4096
unfolding place_at
place_is base blocks i = refl

-- in the first block
pub place_first : (base b : ℕ) (bs : List ℕ) (i : ℕ) → i < 4096 → place_at base (b ∷ bs) i ≡ place_of base b + i
place_first base b bs i low =
    let none : i / 4096 ≡ 0 = omega arith in
    let whole : i % 4096 ≡ i = omega arith in
    place_is base (b ∷ bs) i ∙ ap (λ (q : ℕ). base + 4096 * get_or (b ∷ bs) q 0 + i % 4096) none ∙ ap (λ (r : ℕ). base + 4096 * b + r) whole

-- in a later one
pub place_next : (base b : ℕ) (bs : List ℕ) (i j : ℕ) → i ≡ 4096 + j → place_at base (b ∷ bs) i ≡ place_at base bs j
place_next base b bs i j is =
    let more : i / 4096 ≡ j / 4096 + 1 = omega arith in
    let same : i % 4096 ≡ j % 4096 = omega arith in
    place_is base (b ∷ bs) i
    ∙ ap (λ (q : ℕ). base + 4096 * get_or (b ∷ bs) q 0 + i % 4096) more
    ∙ ap (λ (r : ℕ). base + 4096 * get_or (b ∷ bs) (j / 4096 + 1) 0 + r) same
    ∙ next (j / 4096)
    ∙ sym (place_is base bs j)
  where
    next : (q : ℕ) → base + 4096 * get_or (b ∷ bs) (q + 1) 0 + j % 4096 ≡ base + 4096 * get_or bs q 0 + j % 4096
    next q = grind arith

module _ (base : ℕ) (blocks : List ℕ) where
  pub in_block : (i : ℕ) → InBlock base (place_at base blocks i) (get_or blocks (i / 4096) 0)
  in_block i = (omega (arith, place_is base blocks i), omega (arith, place_is base blocks i))
