-- Blocks that are neighbours.
use Rattle.std.proofs.Common.{◌≡◌, ◌≢◌, ◌⊎◌, ℕ, ◌+◌, ◌-◌, ◌*◌, ◌/◌, ◌<◌, ◌≤◌, List, get_or, sym, ◌∙◌, ap, arith, inl, inr}
use Rattle.std.proofs.lemmas.Bool.{cases_eq}
use Rattle.file_store.specs.Stretches.{IsStretch, AreNeighbours}
use Rattle.small_types.proofs.BlockPlaces.{place_is}

-- the blocks from the first to the last stand behind one another
unfoldable pub IsRun : List ℕ → ℕ → ℕ → Type 0
IsRun blocks first last = (k : ℕ) → first + k ≤ last → get_or blocks (first + k) 0 ≡ get_or blocks first 0 + k

module _ (blocks : List ℕ) (first : ℕ) where
  pub run_start : IsRun blocks first first
  unfolding IsRun
  run_start k within =
      let none : k ≡ 0 = omega arith in
      let at : first + k ≡ first = omega arith in
      let value : get_or blocks first 0 ≡ get_or blocks first 0 + k = omega arith in
      ap (λ (n : ℕ). get_or blocks n 0) at ∙ value

  pub run_more : (last : ℕ) → first ≤ last → IsRun blocks first last → get_or blocks (last + 1) 0 ≡ get_or blocks last 0 + 1 → IsRun blocks first (last + 1)
  unfolding IsRun
  run_more last order run next k within = by (cases_eq (first + k) (last + 1))
    where
      by : (first + k ≡ last + 1) ⊎ (first + k ≢ last + 1) → get_or blocks (first + k) 0 ≡ get_or blocks first 0 + k
      by (inl is) =
          let before : get_or blocks (first + (last - first)) 0 ≡ get_or blocks first 0 + (last - first) = run (last - first) (omega arith) in
          let at : first + (last - first) ≡ last = omega arith in
          let same : get_or blocks (first + (last - first)) 0 ≡ get_or blocks last 0 = ap (λ (n : ℕ). get_or blocks n 0) at in
          let value : get_or blocks last 0 + 1 ≡ get_or blocks first 0 + k = omega arith in
          ap (λ (n : ℕ). get_or blocks n 0) is ∙ next ∙ value
      by (inr other) = run k (omega arith)

-- so many bytes from one on, up to the end of the last block of a run
pub run_stretch : (blocks : List ℕ) (from last n : ℕ) → IsRun blocks (from / 4096) last → from + n ≤ 4096 * (last + 1) → IsStretch blocks from n
unfolding IsRun IsStretch
run_stretch blocks from last n run within base i low =
    let first = from / 4096 in
    let k = (from + i) / 4096 - first in
    let index : first + k ≡ (from + i) / 4096 = omega arith in
    let there : get_or blocks (first + k) 0 ≡ get_or blocks first 0 + k = run k (omega arith) in
    let here : get_or blocks ((from + i) / 4096) 0 ≡ get_or blocks first 0 + k = ap (λ (n : ℕ). get_or blocks n 0) (sym index) ∙ there in
    omega (arith, place_is base blocks (from + i), place_is base blocks from, here, index)

-- a run that stops before the last of the blocks, which are all neighbours, does not stop there
pub stops_at : (blocks : List ℕ) (first end last : ℕ) → first ≤ last → last < end → AreNeighbours blocks first end → get_or blocks (last + 1) 0 ≡ get_or blocks last 0 + 1
unfolding AreNeighbours
stops_at blocks first end last order short all = all last order short
