-- That the bytes of a content stand apart.
use Rattle.std.proofs.Common.{◌≡◌, ◌⊎◌, ℕ, ◌+◌, ◌-◌, ◌*◌, ◌/◌, ◌%◌, ◌<◌, ◌≤◌, List, length, get_or, sym, ◌∙◌, subst, arith, inl, inr}
use Rattle.std.proofs.lemmas.Bool.{cases_order}
use Rattle.std.proofs.lemmas.List.Elements.{Contains-get_or}
use Rattle.small_types.specs.Blocks.{AreApart, InBlock, Outside, place_at}
use Rattle.small_types.proofs.BlockPlaces.{block_within, in_block, place_is}
use Rattle.file_store.specs.Stretches.{IsStretch}

module _ (base : ℕ) (blocks : List ℕ) where
  -- two bytes of a content do not stand at one place
  pub same_byte : AreApart blocks → (i j : ℕ) → i < 4096 * length blocks → j < 4096 * length blocks
      → place_at base blocks i ≡ place_at base blocks j → i ≡ j
  same_byte apart i j in_i in_j same = by (cases_order (i / 4096) (j / 4096))
    where
      at_i : place_at base blocks i ≡ base + 4096 * get_or blocks (i / 4096) 0 + i % 4096
      at_i = place_is base blocks i

      at_j : place_at base blocks j ≡ base + 4096 * get_or blocks (j / 4096) 0 + j % 4096
      at_j = place_is base blocks j

      block : get_or blocks (i / 4096) 0 ≡ get_or blocks (j / 4096) 0
      block = omega (arith, same, at_i, at_j)

      rest : i % 4096 ≡ j % 4096
      rest = omega (arith, same, at_i, at_j)

      by : (i / 4096 ≡ j / 4096) ⊎ ((i / 4096 < j / 4096) ⊎ (j / 4096 < i / 4096)) → i ≡ j
      by (inr (inl lt)) = absurd (apart (i / 4096) (j / 4096) 0 lt (block_within j (length blocks) in_j) block)
      by (inl is) = omega (arith, is, rest)
      by (inr (inr lt)) = absurd (apart (j / 4096) (i / 4096) 0 lt (block_within i (length blocks) in_i) (sym block))

  -- a place in a stretch lies in one of the blocks
  pub stretch_inside : (from n : ℕ) → IsStretch blocks from n → from + n ≤ 4096 * length blocks
      → (place : ℕ) → place_at base blocks from ≤ place → place < place_at base blocks from + n → Outside base blocks place → ⊥
  unfolding IsStretch
  stretch_inside from n stretch within place low high outside =
      let j = place - place_at base blocks from in
      let small : j < n = omega arith in
      let there : place_at base blocks (from + j) ≡ place = stretch base j small ∙ omega arith in
      let index = (from + j) / 4096 in
      let listed : index < length blocks = block_within (from + j) (length blocks) (omega arith) in
      outside (get_or blocks index 0) (Contains-get_or blocks index 0 listed)
      (subst (λ (p : ℕ). InBlock base p (get_or blocks index 0)) there (in_block base blocks (from + j)))
