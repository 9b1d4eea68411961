-- Which contents and bytes stay where blocks are written.
use Rattle.std.proofs.Common.{◌≡◌, ◌⊎◌, ℕ, ◌+◌, ◌-◌, ◌*◌, ◌/◌, ◌<◌, ◌≤◌, min, List, length, take, drop, get_or, sym, ◌∙◌, ap, subst, arith, inl, inr, Contains}
use Rattle.std.proofs.lemmas.Bool.{cases_lt}
use Rattle.std.proofs.lemmas.List.{get_or-drop, get_or-take, get_or_default, length-drop, length-take, same_lists}
use Rattle.std.proofs.lemmas.List.Elements.{Contains-get_or}
use Rattle.small_types.specs.Blocks.{IsContent, KeepsOutside, InBlock, Outside, ShareNone, Stands, bytes_in, place_at}
use Rattle.small_types.proofs.BlockContents.{content_from_stands, stands_from_content}
use Rattle.small_types.proofs.BlockPlaces.{block_within, in_block, place_is}

-- two blocks that have a place in common are the same
one_block : (base place a b : ℕ) → InBlock base place a → InBlock base place b → a ≡ b
one_block base place a b in_a in_b = let low_a = in_a.0 in let high_a = in_a.1 in let low_b = in_b.0 in let high_b = in_b.1 in omega arith

stands_moved : (base : ℕ) (blocks content old new : List ℕ)
    → ((i : ℕ) → i < length content → place_at base blocks i < length old → (place_at base blocks i < length new) × (get_or new (place_at base blocks i) 0 ≡ get_or old (place_at base blocks i) 0))
    → Stands base blocks content old → Stands base blocks content new
unfolding Stands
stands_moved base blocks content old new each stands i low =
    let there = stands i low in
    let kept = each i low there.0 in
    (kept.0, kept.1 ∙ there.1)

module _ (base : ℕ) (blocks content old new : List ℕ) (fits : length content ≤ 4096 * length blocks) (is : IsContent base blocks content old) where
  -- where each byte of it stays
  pub stays_from : ((i : ℕ) → i < length content → place_at base blocks i < length old → (place_at base blocks i < length new) × (get_or new (place_at base blocks i) 0 ≡ get_or old (place_at base blocks i) 0)) → IsContent base blocks content new
  stays_from each = content_from_stands base blocks content new fits (stands_moved base blocks content old new each (stands_from_content base blocks content old is))

  pub content_stays : (written : List ℕ) → ShareNone blocks written → KeepsOutside base written old new → IsContent base blocks content new
  unfolding KeepsOutside
  content_stays written none keeps = stays_from (λ i low within. keeps (place_at base blocks i) within (outside i low))
    where
      outside : (i : ℕ) → i < length content → Outside base written (place_at base blocks i)
      outside i low block listed inside =
          let index : i / 4096 < length blocks = block_within i (length blocks) (omega (arith, fits)) in
          let same : get_or blocks (i / 4096) 0 ≡ block = one_block base (place_at base blocks i) (get_or blocks (i / 4096) 0) block (in_block base blocks i) inside in
          none block (subst (Contains blocks) same (Contains-get_or blocks (i / 4096) 0 index)) listed

  pub content_stays_behind : (place : ℕ) → place ≤ base → drop place new ≡ drop place old → IsContent base blocks content new
  content_stays_behind place before same = stays_from (λ i low within. kept i within)
    where
      kept : (i : ℕ) → place_at base blocks i < length old → (place_at base blocks i < length new) × (get_or new (place_at base blocks i) 0 ≡ get_or old (place_at base blocks i) 0)
      kept i within =
          let j = place_at base blocks i - place in
          let there : place + j ≡ place_at base blocks i = omega (arith, before, place_is base blocks i) in (
            omega (arith, ap length same, length-drop place new, length-drop place old, there),
            ap (λ (k : ℕ). get_or new k 0) (sym there) ∙ sym (get_or-drop place new j 0) ∙ ap (λ (l : List ℕ). get_or l j 0) same ∙ get_or-drop place old j 0 ∙ ap (λ (k : ℕ). get_or old k 0) there,
          )

pub front_stays : (base : ℕ) (written old new : List ℕ) → KeepsOutside base written old new → take (min base (length old)) new ≡ take base old
unfolding KeepsOutside
front_stays base written old new keeps =
    same_lists (take (min base (length old)) new) (take base old) (size (cases_lt 0 (min base (length old))))
    (λ k d low. same k d (omega (arith, low, length-take (min base (length old)) new)))
  where
    each : (k : ℕ) → k < min base (length old) → (k < length new) × (get_or new k 0 ≡ get_or old k 0)
    each k low = keeps k (omega arith) (λ block listed inside. absurd (let from_block = inside.0 in omega arith))

    same : (k d : ℕ) → k < min base (length old) → get_or (take (min base (length old)) new) k d ≡ get_or (take base old) k d
    same k d low =
        let kept = each k low in
        get_or-take (min base (length old)) new k d low ∙ get_or_default new k d 0 kept.0 ∙ kept.1 ∙ get_or_default old k 0 d (omega arith) ∙ sym (get_or-take base old k d (omega arith))

    size : (0 < min base (length old)) ⊎ (min base (length old) ≤ 0) → length (take (min base (length old)) new) ≡ length (take base old)
    size (inl some) = let last = (each (min base (length old) - 1) (omega arith)).0 in omega (arith, length-take (min base (length old)) new, length-take base old)
    size (inr none) = omega (arith, length-take (min base (length old)) new, length-take base old)

pub one_content : (base : ℕ) (blocks one other image : List ℕ) → length one ≡ length other → IsContent base blocks one image → IsContent base blocks other image → one ≡ other
unfolding IsContent
one_content base blocks one other image size is_one is_other =
    sym is_one ∙ ap (λ (n : ℕ). bytes_in base blocks n image) size ∙ is_other

pub bytes_content : (base n : ℕ) (blocks image : List ℕ) → length (bytes_in base blocks n image) ≡ n → IsContent base blocks (bytes_in base blocks n image) image
unfolding IsContent
bytes_content base n blocks image whole = ap (λ (k : ℕ). bytes_in base blocks k image) whole
