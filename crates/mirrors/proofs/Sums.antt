-- Sums of the counts of boxes, and of those that are gone.
use Rattle.std.proofs.Common.{◌≡◌, ℕ, zero, suc, ◌<◌, ◌≤◌, List, [], ◌∷◌, length, Option, Some, None, refl, ap, sym, ◌∙◌, arith}
use Rattle.outside.specs.Streams.{total}
use Rattle.links.specs.Link.{LinkState}
use Rattle.links.specs.Links.{count_there, counted}
use Rattle.mirrors.specs.Mirrors.{gone_in, link_in, mark, there_of}
use Rattle.mirrors.proofs.ByPlace.{box_at}

-- the sum of the counts of the first n boxes, and of so many before them
abbrev pub counted_from : (ℕ → LinkState) → ℕ → ℕ → ℕ
counted_from link gone zero = gone
counted_from link gone (suc n) = total (counted_from link gone n) (link n).count

total_order : (a b c : ℕ) → total a (total b c) ≡ total (total a b) c
total_order a b c = grind arith

total_swap : (a b c : ℕ) → total a (total b c) ≡ total b (total a c)
total_swap a b c = grind arith

total_within : (a b : ℕ) → total a b ≤ 0xffff_ffff_ffff_ffff
total_within a b = grind arith

-- ---- a link that goes

module _ {G : Type 0} (count_of : G → ℕ) where
  pub gone_more : (marks : List (Option G)) (place : ℕ) (one : G) → place < count_there (there_of marks)
      → gone_in count_of (mark marks place one) ≡ total (gone_in count_of marks) (count_of one)
  gone_more [] place one less = absurd (omega arith)
  gone_more (Some other ∷ marks) place one less =
      ap (total (count_of other)) (gone_more marks place one less)
      ∙ total_order (count_of other) (gone_in count_of marks) (count_of one)
  gone_more (None ∷ marks) zero one less = total_both (count_of one) (gone_in count_of marks)
    where
      total_both : (a b : ℕ) → total a b ≡ total b a
      total_both a b = grind arith
  gone_more (None ∷ marks) (suc place) one less = gone_more marks place one (omega arith)

  gone_within : (marks : List (Option G)) → gone_in count_of marks ≤ 0xffff_ffff_ffff_ffff
  gone_within [] = omega arith
  gone_within (None ∷ marks) = gone_within marks
  gone_within (Some one ∷ marks) = total_within (count_of one) (gone_in count_of marks)

-- ---- the first added first

counted_front : (link : ℕ → LinkState) (n : ℕ)
    → counted link (suc n) ≡ total (link 0).count (counted (λ k. link (suc k)) n)
counted_front link zero = base (link 0).count
  where
    base : (c : ℕ) → total 0 c ≡ total c 0
    base c = grind arith
counted_front link (suc n) =
    ap (λ (m : ℕ). total m (link (suc n)).count) (counted_front link n)
    ∙ sym (total_order (link 0).count (counted (λ k. link (suc k)) n) (link (suc n)).count)

from_front : (link : ℕ → LinkState) (gone n : ℕ)
    → counted_from link gone (suc n) ≡ counted_from (λ k. link (suc k)) (total gone (link 0).count) n
from_front link gone zero = refl
from_front link gone (suc n) = ap (λ (m : ℕ). total m (link (suc n)).count) (from_front link gone n)

-- ---- all together

module _ {B G : Type 0} (state : B → LinkState) (last : G → LinkState) (count_of : G → ℕ)
    (counts : (one : G) → (last one).count ≡ count_of one) where
  abbrev boxes_sum : List B → ℕ
  boxes_sum [] = 0
  boxes_sum (one ∷ boxes) = total (state one).count (boxes_sum boxes)

  sum_links : (marks : List (Option G)) (boxes : List B) → count_there (there_of marks) ≡ length boxes
      → counted (link_in state last marks boxes) (length marks) ≡ total (gone_in count_of marks) (boxes_sum boxes)
  sum_links [] [] even = refl
  sum_links [] (one ∷ boxes) even = absurd (omega (arith, even))
  sum_links (None ∷ marks) [] even = absurd (omega (arith, even))
  sum_links (None ∷ marks) (one ∷ boxes) even =
      counted_front (link_in state last (None ∷ marks) (one ∷ boxes)) (length marks)
      ∙ ap (total (state one).count) (sum_links marks boxes (omega (arith, even)))
      ∙ total_swap (state one).count (gone_in count_of marks) (boxes_sum boxes)
  sum_links (Some one ∷ marks) boxes even =
      counted_front (link_in state last (Some one ∷ marks) boxes) (length marks)
      ∙ ap (total (last one).count) (sum_links marks boxes even)
      ∙ ap (λ (c : ℕ). total c (total (gone_in count_of marks) (boxes_sum boxes))) (counts one)
      ∙ total_order (count_of one) (gone_in count_of marks) (boxes_sum boxes)

  sum_boxes : (boxes : List B) (gone : ℕ) → gone ≤ 0xffff_ffff_ffff_ffff
      → counted_from (box_at state boxes) gone (length boxes) ≡ total gone (boxes_sum boxes)
  sum_boxes [] gone within = base gone within
    where
      base : (n : ℕ) → n ≤ 0xffff_ffff_ffff_ffff → n ≡ total n 0
      base n less = grind arith
  sum_boxes (one ∷ boxes) gone within =
      from_front (box_at state (one ∷ boxes)) gone (length boxes)
      ∙ sum_boxes boxes (total gone (state one).count) (total_within gone (state one).count)
      ∙ sym (total_order gone (state one).count (boxes_sum boxes))

  -- the counts of the boxes, added to those of the links that are gone, are the counts of all links
  pub sums_agree : (marks : List (Option G)) (boxes : List B) (gone : ℕ) → count_there (there_of marks) ≡ length boxes
      → gone_in count_of marks ≡ gone
      → counted_from (box_at state boxes) gone (length boxes) ≡ counted (link_in state last marks boxes) (length marks)
  sums_agree marks boxes gone even summed =
      ap (λ (n : ℕ). counted_from (box_at state boxes) n (length boxes)) (sym summed)
      ∙ sum_boxes boxes (gone_in count_of marks) (gone_within count_of marks)
      ∙ sym (sum_links marks boxes even)
