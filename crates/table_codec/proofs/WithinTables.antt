-- An encoding is within what its tables weigh, where each file has as many blocks as its length
-- needs.
use Rattle.std.proofs.Common.{◌≤◌, ℕ, List, [], ◌∷◌, All, arith}
use Rattle.std.specs.Prelude.{sum_by}
use Rattle.std.proofs.lemmas.List.Elements.{All-head, All-tail}
use Rattle.std.proofs.lemmas.List.Sums.{sum_by-cons}
use Rattle.store_state.specs.declared.view.Content.{Content}
use Rattle.store_state.specs.declared.view.LocalFile.{LocalFile}
use Rattle.store_state.specs.declared.view.View.{View}
use Rattle.store_state.specs.Contents.{IsMeasured}
use Rattle.store_state.specs.Measured.{IsMeasuredLocal}
use Rattle.store_state.specs.Stored.{IsHeldFor}
use Rattle.table_codec.specs.Laws.{AreWithinTableWeights}
use Rattle.table_codec.proofs.Within.{fields_within}
use Rattle.table_weight.specs.Weight.{block_cost, content_weight, local_weight, spelled_cost, view_weight, weight_with}

held_within : (size : ℕ) (held : List ℕ) → IsHeldFor size held
    → spelled_cost size held ≤ block_cost size held
held_within size held is = omega (arith, is)

-- sums of what is at most so much for each
pub sums_within : {A : Type 0} (f g : A → ℕ) (P : A → Type 0) (xs : List A)
    → ((x : A) → P x → f x ≤ g x) → All P xs → sum_by f xs ≤ sum_by g xs
sums_within f g P [] each all = omega arith
sums_within f g P (x ∷ xs) each all =
    omega (
      arith,
      each x (All-head P x xs all),
      sums_within f g P xs each (All-tail P x xs all),
      sum_by-cons f x xs,
      sum_by-cons g x xs,
    )

local_blocks : (f : LocalFile) → IsMeasuredLocal f
    → local_weight spelled_cost f ≤ local_weight block_cost f
unfolding local_weight
local_blocks f is = omega (arith, held_within f.length f.held is)

pub content_blocks : (c : Content) → IsMeasured c
    → content_weight spelled_cost c ≤ content_weight block_cost c
unfolding content_weight
content_blocks c is = omega (arith, held_within c.size c.held is)

pub view_blocks : (v : View) → All IsMeasuredLocal v.locals
    → view_weight spelled_cost v ≤ view_weight block_cost v
unfolding view_weight
view_blocks v is =
    omega (
      arith,
      sums_within (local_weight spelled_cost) (local_weight block_cost) IsMeasuredLocal v.locals
          local_blocks is,
    )

pub within_tables : AreWithinTableWeights
unfolding weight_with
within_tables t are have measured =
    omega (
      arith,
      fields_within t are.few_leases have,
      sums_within (view_weight spelled_cost) (view_weight block_cost)
          (λ (v : View). All IsMeasuredLocal v.locals) t.views view_blocks measured.locals,
      sums_within (content_weight spelled_cost) (content_weight block_cost) IsMeasured t.contents
          content_blocks measured.contents,
    )
