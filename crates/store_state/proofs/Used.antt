-- The blocks that tables count.
use Rattle.std.proofs.Common.{◌≡◌, ◌∙◌, ◌+◌, refl, sym, ap, ℕ, List, [], ◌∷◌, map, min, arith}
use Rattle.std.specs.Prelude.{flat_map, sum_by}
use Rattle.std.proofs.lemmas.List.Sums.{sum_by-append}
use Rattle.machine.specs.Blocks.{blocks_of, standing_files, used_blocks}
use Rattle.machine.specs.Shape.{BareData, BareView}
use Rattle.machine.proofs.Members.{sum_map}
use Rattle.store_state.specs.declared.view.Content.{Content}
use Rattle.store_state.specs.declared.view.LocalFile.{LocalFile}
use Rattle.store_state.specs.declared.view.View.{View}
use Rattle.store_state.specs.Contents.{AreContentsOf}
use Rattle.store_state.specs.Tables.{bare_local, bare_row}
use Rattle.store_state.proofs.Keyed.{blocks_by}

-- data files, with their bytes and without
local_blocks : (views : List View) → sum_by (λ (file : LocalFile). blocks_of file.length) (flat_map (λ (view : View). view.locals) views) ≡ sum_by (λ (file : BareData). blocks_of file.length) (flat_map (λ (view : BareView). view.data_files) (map bare_row views))
local_blocks [] = refl
local_blocks (view ∷ views) =
    let weigh = λ (file : LocalFile). blocks_of file.length in
    let bare = λ (file : BareData). blocks_of file.length in
    sum_by-append weigh view.locals (flat_map (λ (v : View). v.locals) views)
    ∙ omega (arith, local_blocks views, sum_map bare_local bare view.locals)
    ∙ sym (sum_by-append bare (map bare_local view.locals) (flat_map (λ (v : BareView). v.data_files) (map bare_row views)))

cut_sum : (contents locals entries bares limit sum all : ℕ) → contents ≡ entries → locals ≡ bares → sum ≡ min contents limit → all ≡ min (sum + locals) limit → all ≡ min (entries + bares) limit
cut_sum contents locals entries bares limit sum all same_contents same_locals summed added = omega (arith, same_contents, same_locals, summed, added)

pub used_is : (views : List View) (contents : List Content) (read_views : List View) (read_contents : List Content) → AreContentsOf (standing_files (map bare_row views)) contents → read_views ≡ views → read_contents ≡ contents → (sum all : ℕ) → sum ≡ min (sum_by (λ (content : Content). blocks_of content.size) read_contents) 18446744073709551615 → all ≡ min (sum + sum_by (λ (file : LocalFile). blocks_of file.length) (flat_map (λ (view : View). view.locals) read_views)) 18446744073709551615 → all ≡ min (used_blocks (map bare_row views)) 18446744073709551615
used_is views contents read_views read_contents are same_views same_contents sum all summed added =
    cut_sum _ _ _ _ 18446744073709551615 sum all (blocks_by (standing_files (map bare_row views)) contents are) (local_blocks views)
    (summed ∙ ap (λ (cs : List Content). min (sum_by (λ (content : Content). blocks_of content.size) cs) 18446744073709551615) same_contents)
    (added ∙ ap (λ (vs : List View). min (sum + sum_by (λ (file : LocalFile). blocks_of file.length) (flat_map (λ (view : View). view.locals) vs)) 18446744073709551615) same_views)
