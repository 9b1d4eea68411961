use Rattle.std.proofs.Common.{◌≡◌, ◌+◌, ◌≤◌, ◌∷◌, false, List, length, ℕ, refl, sym, ap, subst, ◌∙◌, arith}
use Rattle.std.specs.Prelude.{codes, map}
use Rattle.std.specs.List.{flat_map}
use Rattle.manifest_tree.specs.declared.node.Attribute.{Attribute}
use Rattle.manifest_tree.specs.declared.node.Node.{Node}
use Rattle.manifest_tree.specs.declared.node.Node.TheViews.{out-Node}
use Rattle.manifest_tree.specs.Tree.{trees, tree_of}
use Rattle.manifest_tree.specs.WrittenText.{counted, escaped, start_text, end_text, is_bare}
use Rattle.manifest_tree.proofs.Pushes.{node_text, node_bare, node_full, length_two, length_four, count_end, count_item, counted_fits, counted_then, greatest}
use Rattle.manifest_tree.proofs.write.measure.+count_element.Goals as goal

pub returns-then-is_bare : goal.returns-then-is_bare
returns-then-is_bare t c =
    let n = out-Node c.args.node.now in
    let is = node_bare c.args.node.now c.as_slice-2.result.now c.as_slice-2.ensures.value (sym c.is_bare.ensures ∙ c.if-is_bare.true) in
    let start : c.count_start-start.result ≡ counted (c.args.total + length (start_text n.name n.attributes)) =
    subst (λ (a : List Attribute). c.count_start-start.result ≡ counted (c.args.total + length (start_text n.name a))) c.as_slice.ensures c.count_start-start.ensures in
    let all : c.args.total + length (start_text n.name n.attributes) + 2 ≡ c.args.total + length (node_text c.args.node.now) =
    omega (arith, ap length is, length_two (start_text n.name n.attributes) (codes "/>")) in
    counted_then (c.args.total + length (start_text n.name n.attributes)) 2 c.count_start-start.result c.saturating_add.result start c.saturating_add.ensures ∙ ap counted all

pub loop-child-init : goal.loop-child-init
loop-child-init t c = record {
  sum = refl;
  fits = subst (λ (k : ℕ). k ≤ greatest) (sym c.count_text-count.ensures) (counted_fits (c.count_start-start.result + length (62 ∷ escaped (out-Node c.args.node.now).text)));
}

pub loop-child-preserved : goal.loop-child-preserved
loop-child-preserved t c =
    let kids = c.deref-child-items.result.now in
    record {
      sum =
          count_item node_text kids c.loop-child.child-index c.child-item.result c.loop-child.count c.count_element-count.result (counted (c.count_text-count.result + length (flat_map node_text kids))) c.loop-child-test.true
          (c.count_element-count.ensures ∙ ap (λ (x : Node). counted (c.loop-child.count + length (node_text x))) c.child-item.is) c.loop-child.invariant.sum;
      fits = subst (λ (k : ℕ). k ≤ greatest) (sym c.count_element-count.ensures) (counted_fits (c.loop-child.count + length (node_text c.child-item.result)));
    }

pub returns : goal.returns
returns t c =
    let n = out-Node c.args.node.now in
    let kids = c.deref-child-items.result.now in
    let full = subst (λ (ks : List Node). is_bare (trees (map tree_of ks)) n.text ≡ false) (c.as_slice-2.ensures.value ∙ sym c.deref-child-items.ensures.value) (sym c.is_bare.ensures ∙ c.if-is_bare.false) in
    let is = node_full c.args.node.now kids c.deref-child-items.ensures.value full in
    let s = length (start_text n.name n.attributes) in
    let x = length (62 ∷ escaped n.text) in
    let k = length (flat_map node_text kids) in
    let e = length (end_text n.name) in
    let start : c.count_start-start.result ≡ counted (c.args.total + s) =
    subst (λ (a : List Attribute). c.count_start-start.result ≡ counted (c.args.total + length (start_text n.name a))) c.as_slice.ensures c.count_start-start.ensures in
    let text : c.count_text-count.result ≡ counted (c.args.total + s + x) = counted_then (c.args.total + s) x c.count_start-start.result c.count_text-count.result start c.count_text-count.ensures in
    let inner : c.loop-child.count ≡ counted (c.count_text-count.result + k) =
    count_end node_text kids c.loop-child.child-index c.loop-child.count (counted (c.count_text-count.result + k)) c.loop-child-test.false c.loop-child.invariant.fits c.loop-child.invariant.sum in
    let content : c.loop-child.count ≡ counted (c.args.total + s + x + k) = counted_then (c.args.total + s + x) k c.count_text-count.result c.loop-child.count text inner in
    let all : c.args.total + s + x + k + e ≡ c.args.total + length (node_text c.args.node.now) =
    omega (arith, ap length is, length_four (start_text n.name n.attributes) (62 ∷ escaped n.text) (flat_map node_text kids) (end_text n.name)) in
    counted_then (c.args.total + s + x + k) e c.loop-child.count c.count_end.result content c.count_end.ensures ∙ ap counted all
