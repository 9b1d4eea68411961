use Rattle.std.proofs.Common.{◌≡◌, ◌++◌, ◌∷◌, List, ℕ, sym, ap, subst, ◌∙◌}
use Rattle.std.specs.Prelude.{codes, map, false}
use Rattle.std.specs.List.{flat_map}
use Rattle.std.specs.Str.{IsUtf8}
use Rattle.std.proofs.lemmas.Result.{on_ok_weaker}
use Rattle.manifest_tree.specs.declared.node.Node.{Node}
use Rattle.manifest_tree.specs.declared.node.Attribute.{Attribute}
use Rattle.manifest_tree.specs.declared.node.Node.TheViews.{out-Node}
use Rattle.manifest_tree.specs.WrittenText.{escaped, start_text, end_text, is_bare}
use Rattle.manifest_tree.specs.Tree.{trees, tree_of}
use Rattle.manifest_tree.proofs.Written.{bare_utf8}
use Rattle.manifest_tree.proofs.Pushes.{node_text, node_bare, node_full, pushed_two, pushed_four, utf8_four, push_item, push_end, utf8_item, utf8_end, on_ok}
use Rattle.manifest_tree.proofs.write.node.+push_element.Goals as goal

pub returns-then-is_bare-clause-text : goal.returns-then-is_bare-clause-text
returns-then-is_bare-clause-text t c =
    let n = out-Node c.args.node.now in
    let start = start_text n.name n.attributes in
    let is = node_bare c.args.node.now c.as_slice-2.result.now c.as_slice-2.ensures.value (sym c.is_bare.ensures ∙ c.if-is_bare.true) in
    on_ok_weaker c.extend.result
    (λ (added : c.extend.new.self ≡ c.push_start.new.out ++ codes "/>").
    pushed_two c.args.out.now start c.push_start.new.out (codes "/>") c.extend.new.self (subst (λ (a : List Attribute). c.push_start.new.out ≡ c.args.out.now ++ start_text n.name a) c.as_slice.ensures c.in_ok-push_start.ensures.text) added ∙ ap (λ (l : List ℕ). c.args.out.now ++ l) (sym is)) c.extend.ensures.ok

pub returns-then-is_bare-clause-utf8 : goal.returns-then-is_bare-clause-utf8
returns-then-is_bare-clause-utf8 t c =
    let n = out-Node c.args.node.now in
    let is = node_bare c.args.node.now c.as_slice-2.result.now c.as_slice-2.ensures.value (sym c.is_bare.ensures ∙ c.if-is_bare.true) in
    on_ok c.extend.result (IsUtf8 (node_text c.args.node.now)) (subst IsUtf8 (sym is) (bare_utf8 (start_text n.name n.attributes) (subst (λ (a : List Attribute). IsUtf8 (start_text n.name a)) c.as_slice.ensures c.in_ok-push_start.ensures.utf8)))

pub loop-child-preserved : goal.loop-child-preserved
loop-child-preserved t c =
    let i = c.loop-child.child-index in
    let kids = c.deref-child-items.result.now in
    let kid = c.child-item.result in
    record {
      text = push_item node_text kids i kid c.loop-child.out c.push_element.new.out (c.push_text.new.out ++ flat_map node_text kids) c.loop-child-test.true
          (c.in_ok-push_element.ensures.text ∙ ap (λ (x : Node). c.loop-child.out ++ node_text x) c.child-item.is) c.loop-child.invariant.text;
      utf8 = utf8_item node_text kids i kid (flat_map node_text kids) c.loop-child-test.true
          (subst (λ (x : Node). IsUtf8 (node_text x)) c.child-item.is c.in_ok-push_element.ensures.utf8) c.loop-child.invariant.utf8;
    }

pub returns-clause-text : goal.returns-clause-text
returns-clause-text t c =
    let n = out-Node c.args.node.now in
    let kids = c.deref-child-items.result.now in
    let is = node_full c.args.node.now kids c.deref-child-items.ensures.value (subst (λ (ks : List Node). is_bare (trees (map tree_of ks)) n.text ≡ false) (c.as_slice-2.ensures.value ∙ sym c.deref-child-items.ensures.value) (sym c.is_bare.ensures ∙ c.if-is_bare.false)) in
    on_ok_weaker c.push_end.result
    (λ (added : c.push_end.new.out ≡ c.loop-child.out ++ end_text n.name).
    pushed_four c.args.out.now (start_text n.name n.attributes) c.push_start.new.out (62 ∷ escaped n.text) c.push_text.new.out (flat_map node_text kids) c.loop-child.out (end_text n.name) c.push_end.new.out
    (subst (λ (a : List Attribute). c.push_start.new.out ≡ c.args.out.now ++ start_text n.name a) c.as_slice.ensures c.in_ok-push_start.ensures.text) c.in_ok-push_text.ensures.text
    (push_end node_text kids c.loop-child.child-index c.loop-child.out (c.push_text.new.out ++ flat_map node_text kids) c.loop-child-test.false c.loop-child.invariant.text) added
    ∙ ap (λ (l : List ℕ). c.args.out.now ++ l) (sym is)) c.push_end.ensures.text

pub returns-clause-utf8 : goal.returns-clause-utf8
returns-clause-utf8 t c =
    let n = out-Node c.args.node.now in
    let kids = c.deref-child-items.result.now in
    let is = node_full c.args.node.now kids c.deref-child-items.ensures.value (subst (λ (ks : List Node). is_bare (trees (map tree_of ks)) n.text ≡ false) (c.as_slice-2.ensures.value ∙ sym c.deref-child-items.ensures.value) (sym c.is_bare.ensures ∙ c.if-is_bare.false)) in
    on_ok_weaker c.push_end.result
    (λ (ended : IsUtf8 (end_text n.name)).
    subst IsUtf8 (sym is) (utf8_four (start_text n.name n.attributes) (62 ∷ escaped n.text) (flat_map node_text kids) (end_text n.name) (subst (λ (a : List Attribute). IsUtf8 (start_text n.name a)) c.as_slice.ensures c.in_ok-push_start.ensures.utf8) c.in_ok-push_text.ensures.utf8
    (utf8_end node_text kids c.loop-child.child-index (flat_map node_text kids) c.loop-child-test.false c.loop-child.invariant.utf8) ended)) c.push_end.ensures.utf8
