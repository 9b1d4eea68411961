-- Whether an element can be written, from its own parts and its children.
use Rattle.std.proofs.Common.{◌≡◌, ℕ, suc, ◌+◌, ◌<◌, ◌≤◌, Bool, true, false, List, [], length, get_or, drop, sym, ap, ◌∙◌}
use Rattle.std.specs.Prelude.{◌&&◌, map, nat_le}
use Rattle.std.proofs.lemmas.Bool.{and_parts, le-leb}
use Rattle.std.proofs.lemmas.List.{at_drop_more, at_drop_all}
use Rattle.manifest_tree.specs.declared.node.Node.{Node}
use Rattle.manifest_tree.specs.declared.node.Node.TheViews.{out-Node}
use Rattle.manifest_tree.specs.Tree.{trees, tree_of}
use Rattle.manifest_tree.specs.WrittenText.{is_name, is_content, are_attributes, is_element, are_elements}
use Rattle.manifest_tree.proofs.Pushes.{tree_opened}

abbrev pub are_nodes : ℕ → List Node → Bool
are_nodes level nodes = are_elements level (trees (map tree_of nodes))

lower : (level : ℕ) → level ≤ 64 → nat_le level 64 ≡ true
lower level shallow = le-leb level 64 shallow

-- with parts of its own that are of the grammar, the children decide
pub by_children : (level : ℕ) (node : Node) (kids : List Node) → kids ≡ (out-Node node).children.items → level ≤ 64
    → (let n = out-Node node in (is_name n.name && (are_attributes [] n.attributes && is_content n.text)) ≡ true) → is_element level (tree_of node) ≡ are_nodes (suc level) kids
by_children level node kids kids_are shallow own =
    let n = out-Node node in
    let p = and_parts (is_name n.name) (are_attributes [] n.attributes && is_content n.text) own in
    let q = and_parts (are_attributes [] n.attributes) (is_content n.text) p.1 in
    let rest = are_nodes (suc level) n.children.items in
    ap (is_element level) (tree_opened node)
    ∙ ap (λ (b : Bool). b && (is_name n.name && (are_attributes [] n.attributes && (is_content n.text && rest)))) (lower level shallow)
    ∙ ap (λ (b : Bool). b && (are_attributes [] n.attributes && (is_content n.text && rest))) p.0
    ∙ ap (λ (b : Bool). b && (is_content n.text && rest)) q.0
    ∙ ap (λ (b : Bool). b && rest) q.1
    ∙ ap (are_nodes (suc level)) (sym kids_are)

-- a child that cannot be written
pub by_child : (level i : ℕ) (nodes : List Node) (node : Node) → i < length nodes → node ≡ get_or nodes i node → is_element level (tree_of node) ≡ false → are_nodes level (drop i nodes) ≡ false
by_child level i nodes node inside is refused =
    at_drop_more (are_nodes level) nodes i node inside
    ∙ ap (λ (x : Node). is_element level (tree_of x) && are_nodes level (drop (i + 1) nodes)) (sym is)
    ∙ ap (λ (b : Bool). b && are_nodes level (drop (i + 1) nodes)) refused

pub no_more : (level i : ℕ) (nodes : List Node) → length nodes ≤ i → are_nodes level (drop i nodes) ≡ true
no_more level i nodes outside = at_drop_all (are_nodes level) nodes i outside
