-- The tree of a text, as what its elements say.
use Rattle.std.specs.Prelude.{ℕ, List, [], ◌∷◌}
use Rattle.manifest_tree.specs.declared.node.Attribute.{Attribute}
use Rattle.manifest_tree.specs.declared.node.Node.{Node}
use Rattle.manifest_tree.specs.declared.node.Node.TheOpen.{Node-F}
use Rattle.manifest_tree.specs.declared.node.Node.TheFolds.{fold-Node}

-- an element, and elements in order
mutual
  pub data Tree : Type 0 where
    tree : (name : List ℕ) (attributes : List Attribute) (children : Trees) (text : List ℕ) → Tree

  pub data Trees : Type 0 where
    none : Trees
    more : (first : Tree) (others : Trees) → Trees

-- elements, and one behind them
abbrev pub with_last : Trees → Tree → Trees
with_last none t = more t none
with_last (more s ts) t = more s (with_last ts t)

-- elements, and others behind them
abbrev pub joined : Trees → Trees → Trees
joined none us = us
joined (more t ts) us = more t (joined ts us)

abbrev pub trees : List Tree → Trees
trees [] = none
trees (t ∷ ts) = more t (trees ts)

-- one node, with the tree of each child in its place
abbrev pub tree_step : Node-F Tree → Tree
tree_step n = tree n.name n.attributes (trees n.children.items) n.text

-- the tree that a node is: its name, attributes and text, and the trees of the elements of its
-- vector
abbrev pub tree_of : Node → Tree
tree_of = fold-Node Tree tree_step
