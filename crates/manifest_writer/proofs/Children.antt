-- The trees of children, one more of which is added.
use Rattle.std.proofs.Common.{◌≡◌, List, [], ◌∷◌, ◌++◌, map, ap, ◌∙◌}
use Rattle.std.proofs.lemmas.List.{map-append}
use Rattle.manifest_tree.specs.declared.node.Node.{Node}
use Rattle.manifest_tree.specs.Tree.{Tree, tree_of}

pub pushed : (old new : List Node) (child : Node) → new ≡ old ++ child ∷ [] → map tree_of new ≡ map tree_of old ++ tree_of child ∷ []
pushed old new child is = ap (map tree_of) is ∙ map-append tree_of old (child ∷ [])

-- one more child behind those that are known
pub more : (before after known : List Tree) (child t : Tree) → before ≡ known → after ≡ before ++ child ∷ [] → child ≡ t → after ≡ known ++ t ∷ []
more before after known child t were is child_is = is ∙ ap (λ (ts : List Tree). ts ++ child ∷ []) were ∙ ap (λ (u : Tree). known ++ u ∷ []) child_is

pub others : (before after known ts : List Tree) → before ≡ known → after ≡ before ++ ts → after ≡ known ++ ts
others before after known ts were is = is ∙ ap (λ (us : List Tree). us ++ ts) were
