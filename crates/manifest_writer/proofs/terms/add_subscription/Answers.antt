use Rattle.std.proofs.Common.{[], ◌∷◌, ◌++◌, map, ap, ◌∙◌}
use Rattle.std.specs.Prelude.{codes}
use Rattle.manifest_tree.specs.Tree.{Tree, tree_of}
use Rattle.manifest_writer.specs.Elements.{element}
use Rattle.manifest_writer.proofs.terms.add_subscription.Goals as goal

pub returns : goal.returns
returns c =
    c.in_ok-add_child.ensures
    ∙ ap (λ (t : Tree). map tree_of c.args.children.now.items ++ t ∷ [])
    (c.in_ok-element_around.ensures ∙ ap (λ (t : Tree). element (codes "subscription") [] (t ∷ [])) c.in_ok-update.ensures)
