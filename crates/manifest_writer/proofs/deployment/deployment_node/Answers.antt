use Rattle.std.proofs.Common.{ap, ◌∙◌, map}
use Rattle.manifest_tree.specs.Tree.{tree_of}
use Rattle.manifest_writer.specs.Deployments.{deployment_tree}
use Rattle.manifest_writer.specs.Elements.{root_tree}
use Rattle.manifest_writer.proofs.Children.{more}
use Rattle.manifest_writer.proofs.deployment.deployment_node.Goals as goal

pub returns : goal.returns
unfolding deployment_tree
returns c =
    let none = ap (map tree_of) c.in_ok-children.ensures.items in
    let one = more _ _ _ _ _ none c.in_ok-add_child.ensures c.in_ok-identity_node.ensures in
    let two = more _ _ _ _ _ one c.in_ok-add_child-2.ensures c.in_ok-description_node.ensures in
    let three = more _ _ _ _ _ two c.in_ok-add_child-3.ensures c.in_ok-terms_node.ensures in
    let four = more _ _ _ _ _ three c.in_ok-add_child-4.ensures c.in_ok-dependency_node.ensures in
    c.in_ok-root.ensures ∙ ap root_tree four
