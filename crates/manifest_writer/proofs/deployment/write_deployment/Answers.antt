use Rattle.std.proofs.Common.{ap, ◌∙◌}
use Rattle.manifest_tree.specs.WrittenText.{is_element}
use Rattle.manifests.specs.Deployments.{deployment_of}
use Rattle.manifest_tree.specs.Tree.{tree_of}
use Rattle.manifest_writer.proofs.ReadDeployments.{deployment_read}
use Rattle.manifest_writer.proofs.Told.{told}
use Rattle.manifest_writer.proofs.Writable.{deployment_writable}
use Rattle.manifest_writer.proofs.deployment.write_deployment.Goals as goal

pub write_tree-requires : goal.write_tree-requires
write_tree-requires c =
    ap (is_element 1) c.in_ok-node.ensures
    ∙ deployment_writable c.args.d.now c.args.publisher.now c.args.product.now c.requires.facts c.deployment_held.ensures c.requires.publisher c.requires.product

pub returns-clause-facts : goal.returns-clause-facts
returns-clause-facts c =
    told deployment_of c.write_tree.result (tree_of c.in_ok-node.node) c.args.d.now c.write_tree.ensures.read_back
    (ap deployment_of c.in_ok-node.ensures ∙ deployment_read c.args.d.now c.requires.facts c.deployment_held.ensures c.args.publisher.now c.args.product.now)
