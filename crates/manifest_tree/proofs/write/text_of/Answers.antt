use Rattle.std.proofs.Common.{◌∙◌}
use Rattle.manifest_tree.specs.Tree.{tree_of}
use Rattle.manifest_tree.proofs.Written.{written_pushed}
use Rattle.manifest_tree.proofs.write.text_of.Goals as goal

pub returns-clause-text : goal.returns-clause-text
returns-clause-text c =
    written_pushed (tree_of c.args.node.now) c.from_vec-text.result c.extend.new.self c.push_element.new.out c.extend-2.new.self
    (c.from_vec-text.ensures ∙ c.in_ok-with_capacity.ensures.items) c.in_ok-extend.ensures.ok c.in_ok-push_element.ensures.text c.in_ok-extend-2.ensures.ok
