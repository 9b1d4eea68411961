use Rattle.std.proofs.Common.{List, ◌++◌, ap, ◌∙◌, map}
use Rattle.manifest_tree.specs.Tree.{tree_of}
use Rattle.manifests.specs.declared.facts.FileEntry.{FileEntry}
use Rattle.manifest_writer.specs.Applications.{file_tree, application_tree}
use Rattle.manifest_writer.specs.Elements.{root_tree}
use Rattle.manifest_writer.proofs.Children.{more, others}
use Rattle.manifest_writer.proofs.application.application_node.Goals as goal

pub returns : goal.returns
unfolding application_tree
returns c =
    c.in_ok-root.ensures
    ∙ ap root_tree
    (others _ _ _ _
    (more _ _ _ _ _ (more _ _ _ _ _ (ap (map tree_of) c.new-children.ensures.items) c.in_ok-add_child.ensures c.in_ok-identity_node.ensures) c.in_ok-add_child-2.ensures c.in_ok-entry_node.ensures)
    (c.in_ok-add_files.ensures ∙ ap (λ (files : List FileEntry). map tree_of c.add_child-2.new.children.items ++ map file_tree files) c.as_slice.ensures))
