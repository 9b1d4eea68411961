use Rattle.std.proofs.Common.{sym, ap, ◌∙◌}
use Rattle.manifest_tree.specs.Tree.{tree_of}
use Rattle.manifest_parts.proofs.Readings.{gives_same}
use Rattle.manifests.proofs.ListingLemmas.{some_read, file_lists, dependency_lists, other_lists}
use Rattle.manifests.proofs.listing.listing_of.Goals as goal

pub returns-then-is_file : goal.returns-then-is_file
returns-then-is_file c =
    file_lists (tree_of c.args.child.now) (sym c.is_called-is_file.ensures ∙ c.if-is_file.true) ∙ ap some_read (sym c.of_file.ensures)

pub returns-then-is_dependency : goal.returns-then-is_dependency
returns-then-is_dependency c =
    gives_same _ _ _ _
    (dependency_lists (tree_of c.args.child.now) (sym c.is_called-is_file.ensures ∙ c.if-is_file.false) (sym c.is_called-is_dependency.ensures ∙ c.if-is_dependency.true))
    c.of_dependency.ensures

pub returns : goal.returns
returns c = other_lists (tree_of c.args.child.now) (sym c.is_called-is_file.ensures ∙ c.if-is_file.false) (sym c.is_called-is_dependency.ensures ∙ c.if-is_dependency.false)
